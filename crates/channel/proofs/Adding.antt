-- Elapsed time adds up for a channel: two calls leave what one with the sum leaves.
use Prim.Native.Nat.{ℕ, ◌+◌, ◌≤◌, ◌<◌}
use native.Mathlib.Nat.{sub-add-eq, zero-sub}
use native.Mathlib.Omega.{arith}
use mathlib.Core.Logic.{◌↔◌, ◌≢◌, ◌⊎◌, inl, inr}
use mathlib.Core.Path.{◌≡◌, refl}
use Rattle.laws.proofs.Cases.{by-lt, by_le, by-eq}
use Rattle.sender.specs.declared.Sender.{Sender}
use Rattle.sender.specs.declared.Terms.{Terms}
use Rattle.sender.specs.declared.Passing.TheVariants.{UsedUp as RanOut}
use Rattle.sender.specs.Sending.{passed}
use Rattle.sender.proofs.Time.{RunsOut, passed-used_up}
use Rattle.sender.proofs.Adding.{passed-adds}
use Rattle.channel.specs.declared.Channel.{Channel}
use Rattle.channel.specs.declared.Answer.TheVariants.{Good, UsedUp}
use Rattle.channel.specs.declared.Answered.{Answered}
use Rattle.channel.specs.Opened.{elapsed}
use Rattle.channel.proofs.Rules.{RepeatsSpent, TestsSpent, good-lasts, elapsed-on, elapsed-test, elapsed-spent}

-- x after a first time, y after a second from what x left, z after both at once: 8 at one of the two exactly where it is given at once, and else the same is left
pub record Adds (x y z : Answered) : Type 0 where
  pub used : z.answer ≡ UsedUp ↔ ((x.answer ≡ UsedUp) ⊎ (y.answer ≡ UsedUp))
  pub left : z.answer ≢ UsedUp → y.channel ≡ z.channel

lasts : {p q r : Channel} → q ≡ r → Adds (record { answer = Good; channel = p }) (record { answer = Good; channel = q }) (record { answer = Good; channel = r })
lasts e = record { used = (λ u. absurd (good-lasts u), go); left = λ _. e }
  where
    go : (Good ≡ UsedUp) ⊎ (Good ≡ UsedUp) → Good ≡ UsedUp
    go (inl u) = u
    go (inr u) = u

spent : {x y z : Answered} → (x.answer ≡ UsedUp) ⊎ (y.answer ≡ UsedUp) → z.answer ≡ UsedUp → Adds x y z
spent o u = record { used = (λ _. o, λ _. u); left = λ h. absurd (h u) }

repeats-spent : (c : Channel) (n : ℕ) → RepeatsSpent c n ⊎ (RepeatsSpent c n → ⊥)
repeats-spent c n =
    by_le P c.sender.wait n {x = 0} {y = 0} (λ over. by-lt P 0 c.sender.wait {x = 0} {y = 0} (λ runs.
    by_le P c.parameters.terms.repeats c.sender.count {x = 0} {y = 0} (λ spent. inl (omega arith)) (λ left. inr λ r. omega arith))
    (λ none. inr λ r. omega arith)) (λ on. inr λ r. omega arith)
  where
    P : ℕ → Type 0
    P _ = RepeatsSpent c n ⊎ (RepeatsSpent c n → ⊥)

tests-spent : (c : Channel) (n : ℕ) → TestsSpent c n ⊎ (TestsSpent c n → ⊥)
tests-spent c n =
    by_le P c.tests.wait n {x = 0} {y = 0} (λ over. by-lt P 0 c.tests.wait {x = 0} {y = 0} (λ runs.
    by_le P c.parameters.allowed c.tests.unanswered {x = 0} {y = 0} (λ spent. inl (omega arith)) (λ left. inr λ r. omega arith))
    (λ none. inr λ r. omega arith)) (λ on. inr λ r. omega arith)
  where
    P : ℕ → Type 0
    P _ = TestsSpent c n ⊎ (TestsSpent c n → ⊥)

module _ (c : Channel) (a b : ℕ) where
  abbrev Sums : Type 0
  Sums = Adds (elapsed c a) (elapsed (elapsed c a).channel b) (elapsed c (a + b))

  by_parts : {x y z : Answered} → elapsed c a ≡ x → elapsed x.channel b ≡ y → elapsed c (a + b) ≡ z → Adds x y z → Sums
  by_parts p q r h = rw (p, q, r) h

  -- the repeats or the tests are used up in the first time
  first-spent : RepeatsSpent c a ⊎ TestsSpent c a → Sums
  first-spent s = by_parts (elapsed-spent c a s) refl (elapsed-spent c (a + b) (go s)) (spent (inl refl) refl)
    where
      go : RepeatsSpent c a ⊎ TestsSpent c a → RepeatsSpent c (a + b) ⊎ TestsSpent c (a + b)
      go (inl s) = inl (omega arith)
      go (inr s) = inr (omega arith)

  abbrev terms : Terms
  terms = c.parameters.terms

  -- the sending half after the first time
  abbrev half : Sender
  half = (passed terms c.sender a).sender

  -- the repeats are used up in the second time
  half-spent : (RepeatsSpent c a → ⊥) → RepeatsSpent c (a + b) → RunsOut half b × terms.repeats ≤ half.count
  half-spent first s = go ((passed-adds terms c.sender a b).used.0 ((passed-used_up terms c.sender (a + b)).1 (omega arith)))
    where
      go : ((passed terms c.sender a).note ≡ RanOut) ⊎ ((passed terms half b).note ≡ RanOut) → RunsOut half b × terms.repeats ≤ half.count
      go (inl e) = let u = (passed-used_up terms c.sender a).0 e in absurd (first (omega arith))
      go (inr e) = (passed-used_up terms half b).0 e

  -- they are not
  module _ (on : RepeatsSpent c (a + b) → ⊥) where
    half-on : RunsOut half b × terms.repeats ≤ half.count → ⊥
    half-on s = let u = (passed-used_up terms c.sender (a + b)).0 ((passed-adds terms c.sender a b).used.1 (inr ((passed-used_up terms half b).1 s))) in on (omega arith)

    half-same : (passed terms half b).sender ≡ (passed terms c.sender (a + b)).sender
    half-same = (passed-adds terms c.sender a b).left λ e. let u = (passed-used_up terms c.sender (a + b)).0 e in on (omega arith)

    first_on : RepeatsSpent c a → ⊥
    first_on s = on (omega arith)

    -- no test's wait ends
    none-ends : (c.tests.wait ≡ 0) ⊎ (a + b < c.tests.wait) → Sums
    none-ends (inl e) =
        by_parts (elapsed-on c a first_on (inl e)) (elapsed-on _ b (λ s. half-on (omega arith)) (inl (omega arith))) (elapsed-on c (a + b) on (inl e))
        (lasts (rw half-same (simp sub-add-eq)))
    none-ends (inr h) =
        by_parts (elapsed-on c a first_on (inr (omega arith))) (elapsed-on _ b (λ s. half-on (omega arith)) (inr (omega arith))) (elapsed-on c (a + b) on (inr h))
        (lasts (rw half-same (simp sub-add-eq)))

    -- one ends in the first time, and nothing is left to end in the second
    first_ends : 0 < c.tests.wait → c.tests.wait ≤ a → c.tests.unanswered < c.parameters.allowed → Sums
    first_ends runs over left =
        by_parts (elapsed-test c a first_on runs over left) (elapsed-on _ b (λ s. half-on (omega arith)) (inl refl)) (elapsed-test c (a + b) on runs (omega arith) left)
        (lasts (rw half-same (simp (sub-add-eq, zero-sub))))

    -- one ends in the second
    second-ends : a < c.tests.wait → c.tests.wait ≤ a + b → Sums
    second-ends runs over =
        by_le (λ (_ : ℕ). Sums) c.parameters.allowed c.tests.unanswered {x = 0} {y = 0}
        (λ none. by_parts (elapsed-on c a first_on (inr runs)) (elapsed-spent _ b (inr (omega arith))) (elapsed-spent c (a + b) (inr (omega arith))) (spent (inr refl) refl))
        λ left. by_parts (elapsed-on c a first_on (inr runs)) (elapsed-test _ b (λ s. half-on (omega arith)) (omega arith) (omega arith) left)
        (elapsed-test c (a + b) on (omega arith) over left) (lasts (rw half-same (simp sub-add-eq)))

  -- the repeats are used up in the second time
  second-spent : (RepeatsSpent c a → ⊥) → (TestsSpent c a → ⊥) → RepeatsSpent c (a + b) → Sums
  second-spent first tests s =
      let u = half-spent first s in
      let z = elapsed-spent c (a + b) (inl s) in
      by-eq (λ (_ : ℕ). Sums) c.tests.wait 0 {x = 0} {y = 0}
      (λ e. by_parts (elapsed-on c a first (inl e)) (elapsed-spent _ b (inl (omega arith))) z (spent (inr refl) refl)) λ runs.
      by-lt (λ (_ : ℕ). Sums) a c.tests.wait {x = 0} {y = 0}
      (λ h. by_parts (elapsed-on c a first (inr h)) (elapsed-spent _ b (inl (omega arith))) z (spent (inr refl) refl)) λ over.
      by_le (λ (_ : ℕ). Sums) c.parameters.allowed c.tests.unanswered {x = 0} {y = 0} (λ none. absurd (tests (omega arith)))
      λ left. by_parts (elapsed-test c a first (omega arith) over left) (elapsed-spent _ b (inl (omega arith))) z (spent (inr refl) refl)

  -- no repeats are used up, nor the tests in the first time
  runs : (TestsSpent c a → ⊥) → (RepeatsSpent c (a + b) → ⊥) → Sums
  runs tests on =
      by-eq (λ (_ : ℕ). Sums) c.tests.wait 0 {x = 0} {y = 0} (λ none. none-ends on (inl none)) λ some.
      by-lt (λ (_ : ℕ). Sums) (a + b) c.tests.wait {x = 0} {y = 0} (λ h. none-ends on (inr h)) λ over.
      by-lt (λ (_ : ℕ). Sums) a c.tests.wait {x = 0} {y = 0} (λ h. second-ends on h over) λ first.
      by_le (λ (_ : ℕ). Sums) c.parameters.allowed c.tests.unanswered {x = 0} {y = 0} (λ none. absurd (tests (omega arith)))
      λ left. first_ends on (omega arith) first left

  -- "large values count in full": a and then b is a + b
  pub elapsed-adds : Adds (elapsed c a) (elapsed (elapsed c a).channel b) (elapsed c (a + b))
  elapsed-adds = go (repeats-spent c a) (tests-spent c a) (repeats-spent c (a + b))
    where
      go : RepeatsSpent c a ⊎ (RepeatsSpent c a → ⊥) → TestsSpent c a ⊎ (TestsSpent c a → ⊥) → RepeatsSpent c (a + b) ⊎ (RepeatsSpent c (a + b) → ⊥) → Sums
      go (inl s) _ _ = first-spent (inl s)
      go (inr first) (inl s) _ = first-spent (inr s)
      go (inr first) (inr tests) (inl s) = second-spent first tests s
      go (inr first) (inr tests) (inr on) = runs tests on
