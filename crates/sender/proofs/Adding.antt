-- Elapsed time adds up: two calls leave what one with the sum leaves.
use Prim.Native.Nat.{ℕ, ◌+◌, ◌≤◌, ◌<◌}
use native.Mathlib.Nat.{sub-add-eq, zero-sub}
use native.Mathlib.Omega.{arith}
use mathlib.Core.Logic.{◌↔◌, ◌≢◌, ◌⊎◌, inl, inr}
use mathlib.Core.Path.{◌≡◌, refl}
use Rattle.laws.proofs.Cases.{by-lt, by_le, by-eq}
use Rattle.sender.specs.declared.Terms.{Terms}
use Rattle.sender.specs.declared.Sender.{Sender}
use Rattle.sender.specs.declared.Passed.{Passed}
use Rattle.sender.specs.declared.Passing.TheVariants.{Quiet, Again, UsedUp}
use Rattle.sender.specs.Sending.{passed}
use Rattle.sender.proofs.Rules.{time-quiet, time-again, time-spent}

-- x after a first time, y after a second from what x left, z after both at once: the repeats are used up at one of the two exactly where they are at once, and else the same is left
pub record Adds (x y z : Passed) : Type 0 where
  pub used : z.note ≡ UsedUp ↔ ((x.note ≡ UsedUp) ⊎ (y.note ≡ UsedUp))
  pub left : z.note ≢ UsedUp → y.sender ≡ z.sender

quiet-lasts : Quiet ≢ UsedUp
quiet-lasts e = let z : ◌≡◌ {A = ℕ} 0 1 = cc in omega arith

again-lasts : Again ≢ UsedUp
again-lasts e = let z : ◌≡◌ {A = ℕ} 0 1 = cc in omega arith

-- no repeats are used up
lasts : {x y z : Passed} → x.note ≢ UsedUp → y.note ≢ UsedUp → z.note ≢ UsedUp → y.sender ≡ z.sender → Adds x y z
lasts {x} {y} {z} p q r e = record { used = (λ u. absurd (r u), go); left = λ _. e }
  where
    go : (x.note ≡ UsedUp) ⊎ (y.note ≡ UsedUp) → z.note ≡ UsedUp
    go (inl u) = absurd (p u)
    go (inr u) = absurd (q u)

-- they are
spent : {x y z : Passed} → (x.note ≡ UsedUp) ⊎ (y.note ≡ UsedUp) → z.note ≡ UsedUp → Adds x y z
spent o u = record { used = (λ _. o, λ _. u); left = λ h. absurd (h u) }

module _ (t : Terms) (s : Sender) (a b : ℕ) where
  abbrev Sums : Type 0
  Sums = Adds (passed t s a) (passed t (passed t s a).sender b) (passed t s (a + b))

  by_parts : {x y z : Passed} → passed t s a ≡ x → passed t x.sender b ≡ y → passed t s (a + b) ≡ z → Adds x y z → Sums
  by_parts p q r h = rw (p, q, r) h

  -- no wait ends in either time
  none-ends : (s.wait ≡ 0) ⊎ (a + b < s.wait) → Sums
  none-ends (inl e) =
      by_parts (time-quiet t s a (inl e)) (time-quiet t _ b (inl (omega arith))) (time-quiet t s (a + b) (inl e))
      (lasts quiet-lasts quiet-lasts quiet-lasts (simp sub-add-eq))
  none-ends (inr h) =
      by_parts (time-quiet t s a (inr (omega arith))) (time-quiet t _ b (inr (omega arith))) (time-quiet t s (a + b) (inr h))
      (lasts quiet-lasts quiet-lasts quiet-lasts (simp sub-add-eq))

  -- one ends in the first: nothing is left to end in the second
  first_ends : 0 < s.wait → s.wait ≤ a → Sums
  first_ends runs over =
      by_le (λ (_ : ℕ). Sums) t.repeats s.count {x = 0} {y = 0}
      (λ none. let p = time-spent t s a runs over none in by_parts p refl (time-spent t s (a + b) runs (omega arith) none) (spent (inl refl) refl))
      λ more. by_parts (time-again t s a runs over more) (time-quiet t _ b (inl refl)) (time-again t s (a + b) runs (omega arith) more)
      (lasts again-lasts quiet-lasts again-lasts (simp (sub-add-eq, zero-sub)))

  -- one ends in the second
  second-ends : a < s.wait → s.wait ≤ a + b → Sums
  second-ends runs over =
      by_le (λ (_ : ℕ). Sums) t.repeats s.count {x = 0} {y = 0}
      (λ none. by_parts (time-quiet t s a (inr runs)) (time-spent t _ b (omega arith) (omega arith) none) (time-spent t s (a + b) (omega arith) over none)
      (spent (inr refl) refl))
      λ more. by_parts (time-quiet t s a (inr runs)) (time-again t _ b (omega arith) (omega arith) more) (time-again t s (a + b) (omega arith) over more)
      (lasts quiet-lasts again-lasts again-lasts (simp sub-add-eq))

  -- "Time is given as elapsed tenths of a millisecond; large values count in full": a and then b is a + b
  pub passed-adds : Adds (passed t s a) (passed t (passed t s a).sender b) (passed t s (a + b))
  passed-adds =
      by-eq (λ (_ : ℕ). Sums) s.wait 0 {x = 0} {y = 0} (λ none. none-ends (inl none)) λ runs.
      by-lt (λ (_ : ℕ). Sums) (a + b) s.wait {x = 0} {y = 0} (λ on. none-ends (inr on)) λ over.
      by_le (λ (_ : ℕ). Sums) s.wait a {x = 0} {y = 0} (first_ends (omega arith)) λ first. second-ends first over
