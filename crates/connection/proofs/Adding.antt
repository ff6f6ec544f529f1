-- "Time is given as elapsed tenths of a millisecond; large values count in full": two time calls leave what one leaves of all that time, and say 8 exactly where it does.
use Prim.Native.Nat.{ℕ, ◌+◌, ◌-◌, ◌<◌, ◌≤◌}
use native.Mathlib.Omega.{arith}
use mathlib.Core.Bool.{false}
use mathlib.Core.Logic.{◌⊎◌, inl, inr, ◌↔◌}
use mathlib.Core.Path.{◌≡◌, refl, sym, ◌∙◌}
use borrow.Author.Tests.{ne_eqb}
use Rattle.laws.proofs.Cases.{by-eq, by-lt, by_le}
use Rattle.sender.specs.declared.Passed.{Passed}
use Rattle.channel.specs.declared.Answer.TheVariants.{Good, UsedUp}
use Rattle.channel.specs.declared.Answered.{Answered as ChannelAnswered}
use Rattle.channel.specs.declared.Channel.{Channel}
use Rattle.channel.specs.Opened.{elapsed as channel_elapsed}
use Rattle.channel.proofs.Passing.{TimeOutcome, repeats-used-up, runs_on as all-run-on, tests-used-up, test-again, time-outcome}
use Rattle.channel.proofs.Rules.{good-lasts}
use Rattle.channel.proofs.Adding.{elapsed-adds as channel-adds}
use Rattle.open_end.specs.OpenEnd.{course_of, elapsed_at}
use Rattle.connection.specs.declared.Connection.{Connection}
use Rattle.connection.specs.Calls.{settled, open_elapsed, elapsed}
use Rattle.open_end.proofs.Rules.{plainly}
use Rattle.connection.proofs.Rules.{at_rest, elapsed-closed}
use Rattle.connection.proofs.Waiting.{asking, elapsed-no-wait, elapsed-less, elapsed-repeat, elapsed-gives-up}
use Rattle.connection.proofs.Ends.{holding}

-- a timer that stops at zero, twice
less-less : (m a b : ℕ) → m - a - b ≡ m - (a + b)
less-less m a b = omega arith

-- a timer does not run, runs on, ends in the second time, or in the first
data Split (w a b : ℕ) : Type 0 where
  stopped : w ≡ 0 → Split w a b
  runs_on : a + b < w → Split w a b
  ends-then : a < w → w ≤ a + b → Split w a b
  ends-first : 0 < w → w ≤ a → Split w a b

split : (w a b : ℕ) → Split w a b
split w a b =
    by-eq (λ (_ : ℕ). Split w a b) w 0 {x = 0} {y = 0} stopped λ some.
    by-lt (λ (_ : ℕ). Split w a b) (a + b) w {x = 0} {y = 0} runs_on λ over.
    by-lt (λ (_ : ℕ). Split w a b) a w {x = 0} {y = 0} (λ h. ends-then h over) λ h. ends-first (omega arith) h

-- ---- a record

-- two time calls, and all of that time: 8 in the first, 8 in the second, or none
data Adds (c : Connection) (a b : ℕ) : Type 0 where
  lost-first : elapsed c a ≡ record { told = plainly UsedUp 8; left = at_rest false 0 }
      → elapsed c (a + b) ≡ record { told = plainly UsedUp 8; left = at_rest false 0 } → Adds c a b
  lost-then : (d : Connection) → elapsed c a ≡ record { told = plainly Good 0; left = d }
      → elapsed d b ≡ record { told = plainly UsedUp 8; left = at_rest false 0 }
      → elapsed c (a + b) ≡ record { told = plainly UsedUp 8; left = at_rest false 0 } → Adds c a b
  none-lost : (d e : Connection) → elapsed c a ≡ record { told = plainly Good 0; left = d }
      → elapsed d b ≡ record { told = plainly Good 0; left = e }
      → elapsed c (a + b) ≡ record { told = plainly Good 0; left = e } → Adds c a b

-- while a reply is awaited
opening-adds : (c : Connection) (a b : ℕ) → (c.phase ≡ 1) ⊎ (c.phase ≡ 2) → Adds c a b
opening-adds c a b p = go (split c.attempt.wait a b)
  where
    go : Split c.attempt.wait a b → Adds c a b
    go (stopped z) = none-lost _ _ (elapsed-no-wait c a p z) (elapsed-no-wait c b p z) (elapsed-no-wait c (a + b) p z)
    go (runs_on l) =
        let less : ℕ → Connection = λ w. asking c (record { due = c.attempt.due; asked = c.attempt.asked; wait = w; repeats = c.attempt.repeats }) in
        none-lost (less (c.attempt.wait - a)) (less (c.attempt.wait - (a + b))) (elapsed-less c a p (omega arith))
        (elapsed-less (less (c.attempt.wait - a)) b p (omega arith) ∙ rw (less-less c.attempt.wait a b)) (elapsed-less c (a + b) p l)
    go (ends-then h o) =
        by_le (λ (_ : ℕ). Adds c a b) c.settings.mntc c.attempt.repeats {x = 0} {y = 0}
        (λ most. lost-then _ (elapsed-less c a p h) (elapsed-gives-up _ b p (omega arith) (omega arith) most) (elapsed-gives-up c (a + b) p (omega arith) o most))
        (λ few. none-lost _ _ (elapsed-less c a p h) (elapsed-repeat _ b p (omega arith) (omega arith) few) (elapsed-repeat c (a + b) p (omega arith) o few))
    go (ends-first r o) =
        by_le (λ (_ : ℕ). Adds c a b) c.settings.mntc c.attempt.repeats {x = 0} {y = 0}
        (λ most. lost-first (elapsed-gives-up c a p r o most) (elapsed-gives-up c (a + b) p r (omega arith) most))
        (λ few. none-lost _ _ (elapsed-repeat c a p r o few) (elapsed-no-wait _ b p refl) (elapsed-repeat c (a + b) p r (omega arith) few))

-- 8, or time that ran on
answered : (ch : Channel) (n : ℕ) → ((channel_elapsed ch n).answer ≡ UsedUp) ⊎ ((channel_elapsed ch n).answer ≡ Good)
answered ch n = go (time-outcome ch n)
  where
    go : {g : Passed} {x : ChannelAnswered} → TimeOutcome ch n g x → (x.answer ≡ UsedUp) ⊎ (x.answer ≡ Good)
    go repeats-used-up = inl refl
    go (all-run-on e w) = inr refl
    go (tests-used-up e w u) = inl refl
    go (test-again e w u) = inr refl

module _ (c : Connection) (open' : 3 ≤ c.phase) where
  record-lost : (ch : Channel) (n : ℕ) → (channel_elapsed ch n).answer ≡ UsedUp → elapsed (holding c ch) n ≡ record { told = plainly UsedUp 8; left = at_rest false 0 }
  unfolding elapsed open_elapsed elapsed_at course_of settled
  record-lost ch n e = rw (ne_eqb c.phase 0 (λ z. omega arith), ne_eqb c.phase 1 (λ z. omega arith), ne_eqb c.phase 2 (λ z. omega arith), e)

  record-runs : (ch : Channel) (n : ℕ) → (channel_elapsed ch n).answer ≡ Good
      → elapsed (holding c ch) n ≡ record { told = plainly Good 0; left = holding c (channel_elapsed ch n).channel }
  unfolding elapsed open_elapsed elapsed_at course_of settled
  record-runs ch n e = rw (ne_eqb c.phase 0 (λ z. omega arith), ne_eqb c.phase 1 (λ z. omega arith), ne_eqb c.phase 2 (λ z. omega arith), e)

  -- on an open connection
  open-adds : (a b : ℕ) → Adds c a b
  open-adds a b = go (answered ch a) (answered next b) (answered ch (a + b))
    where
      ch : Channel
      ch = c.end.channel

      next : Channel
      next = (channel_elapsed ch a).channel

      go : ((channel_elapsed ch a).answer ≡ UsedUp) ⊎ ((channel_elapsed ch a).answer ≡ Good)
          → ((channel_elapsed next b).answer ≡ UsedUp) ⊎ ((channel_elapsed next b).answer ≡ Good)
          → ((channel_elapsed ch (a + b)).answer ≡ UsedUp) ⊎ ((channel_elapsed ch (a + b)).answer ≡ Good) → Adds c a b
      go (inl e) _ _ = lost-first (record-lost ch a e) (record-lost ch (a + b) ((channel-adds ch a b).used.1 (inl e)))
      go (inr e) (inl f) _ = lost-then _ (record-runs ch a e) (record-lost next b f) (record-lost ch (a + b) ((channel-adds ch a b).used.1 (inr f)))
      go (inr e) (inr f) (inl g) = absurd (none ((channel-adds ch a b).used.0 g))
        where
          none : ((channel_elapsed ch a).answer ≡ UsedUp) ⊎ ((channel_elapsed next b).answer ≡ UsedUp) → ⊥
          none (inl u) = good-lasts (sym e ∙ u)
          none (inr u) = good-lasts (sym f ∙ u)
      go (inr e) (inr f) (inr g) =
          none-lost (holding c next) (holding c (channel_elapsed ch (a + b)).channel) (record-runs ch a e) (record-runs next b f ∙ rw ((channel-adds ch a b).left (λ u. good-lasts (sym g ∙ u)))) (record-runs ch (a + b) g)

adds : (c : Connection) (a b : ℕ) → Adds c a b
adds c a b =
    by-eq (λ (_ : ℕ). Adds c a b) c.phase 0 {x = 0} {y = 0}
    (λ z. none-lost c c (elapsed-closed c z a) (elapsed-closed c z b) (elapsed-closed c z (a + b))) λ n0.
    by-eq (λ (_ : ℕ). Adds c a b) c.phase 1 {x = 0} {y = 0} (λ e. opening-adds c a b (inl e)) λ n1.
    by-eq (λ (_ : ℕ). Adds c a b) c.phase 2 {x = 0} {y = 0} (λ e. opening-adds c a b (inr e)) λ n2.
    open-adds c (omega arith) a b

-- two time calls leave the record that one leaves of all that time
pub elapsed-adds : (c : Connection) (a b : ℕ) → (elapsed (elapsed c a).left b).left ≡ (elapsed c (a + b)).left
elapsed-adds c a b = go (adds c a b)
  where
    go : Adds c a b → (elapsed (elapsed c a).left b).left ≡ (elapsed c (a + b)).left
    go (lost-first e f) = rw (e, f, elapsed-closed (at_rest false 0) refl b)
    go (lost-then d e f g) = rw (e, f, g)
    go (none-lost d x e f g) = rw (e, f, g)

-- and one of the two says 8 exactly where that one does
pub elapsed-adds-8 : (c : Connection) (a b : ℕ)
    → (((elapsed c a).told.said.number ≡ 8) ⊎ ((elapsed (elapsed c a).left b).told.said.number ≡ 8)) ↔ ((elapsed c (a + b)).told.said.number ≡ 8)
elapsed-adds-8 c a b = go (adds c a b)
  where
    go : Adds c a b → (((elapsed c a).told.said.number ≡ 8) ⊎ ((elapsed (elapsed c a).left b).told.said.number ≡ 8)) ↔ ((elapsed c (a + b)).told.said.number ≡ 8)
    go (lost-first e f) = (λ _. rw f, λ _. inl (rw e))
    go (lost-then d e f g) = (λ _. rw g, λ _. inr (rw (e, f)))
    go (none-lost d x e f g) = (none, λ z. absurd (omega (arith, rw g at z)))
      where
        none : ((elapsed c a).told.said.number ≡ 8) ⊎ ((elapsed (elapsed c a).left b).told.said.number ≡ 8) → (elapsed c (a + b)).told.said.number ≡ 8
        none (inl z) = absurd (omega (arith, rw e at z))
        none (inr z) = absurd (omega (arith, rw (e, f) at z))
