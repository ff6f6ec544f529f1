-- What passing time does, case by case, and exactly when.
use Prim.Native.Nat.{ℕ, ◌-◌, ◌≤◌, ◌<◌}
use native.Mathlib.Omega.{arith}
use mathlib.Core.Logic.{◌↔◌}
use mathlib.Core.Path.{◌≡◌, refl, subst, ap}
use borrow.Author.Tests.{le-ltb, le-leb, lt-leb, ne_eqb}
use Rattle.laws.proofs.Cases.{by-lt, by_le, by-eq}
use Rattle.sender.specs.declared.Terms.{Terms}
use Rattle.sender.specs.declared.Sender.{Sender}
use Rattle.sender.specs.declared.Passed.{Passed}
use Rattle.sender.specs.declared.Passing.TheVariants.{Again, UsedUp}
use Rattle.sender.specs.Sending.{passed, quiet, again}

-- a wait for an Ack runs, and it is over after n tenths
pub record RunsOut (s : Sender) (n : ℕ) : Type 0 where
  pub runs : 0 < s.wait
  pub over : s.wait ≤ n

-- what time leaves, and what led to it
pub data TimeCase (t : Terms) (s : Sender) (n : ℕ) : Passed → Type 0 where
  no-wait : s.wait ≡ 0 → TimeCase t s n (quiet s n)
  runs_on : n < s.wait → TimeCase t s n (quiet s n)
  wait-used-up : RunsOut s n → t.repeats ≤ s.count → TimeCase t s n (record { note = UsedUp; sender = s })
  sends-again : RunsOut s n → s.count < t.repeats → TimeCase t s n (record { note = Again; sender = again s (s.hold - n) (s.gap - n) })

module _ (t : Terms) (s : Sender) (n : ℕ) where
  -- all time that passes is one of these cases
  pub time_case : TimeCase t s n (passed t s n)
  unfolding passed
  time_case =
      by-eq (TimeCase t s n) s.wait 0 no-wait λ runs.
      by-lt (TimeCase t s n) n s.wait runs_on λ over.
      let r : RunsOut s n = omega arith in
      by_le (TimeCase t s n) t.repeats s.count (wait-used-up r) (sends-again r)

  -- while no wait runs out, the timers run on
  pub passed-quiet : (RunsOut s n → ⊥) → passed t s n ≡ quiet s n
  passed-quiet h = go time_case
    where
      go : {x : Passed} → TimeCase t s n x → x ≡ quiet s n
      go (no-wait _) = refl
      go (runs_on _) = refl
      go (wait-used-up r _) = absurd (h r)
      go (sends-again r _) = absurd (h r)

  -- one that runs out adds one to the repeat count and sends again, while repeats are left
  pub passed-again : RunsOut s n → s.count < t.repeats → passed t s n ≡ record { note = Again; sender = again s (s.hold - n) (s.gap - n) }
  unfolding passed
  passed-again r h = rw (ne_eqb s.wait 0 (omega arith), le-ltb _ _ r.over, lt-leb _ _ h)

  -- once more than the repeats allow, it says so and changes nothing
  pub passed-gives-up : RunsOut s n → t.repeats ≤ s.count → passed t s n ≡ record { note = UsedUp; sender = s }
  unfolding passed
  passed-gives-up r h = rw (ne_eqb s.wait 0 (omega arith), le-ltb _ _ r.over, le-leb _ _ h)

  -- used up is answered exactly where a wait runs out and no repeat is left
  pub passed-used_up : (passed t s n).note ≡ UsedUp ↔ (RunsOut s n × t.repeats ≤ s.count)
  passed-used_up =
      (λ e. go (subst (λ k. TimeCase t s n (record { note = k; sender = (passed t s n).sender })) e time_case), λ h. ap (λ (x : Passed). x.note) (passed-gives-up h.0 h.1))
    where
      go : {y : Sender} → TimeCase t s n (record { note = UsedUp; sender = y }) → RunsOut s n × t.repeats ≤ s.count
      go (wait-used-up r h) = (r, h)
