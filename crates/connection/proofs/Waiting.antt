-- The rules of T_E in other words.
use Prim.Native.Nat.{ℕ, ◌+◌, ◌-◌, ◌<◌, ◌≤◌}
use native.Mathlib.Omega.{arith}
use mathlib.Core.Bool.{true, false}
use mathlib.Core.Logic.{◌⊎◌, inl, inr}
use mathlib.Core.Path.{◌≡◌, ◌∙◌}
use borrow.Author.Tests.{ne_eqb, lt-ltb, le-ltb, lt-leb, le-leb}
use Rattle.channel.specs.declared.Answer.TheVariants.{Good, UsedUp}
use Rattle.connection.specs.declared.attempt.Attempt.{Attempt}
use Rattle.connection.specs.declared.Connection.{Connection}
use Rattle.connection.specs.Calls.{attempt_elapsed, elapsed}
use Rattle.open_end.proofs.Rules.{plainly}
use Rattle.connection.proofs.Rules.{at_rest}

-- ---- T_E

-- the same record with another request
abbrev pub asking : Connection → Attempt → Connection
asking c a = record { phase = c.phase; profile = c.profile; settings = c.settings; attempt = a; leaving = c.leaving; end = c.end }

module _ (c : Connection) (n : ℕ) (opening : (c.phase ≡ 1) ⊎ (c.phase ≡ 2)) where
  awaits : elapsed c n ≡ attempt_elapsed c n
  unfolding elapsed
  awaits = go opening
    where
      go : (c.phase ≡ 1) ⊎ (c.phase ≡ 2) → elapsed c n ≡ attempt_elapsed c n
      go (inl p) = rw p
      go (inr p) = rw p

  -- a request that is still to be handed over waits for nothing
  pub elapsed-no-wait : c.attempt.wait ≡ 0 → elapsed c n ≡ record { told = plainly Good 0; left = c }
  unfolding attempt_elapsed
  elapsed-no-wait z = awaits ∙ rw z

  -- a wait that does not end is less by exactly the time
  pub elapsed-less : n < c.attempt.wait
      → elapsed c n
      ≡ record {
        told = plainly Good 0;
        left = asking c (record { due = c.attempt.due; asked = c.attempt.asked; wait = c.attempt.wait - n; repeats = c.attempt.repeats });
      }
  unfolding attempt_elapsed
  elapsed-less h = awaits ∙ rw (ne_eqb c.attempt.wait 0 (λ e. omega arith), lt-ltb n c.attempt.wait h)

  -- "Each phase waits T_E from each hand-over and repeats while its own repeats are below MNTC": one that ends makes the request due again, and is counted
  pub elapsed-repeat : 0 < c.attempt.wait → c.attempt.wait ≤ n → c.attempt.repeats < c.settings.mntc
      → elapsed c n
      ≡ record {
        told = plainly Good 0;
        left = asking c (record { due = true; asked = c.attempt.asked; wait = 0; repeats = c.attempt.repeats + 1 });
      }
  unfolding attempt_elapsed
  elapsed-repeat runs over few = awaits ∙ rw (ne_eqb c.attempt.wait 0 (λ e. omega arith), le-ltb n c.attempt.wait over, lt-leb _ _ few)

  -- row 8, "opening repeats .. used up": "record closed, nothing due"
  pub elapsed-gives-up : 0 < c.attempt.wait → c.attempt.wait ≤ n → c.settings.mntc ≤ c.attempt.repeats
      → elapsed c n ≡ record { told = plainly UsedUp 8; left = at_rest false 0 }
  unfolding attempt_elapsed
  elapsed-gives-up runs over most = awaits ∙ rw (ne_eqb c.attempt.wait 0 (λ e. omega arith), le-ltb n c.attempt.wait over, le-leb _ _ most)
