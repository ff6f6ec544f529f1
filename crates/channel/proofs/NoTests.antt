-- "test interval 0..65,535 tenths, 0 means no tests": with that setting, and none out or due again, none ever becomes due.
use Prim.Native.Nat.{ℕ}
use native.Mathlib.Omega.{arith}
use mathlib.Core.Bool.{false, true≢false, and-false}
use mathlib.Core.List.{List}
use mathlib.Core.Path.{◌≡◌, refl, sym, ◌∙◌}
use Rattle.sender.specs.declared.Handed.{Handed}
use Rattle.sender.specs.declared.Passed.{Passed}
use Rattle.channel.specs.declared.Parameters.{Parameters}
use Rattle.channel.specs.declared.Channel.{Channel}
use Rattle.channel.specs.declared.Answered.{Answered}
use Rattle.channel.specs.declared.Due.{Due}
use Rattle.channel.specs.Opened.{fresh, elapsed, test_due, due, sent}
use Rattle.channel.proofs.Passing.{TimeOutcome, repeats-used-up, runs_on, tests-used-up, test-again, time-outcome}
use Rattle.channel.proofs.Handing.{DueOutcome, accept-goes, test-goes, ack-goes, frame-goes, none-goes, other_length, due-outcome}

-- the setting says no tests; none is out or due again, and no test's wait runs
pub record NoTests (c : Channel) : Type 0 where
  pub off : c.parameters.interval ≡ 0
  pub none : c.tests.out ≡ false
  pub undue : c.tests.again ≡ false
  pub still : c.tests.wait ≡ 0

-- so it is after the A1
pub fresh-untested : (p : Parameters) → p.interval ≡ 0 → NoTests (fresh p)
fresh-untested p off = record { off = off; none = refl; undue = refl; still = refl }

-- no test is due
pub test_due-untested : (c : Channel) → NoTests c → test_due c ≡ false
unfolding test_due
test_due-untested c n = rw (n.undue, n.none, n.off, and-false)

-- time keeps it so
pub elapsed-untested : (c : Channel) (n : ℕ) → NoTests c → NoTests (elapsed c n).channel
elapsed-untested c n h = go (time-outcome c n)
  where
    go : {g : Passed} {x : Answered} → TimeOutcome c n g x → NoTests x.channel
    go repeats-used-up = h
    go (runs_on e w) = record { off = h.off; none = h.none; undue = h.undue; still = omega arith }
    go (tests-used-up e w u) = h
    go (test-again e w u) = absurd (omega arith)

-- a frame asked for too: what is handed over is no test
pub due-untested : (c : Channel) (m : List ℕ) → NoTests c → NoTests (due c m).channel
due-untested c m h = go (due-outcome c m)
  where
    go : {g : Handed} {x : Due} → DueOutcome c g x → NoTests x.channel
    go (accept-goes a) = record { off = h.off; none = h.none; undue = h.undue; still = h.still }
    go (test-goes a t) = absurd (true≢false (sym t ∙ test_due-untested c h))
    go (ack-goes a t k) = record { off = h.off; none = h.none; undue = h.undue; still = h.still }
    go (frame-goes t) = record { off = h.off; none = h.none; undue = h.undue; still = h.still }
    go (none-goes t) = h
    go (other_length t) = h

-- and a message offered
pub sent-untested : (limit : ℕ) (c : Channel) (n : ℕ) → NoTests c → NoTests (sent limit c n).channel
unfolding sent
sent-untested limit c n h = record { off = h.off; none = h.none; undue = h.undue; still = h.still }
