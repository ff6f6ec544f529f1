-- The next character belongs to the run, does not, or there is none.
use native.Mathlib.Omega.{arith}
use Rattle.laws.proofs.Branches.{flag}
use Rattle.text.proofs.Words.{goes_on, breaks, is-over, behind}
use Rattle.text.proofs.reading.run_end.Goals as goal

pub returns-then-not-belongs : goal.returns-then-not-belongs
returns-then-not-belongs c =
    behind _ _ _ _ _ c.part-rest.ensures (breaks _ _ _ c.loop-i.invariant c.loop-i-test.true (flag _ _ _ c.belongs.ensures c.if-not-belongs.true))

pub loop-i-preserved : goal.loop-i-preserved
loop-i-preserved c = goes_on _ _ _ c.loop-i.invariant c.loop-i-test.true (flag _ _ _ c.belongs.ensures c.if-not-belongs.false)

pub returns : goal.returns
returns c = behind _ _ _ _ _ c.part-rest.ensures (is-over _ _ _ c.loop-i.invariant (omega arith))
