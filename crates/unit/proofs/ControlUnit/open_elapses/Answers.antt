use Prim.Native.Nat.{ℕ}
use mathlib.Core.Path.{◌≡◌}
use Rattle.open_end.specs.declared.Answered.{Answered as EndAnswered}
use Rattle.open_end.specs.declared.Course.{Course}
use Rattle.open_end.specs.OpenEnd.{course_of, elapsed_at}
use Rattle.unit.specs.declared.ControlUnit.{ControlUnit}
use Rattle.open_end.specs.declared.answers.Answered.{Answered}
use Rattle.unit.specs.Calls.{settled, open_elapsed}
use Rattle.open_end.specs.Answers.{gives}
use Rattle.unit.proofs.ControlUnit.open_elapses.Goals as goal

-- the end answers, and its answer settles the unit
opens : (c : ControlUnit) (n : ℕ) (r : EndAnswered) (k : Course) (d : ControlUnit) (x : Answered ControlUnit)
    → r ≡ elapsed_at c.end n → k ≡ course_of r.answer → d ≡ settled c k r.end → x ≡ gives r.answer d → x ≡ open_elapsed c n
unfolding open_elapsed
opens c n r k d x at course settles is = rw (is, settles, course, at)

pub returns : goal.returns
returns c = search opens
