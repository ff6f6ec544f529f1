use Prim.Native.Nat.{ℕ}
use mathlib.Core.Path.{◌≡◌}
use mathlib.Core.List.{List}
use Rattle.telegram.specs.Cutting.{longest}
use Rattle.telegram.specs.declared.kinds.Telegram.{Telegram}
use Rattle.open_end.specs.declared.Answered.{Answered as EndAnswered}
use Rattle.open_end.specs.declared.Course.{Course}
use Rattle.open_end.specs.OpenEnd.{course_of, arrived_at}
use Rattle.unit.specs.declared.ControlUnit.{ControlUnit}
use Rattle.open_end.specs.declared.answers.Answered.{Answered}
use Rattle.unit.specs.Calls.{settled, at_end}
use Rattle.open_end.specs.Answers.{gives}
use borrow.Author.Rules.{rules}
use Rattle.unit.proofs.ControlUnit.at_end.Goals as goal

-- the end answers, and its answer settles the unit
at-ends : (c : ControlUnit) (t : Telegram) (s : List ℕ) (room : ℕ) (r : EndAnswered) (k : Course) (d : ControlUnit) (x : Answered ControlUnit)
    → r ≡ arrived_at longest c.end t s room → k ≡ course_of r.answer → d ≡ settled c k r.end → x ≡ gives r.answer d → x ≡ at_end longest c t s room
unfolding at_end
at-ends c t s room r k d x at course settles is = rw (is, settles, course, at)

pub returns : goal.returns
returns c = record { value = search at-ends; buffer_after = search rules }
