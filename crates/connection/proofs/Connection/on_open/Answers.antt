use Prim.Native.Nat.{ℕ}
use mathlib.Core.Path.{◌≡◌}
use mathlib.Core.List.{List}
use Rattle.telegram.specs.Cutting.{longest}
use Rattle.telegram.specs.declared.kinds.Telegram.{Telegram}
use Rattle.open_end.specs.declared.Answered.{Answered as EndAnswered}
use Rattle.open_end.specs.declared.Course.{Course}
use Rattle.open_end.specs.OpenEnd.{course_of, arrived_at}
use Rattle.connection.specs.declared.Connection.{Connection}
use Rattle.open_end.specs.declared.answers.Answered.{Answered}
use Rattle.connection.specs.Calls.{settled, on_open}
use Rattle.open_end.specs.Answers.{gives}
use borrow.Author.Rules.{rules}
use Rattle.connection.proofs.Connection.on_open.Goals as goal

-- the end answers, and its answer settles the record
on-opens : (c : Connection) (t : Telegram) (s : List ℕ) (room : ℕ) (r : EndAnswered) (k : Course) (d : Connection) (x : Answered Connection)
    → r ≡ arrived_at longest c.end t s room → k ≡ course_of r.answer → d ≡ settled c k r.end → x ≡ gives r.answer d → x ≡ on_open longest c t s room
unfolding on_open
on-opens c t s room r k d x at course settles is = rw (is, settles, course, at)

pub returns : goal.returns
returns c = record { value = search on-opens; buffer_after = search rules }
