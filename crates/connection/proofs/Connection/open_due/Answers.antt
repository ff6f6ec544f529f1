use mathlib.Core.Path.{◌≡◌}
use mathlib.Core.List.{List}
use Prim.Native.Nat.{ℕ}
use Rattle.open_end.specs.declared.answers.Answer.TheVariants.{Channel}
use Rattle.open_end.specs.declared.answers.Told.{Told}
use Rattle.open_end.specs.Answers.{told}
use Rattle.open_end.specs.declared.Due.{Due}
use Rattle.open_end.specs.OpenEnd.{due_at}
use Rattle.connection.specs.declared.Connection.{Connection}
use Rattle.connection.specs.Record.{with_open_end}
use Rattle.connection.specs.Calls.{open_due}
use Rattle.connection.proofs.Connection.open_due.Goals as goal

-- what the end has due, told of the record
hands : (c : Connection) (m : List ℕ) (d : Due) (t : Told) → d ≡ due_at c.end m → t ≡ told (Channel d.answer)
    → record { told = t; frame = d.frame; left = with_open_end c d.end } ≡ open_due c m
unfolding open_due
hands c m d t at tells = rw (tells, at)

pub returns : goal.returns
returns c = search hands
