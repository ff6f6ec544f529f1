use Rattle.laws.proofs.Branches.{branches}
use Rattle.connection.specs.Calls.{taken_by}
use Rattle.connection.proofs.Connection.take_step.Goals as goal

pub returns-then-not-is_open : goal.returns-then-not-is_open
unfolding taken_by
returns-then-not-is_open c = rw (c.shows.ensures, ← c.is_open.ensures) (search branches)

pub returns : goal.returns
unfolding taken_by
returns c = rw (c.open_takes.ensures, ← c.is_open.ensures) (search branches)
