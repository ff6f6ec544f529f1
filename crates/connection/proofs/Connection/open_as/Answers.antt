use Rattle.laws.proofs.Branches.{branches}
use Rattle.connection.specs.Calls.{opening_as}
use Rattle.connection.proofs.Connection.open_as.Goals as goal

pub returns-then-phase-ne-CLOSED : goal.returns-then-phase-ne-CLOSED
unfolding opening_as
returns-then-phase-ne-CLOSED c = rw c.gives.ensures (search branches)

pub returns-then-not-in_range_of : goal.returns-then-not-in_range_of
unfolding opening_as
returns-then-not-in_range_of c = rw c.tell.ensures (search branches)

pub returns : goal.returns
unfolding opening_as
returns c = rw (c.gives-2.ensures, c.requesting.ensures) (search branches)
