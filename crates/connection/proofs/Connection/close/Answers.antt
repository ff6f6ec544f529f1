use Rattle.laws.proofs.Branches.{branches}
use Rattle.connection.specs.Calls.{closed}
use Rattle.connection.proofs.Connection.close.Goals as goal

pub returns-then-phase-eq-CLOSED : goal.returns-then-phase-eq-CLOSED
unfolding closed
returns-then-phase-eq-CLOSED c = rw c.gives.ensures (search branches)

pub returns-then-phase-eq-REQUESTING : goal.returns-then-phase-eq-REQUESTING
unfolding closed
returns-then-phase-eq-REQUESTING c = rw (c.gives-then-phase-eq-REQUESTING.ensures, c.closed.ensures) (search branches)

pub returns : goal.returns
unfolding closed
returns c = rw (c.gives-2.ensures, c.leaving_on.ensures) (search branches)
