use Rattle.laws.proofs.Branches.{branches}
use Rattle.connection.specs.Calls.{elapsed}
use Rattle.connection.proofs.Connection.elapse.Goals as goal

pub returns-then-phase-eq-CLOSED : goal.returns-then-phase-eq-CLOSED
unfolding elapsed
returns-then-phase-eq-CLOSED c = rw c.gives.ensures (search branches)

pub returns-then-not-is_open : goal.returns-then-not-is_open
unfolding elapsed
returns-then-not-is_open c = rw (c.attempt_elapses.ensures, ← c.is_open.ensures) (search branches)

pub returns : goal.returns
unfolding elapsed
returns c = rw (c.open_elapses.ensures, ← c.is_open.ensures) (search branches)
