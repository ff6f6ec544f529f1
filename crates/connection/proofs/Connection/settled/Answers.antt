use Rattle.connection.specs.Calls.{settled}
use Rattle.connection.proofs.Connection.settled.Goals as goal

pub returns-in-GoesOn : goal.returns-in-GoesOn
unfolding settled
returns-in-GoesOn c = rw c.in-GoesOn.is

pub returns-in-GivenUp : goal.returns-in-GivenUp
unfolding settled
returns-in-GivenUp c = rw (c.closed.ensures, c.in-GivenUp.is)

pub returns-in-Leaves : goal.returns-in-Leaves
unfolding settled
returns-in-Leaves c = rw (c.leaving_on.ensures, c.in-Leaves.is)
