use Rattle.laws.proofs.Branches.{branches}
use Rattle.connection.specs.Calls.{closed_due}
use Rattle.connection.proofs.Connection.closed_due.Goals as goal

pub returns-then-not-leaving : goal.returns-then-not-leaving
unfolding closed_due
returns-then-not-leaving c = rw c.hand_nothing.ensures (search branches)

pub returns : goal.returns
unfolding closed_due
returns c = rw (c.hand_over.ensures, c.closed.ensures, c.write_disconnect-payload.ensures) (search branches)
