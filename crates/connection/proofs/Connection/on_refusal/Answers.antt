use Rattle.laws.proofs.Branches.{branches}
use Rattle.connection.specs.Calls.{on_reply}
use Rattle.connection.proofs.Connection.on_refusal.Goals as goal

pub returns-then-not-asked : goal.returns-then-not-asked
unfolding on_reply
returns-then-not-asked c = rw c.gives.ensures (search branches)

pub returns : goal.returns
unfolding on_reply
returns c = rw (c.closed.ensures, c.tell.ensures) (search branches)
