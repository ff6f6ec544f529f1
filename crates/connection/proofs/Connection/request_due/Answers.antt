use Rattle.laws.proofs.Branches.{branches}
use Rattle.connection.specs.Calls.{request_due}
use Rattle.connection.proofs.Connection.request_due.Goals as goal

pub returns-then-not-due : goal.returns-then-not-due
unfolding request_due
returns-then-not-due c = rw c.hand_nothing.ensures (search branches)

pub returns : goal.returns
unfolding request_due
returns c = rw c.hand_over.ensures (search branches)
