use Rattle.laws.proofs.Branches.{branches}
use Rattle.connection.specs.Calls.{sent_by}
use Rattle.connection.proofs.Connection.send.Goals as goal

pub returns-then-not-is_open : goal.returns-then-not-is_open
unfolding sent_by
returns-then-not-is_open c = rw (c.gives.ensures, ← c.is_open.ensures) (search branches)

pub returns : goal.returns
unfolding sent_by
returns c = rw (c.open_sends.ensures, ← c.is_open.ensures) (search branches)
