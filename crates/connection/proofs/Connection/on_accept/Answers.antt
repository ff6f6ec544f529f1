use Rattle.laws.proofs.Branches.{branches}
use Rattle.connection.specs.Calls.{on_accept}
use Rattle.connection.proofs.Connection.on_accept.Goals as goal

pub returns-then-not-asked : goal.returns-then-not-asked
unfolding on_accept
returns-then-not-asked c = rw c.gives.ensures (search branches)

pub returns-then-bad_block : goal.returns-then-bad_block
unfolding on_accept
returns-then-bad_block c = rw c.gives-then-bad_block.ensures (search branches)

pub returns : goal.returns
unfolding on_accept
returns c = rw (c.gives-2.ensures, c.opened.ensures) (search branches)
