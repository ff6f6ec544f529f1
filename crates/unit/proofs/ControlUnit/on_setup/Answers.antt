use Rattle.laws.proofs.Branches.{branches}
use Rattle.unit.specs.Calls.{on_setup}
use Rattle.unit.proofs.ControlUnit.on_setup.Goals as goal

pub returns-then-is_replying : goal.returns-then-is_replying
unfolding on_setup
returns-then-is_replying c = rw c.gives.ensures (search branches)

pub returns-then-bad_block : goal.returns-then-bad_block
unfolding on_setup
returns-then-bad_block c = rw c.gives-then-bad_block.ensures (search branches)

pub returns : goal.returns
unfolding on_setup
returns c = rw (c.ends.ensures, c.accepting.ensures) (search branches)
