use Rattle.laws.proofs.Branches.{branches}
use Rattle.unit.specs.Calls.{elapsed}
use Rattle.unit.proofs.ControlUnit.elapse.Goals as goal

pub returns-then-not-is_open : goal.returns-then-not-is_open
unfolding elapsed
returns-then-not-is_open c = rw (c.gives.ensures, ← c.is_open.ensures) (search branches)

pub returns : goal.returns
unfolding elapsed
returns c = rw (c.open_elapses.ensures, ← c.is_open.ensures) (search branches)
