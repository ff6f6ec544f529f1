use Rattle.laws.proofs.Branches.{branches}
use Rattle.unit.specs.Calls.{closed}
use Rattle.unit.proofs.ControlUnit.close.Goals as goal

pub returns-then-is_closed : goal.returns-then-is_closed
unfolding closed
returns-then-is_closed c = rw (c.gives.ensures, ← c.is_closed.ensures) (search branches)

pub returns : goal.returns
unfolding closed
returns c = rw (c.gives-2.ensures, c.leaving_of.ensures, ← c.is_closed.ensures) (search branches)
