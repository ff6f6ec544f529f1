use Rattle.laws.proofs.Branches.{branches}
use Rattle.unit.specs.Calls.{set_to}
use Rattle.unit.proofs.ControlUnit.set.Goals as goal

pub returns-then-not-is_closed : goal.returns-then-not-is_closed
unfolding set_to
returns-then-not-is_closed c = rw (c.gives.ensures, ← c.is_closed.ensures) (search branches)

pub returns-then-not-can_be_set : goal.returns-then-not-can_be_set
unfolding set_to
returns-then-not-can_be_set c = rw c.tell.ensures (search branches)

pub returns : goal.returns
unfolding set_to
returns c = rw (c.gives-2.ensures, c.closed_with.ensures) (search branches)
