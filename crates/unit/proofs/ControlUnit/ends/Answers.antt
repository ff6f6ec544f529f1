use Rattle.laws.proofs.Branches.{branches}
use Rattle.unit.specs.Calls.{ends}
use Rattle.unit.proofs.ControlUnit.ends.Goals as goal

pub returns-then-in_sending : goal.returns-then-in_sending
unfolding ends
returns-then-in_sending c = rw (c.tell.ensures, ← c.in_sending.ensures) (search branches)

pub returns : goal.returns
unfolding ends
returns c = rw (c.gives.ensures, ← c.in_sending.ensures) (search branches)
