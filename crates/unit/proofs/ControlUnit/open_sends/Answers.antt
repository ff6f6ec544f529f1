use Rattle.unit.specs.Calls.{open_sent}
use Rattle.unit.proofs.ControlUnit.open_sends.Goals as goal

pub returns : goal.returns
unfolding open_sent
returns c = rw (c.gives.ensures, c.send-answer.ensures)
