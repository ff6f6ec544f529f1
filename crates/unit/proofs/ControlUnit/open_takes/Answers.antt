use Rattle.unit.specs.Calls.{open_taken}
use Rattle.unit.proofs.ControlUnit.open_takes.Goals as goal

pub returns : goal.returns
unfolding open_taken
returns c = rw (c.shows.ensures, c.take_step-answer.ensures)
