use Rattle.connection.specs.Calls.{open_taken}
use Rattle.connection.proofs.Connection.open_takes.Goals as goal

pub returns : goal.returns
unfolding open_taken
returns c = rw (c.shows.ensures, c.take_step-answer.ensures)
