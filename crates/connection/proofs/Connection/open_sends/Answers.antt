use Rattle.connection.specs.Calls.{open_sent}
use Rattle.connection.proofs.Connection.open_sends.Goals as goal

pub returns : goal.returns
unfolding open_sent
returns c = rw (c.gives.ensures, c.send-answer.ensures)
