use Rattle.unit.specs.Calls.{on_opening}
use Rattle.unit.proofs.ControlUnit.on_opening.Goals as goal

pub returns-in-Setup : goal.returns-in-Setup
unfolding on_opening
returns-in-Setup c = rw (c.on_setup.ensures, c.in-Setup.is)

pub returns-in-Disconnect : goal.returns-in-Disconnect
unfolding on_opening
returns-in-Disconnect c = rw (c.gives.ensures, c.leaving_of.ensures, c.in-Disconnect.is)

pub returns-in-Malformed : goal.returns-in-Malformed
unfolding on_opening
returns-in-Malformed c = rw (c.gives-in-Malformed.ensures, c.in-Malformed.is)

pub returns-in-Data : goal.returns-in-Data
unfolding on_opening
returns-in-Data c = rw (c.gives-in-Data.ensures, c.in-Data.is)

pub returns-in-Ack : goal.returns-in-Ack
unfolding on_opening
returns-in-Ack c = rw (c.gives-in-Ack.ensures, c.in-Ack.is)

pub returns-in-Test : goal.returns-in-Test
unfolding on_opening
returns-in-Test c = rw (c.gives-in-Test.ensures, c.in-Test.is)

pub returns-in-Break : goal.returns-in-Break
unfolding on_opening
returns-in-Break c = rw (c.gives-in-Break.ensures, c.in-Break.is)

pub returns-in-Accept : goal.returns-in-Accept
unfolding on_opening
returns-in-Accept c = rw (c.gives-in-Accept.ensures, c.in-Accept.is)
