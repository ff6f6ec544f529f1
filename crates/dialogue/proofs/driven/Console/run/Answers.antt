-- What an accepted message leaves is what sending it leaves.
use Rattle.dialogue.proofs.driven.Console.run.Goals as goal

pub returns-in-Send : goal.returns-in-Send
returns-in-Send g c = rw c.in-Send.is (c.sending.ensures _)
