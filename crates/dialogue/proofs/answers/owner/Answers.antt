-- A place, or none.
use Rattle.text.proofs.Written.{joined, worded}
use Rattle.dialogue.specs.Answers.{owner_of}
use Rattle.dialogue.proofs.answers.owner.Goals as goal

pub returns-in-Some : goal.returns-in-Some
unfolding owner_of
returns-in-Some c = rw c.in-Some.is (search joined)

pub returns-in-None : goal.returns-in-None
unfolding owner_of
returns-in-None c = rw c.in-None.is (search worded)
