-- One piece behind the other.
use Rattle.text.proofs.Written.{joined3}
use Rattle.dialogue.specs.Answers.{said_of}
use Rattle.dialogue.proofs.answers.number.Goals as goal

pub returns : goal.returns
unfolding said_of
returns c = search joined3
