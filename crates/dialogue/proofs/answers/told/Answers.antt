-- One piece behind the other.
use Rattle.text.proofs.Written.{joined3}
use Rattle.dialogue.specs.Answers.{told_of}
use Rattle.dialogue.proofs.answers.told.Goals as goal

pub returns : goal.returns
unfolding told_of
returns c = search joined3
