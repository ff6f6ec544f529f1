-- One piece behind the other.
use Rattle.text.proofs.Written.{joined3}
use Rattle.dialogue.proofs.answers.error.Goals as goal

pub returns : goal.returns
returns c = search joined3
