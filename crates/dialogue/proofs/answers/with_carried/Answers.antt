-- One piece behind the other.
use Rattle.text.proofs.Written.{joined3}
use Rattle.dialogue.specs.Answers.{carried_of}
use Rattle.dialogue.proofs.answers.with_carried.Goals as goal

pub returns : goal.returns
unfolding carried_of
returns c = search joined3
