-- One piece behind the other.
use Rattle.text.proofs.Written.{joined3}
use Rattle.dialogue.specs.Answers.{answer_at}
use Rattle.dialogue.proofs.answers.answer_at.Goals as goal

pub returns : goal.returns
unfolding answer_at
returns c = search joined3
