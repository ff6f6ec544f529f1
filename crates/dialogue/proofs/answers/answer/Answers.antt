-- One piece behind the other.
use Rattle.text.proofs.Written.{joined}
use Rattle.dialogue.specs.Answers.{answer_of}
use Rattle.dialogue.proofs.answers.answer.Goals as goal

pub returns : goal.returns
unfolding answer_of
returns c = search joined
