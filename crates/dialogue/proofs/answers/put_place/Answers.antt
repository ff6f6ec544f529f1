-- One piece behind the other.
use Rattle.text.proofs.Written.{joined}
use Rattle.dialogue.proofs.answers.put_place.Goals as goal

pub returns : goal.returns
returns c = search joined
