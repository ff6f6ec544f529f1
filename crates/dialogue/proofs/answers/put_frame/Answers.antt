-- The ID and the bytes.
use Rattle.text.proofs.Written.{joined3}
use Rattle.dialogue.proofs.Sentences.{frame_is}
use Rattle.dialogue.proofs.answers.put_frame.Goals as goal

pub returns : goal.returns
returns c = search (joined3, frame_is)
