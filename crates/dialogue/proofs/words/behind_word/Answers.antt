-- From the second word on.
use Rattle.dialogue.proofs.Handed.{behind}
use Rattle.dialogue.proofs.words.behind_word.Goals as goal

pub returns : goal.returns
returns c = behind _ _ _ _ c.word-w.ensures c.word-next.ensures c.part.ensures
