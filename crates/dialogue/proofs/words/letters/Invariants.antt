-- The letters passed make n.
use Rattle.dialogue.proofs.Letters.{Spelling}
use Rattle.dialogue.proofs.words.letters.Given as goal

abbrev pub invariant-loop-c : goal.invariant-loop-c
invariant-loop-c l = Spelling l.word l.n l.c-index
