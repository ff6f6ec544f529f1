-- A letter more, or none left; or more than eight.
use Rattle.std.proofs.Common.{arith}
use Rattle.laws.proofs.Branches.{branches}
use Rattle.dialogue.specs.Words.{letters_of}
use Rattle.dialogue.proofs.Letters.{has_room, spells, spelt}
use Rattle.dialogue.proofs.words.letters.Goals as goal

pub returns-then-word-gt8 : goal.returns-then-word-gt8
unfolding letters_of
returns-then-word-gt8 c = search branches

pub overflow_mul-n : goal.overflow_mul-n
overflow_mul-n c = record { fits = omega (arith, has_room _ _ _ c.loop-c.invariant c.loop-c-test.true (omega arith)) }

pub loop-c-preserved : goal.loop-c-preserved
loop-c-preserved c = spells _ _ _ _ c.loop-c.invariant c.loop-c-test.true c.from.ensures (omega (arith, (c.type_inv.word c.loop-c.c-index).fits))

pub returns : goal.returns
unfolding letters_of
returns c = let h = spelt _ _ _ c.loop-c.invariant (omega arith) in search (h, branches)
