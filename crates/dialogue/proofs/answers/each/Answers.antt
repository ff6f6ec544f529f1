-- A place more, and the line's end.
use Rattle.std.proofs.Common.{arith}
use Rattle.text.proofs.Written.{none, joined3}
use Rattle.dialogue.specs.Answers.{saids_of}
use Rattle.dialogue.proofs.Sentences.{said_more, said_each}
use Rattle.dialogue.proofs.answers.each.Goals as goal

pub loop-next-init : goal.loop-next-init
unfolding saids_of
loop-next-init c = none _ _

pub loop-next-preserved : goal.loop-next-preserved
loop-next-preserved c = said_more _ _ _ _ _ _ _ _ _ _ _ c.loop-next.invariant c.byte-at.ensures c.number-at-in-loop-next.ensures c.loop-next-test.true

pub returns : goal.returns
returns c =
    joined3 _ _ _ _ _ _ _ _ _ _ _ _ c.number-at.ensures c.loop-next.invariant c.byte.ensures
    (said_each c.args.said _ 7 c.loop-next.next-index (omega arith) (omega arith) c.loop-next-test.false)
