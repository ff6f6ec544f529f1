-- One pair more.
use Rattle.text.specs.Written.{pairs_of}
use Rattle.text.proofs.Written.{none, one-more-pair}
use Rattle.text.proofs.writing.pairs.Goals as goal

pub loop-b-init : goal.loop-b-init
unfolding pairs_of
loop-b-init c = none _ _

pub loop-b-preserved : goal.loop-b-preserved
loop-b-preserved c = one-more-pair _ _ _ _ _ _ _ _ c.loop-b.invariant c.loop-b-test.true c.spaced-next.ensures
