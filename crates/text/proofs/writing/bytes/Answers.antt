-- One character more.
use Rattle.text.proofs.Written.{one_more}
use Rattle.text.proofs.writing.bytes.Goals as goal

pub loop-c-preserved : goal.loop-c-preserved
loop-c-preserved c = one_more _ _ _ _ _ _ _ _ c.loop-c.invariant c.loop-c-test.true c.byte-next.ensures
