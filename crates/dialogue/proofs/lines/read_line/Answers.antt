-- A character more.
use Rattle.std.proofs.Common.{arith}
use Rattle.dialogue.proofs.LineEnds.{goes_on}
use Rattle.dialogue.proofs.lines.read_line.Goals as goal

pub loop-preserved : goal.loop-preserved
loop-preserved g c = goes_on _ _ _ _ _ _ c.loop.invariant c.byte-fill.ensures (λ z. omega arith)
