use native.Mathlib.Omega.{arith}
use Rattle.receiver.proofs.Verdict.{in-two-steps}
use Rattle.receiver.proofs.Receiver.in_order.Goals as goal

pub returns : goal.returns
returns c = in-two-steps _ _ _ _ _ _ (omega arith) (omega arith) _ _ _ c.brought-brought.ensures c.verdict-note.ensures c.after.ensures
