use mathlib.Core.Path.{sym}
use native.Mathlib.Omega.{arith}
use Rattle.telegram.proofs.Bytes.{get_or-stream, get_or-stream-end}
use Rattle.telegram.proofs.cutting.byte_at.Goals as goal

pub returns-then-at-message : goal.returns-then-at-message
returns-then-at-message c = sym (get_or-stream _ _ _ (omega arith))

pub returns-else-at-message : goal.returns-else-at-message
returns-else-at-message c = sym (get_or-stream-end _ _ (omega arith))
