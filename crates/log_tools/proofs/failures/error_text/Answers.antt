-- One piece behind the other.
use Rattle.text.proofs.Written.{joined3}
use Rattle.log_tools.proofs.failures.error_text.Goals as goal

pub returns : goal.returns
returns c = record {
  said = c.into_inner-said.result;
  written = joined3 _ _ _ _ _ _ _ _ _ _ _ _ c.bytes-at.ensures c.bytes-at-2.ensures c.byte.ensures (rw c.reason.ensures);
}
