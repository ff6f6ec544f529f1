-- One piece behind the other.
use Rattle.std.proofs.Common.{refl}
use Rattle.text.proofs.Written.{joined3}
use Rattle.log_tools.proofs.complaints.unread_line.Goals as goal

pub returns : goal.returns
returns c = record {
  said = c.error_text.ensures.said;
  written = joined3 _ _ _ _ _ _ _ _ _ _ _ _ c.title-at.ensures c.bytes-at.ensures c.error_text.ensures.written refl;
}
