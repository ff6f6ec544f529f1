-- One piece behind the other.
use Rattle.text.proofs.Written.{joined4}
use Rattle.log_tools.specs.Complaints.{refusal_line}
use Rattle.log_tools.proofs.complaints.refusal_line.Goals as goal

pub returns : goal.returns
unfolding refusal_line
returns c = joined4 _ _ _ _ _ _ _ _ _ _ _ _ _ _ _ c.title-at.ensures c.bytes-at.ensures c.word_at-at.ensures c.byte.ensures (rw c.fault_text.ensures)
