-- One piece behind the other.
use Rattle.text.proofs.Written.{joined}
use Rattle.log_tools.proofs.complaints.title.Goals as goal

pub returns : goal.returns
returns c = search joined
