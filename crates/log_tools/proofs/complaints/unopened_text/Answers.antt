-- One piece behind the other.
use Rattle.text.proofs.Written.{joined3}
use Rattle.log_tools.specs.Complaints.{unopened_text}
use Rattle.log_tools.proofs.complaints.unopened_text.Goals as goal

pub returns : goal.returns
unfolding unopened_text
returns c = search joined3
