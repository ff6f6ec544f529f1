use Rattle.open_end.specs.OpenEnd.{sent_at}
use Rattle.open_end.proofs.OpenEnd.send.Goals as goal

pub returns : goal.returns
unfolding sent_at
returns c = rw c.send-answer.ensures
