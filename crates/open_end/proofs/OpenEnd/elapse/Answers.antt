use Rattle.open_end.specs.OpenEnd.{elapsed_at}
use Rattle.open_end.proofs.OpenEnd.elapse.Goals as goal

pub returns : goal.returns
unfolding elapsed_at
returns c = rw c.elapse-answer.ensures
