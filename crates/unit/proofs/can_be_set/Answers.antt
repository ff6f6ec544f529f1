use Rattle.unit.specs.Record.{settable}
use Rattle.unit.proofs.can_be_set.Goals as goal

pub returns : goal.returns
unfolding settable
returns c = rw (c.is_reply.ensures, c.in_range.ensures)
