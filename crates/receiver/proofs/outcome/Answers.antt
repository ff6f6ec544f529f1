use Rattle.laws.proofs.Branches.{branches}
use Rattle.receiver.proofs.Verdict.{filled-notes}
use Rattle.receiver.proofs.outcome.Goals as goal

pub returns-then-length-fill : goal.returns-then-length-fill
returns-then-length-fill c = rw filled-notes (search branches)

pub returns-then-last-fill : goal.returns-then-last-fill
returns-then-last-fill c = rw filled-notes (search branches)

pub returns-then-last-fill-2 : goal.returns-then-last-fill-2
returns-then-last-fill-2 c = rw filled-notes (search branches)

pub returns-then-room-length : goal.returns-then-room-length
returns-then-room-length c = rw filled-notes (search branches)

pub returns-then-last : goal.returns-then-last
returns-then-last c = rw filled-notes (search branches)

pub returns-else-last : goal.returns-else-last
returns-else-last c = rw filled-notes (search branches)
