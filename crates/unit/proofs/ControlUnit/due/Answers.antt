use Rattle.laws.proofs.Branches.{branches}
use Rattle.unit.specs.Calls.{due_of}
use Rattle.unit.proofs.ControlUnit.due.Goals as goal

pub returns-then-phase-eq-LEAVING : goal.returns-then-phase-eq-LEAVING
unfolding due_of
returns-then-phase-eq-LEAVING c = rw (c.hand_over.ensures, c.closed_of.ensures, c.write_disconnect-payload.ensures) (search branches)

pub returns-then-phase-eq-REFUSING : goal.returns-then-phase-eq-REFUSING
unfolding due_of
returns-then-phase-eq-REFUSING c = rw (c.hand_over-then-phase-eq-REFUSING.ensures, c.reply_frame.ensures, c.closed_of-then-phase-eq-REFUSING.ensures) (search branches)

pub returns-then-phase-eq-REPLYING : goal.returns-then-phase-eq-REPLYING
unfolding due_of
returns-then-phase-eq-REPLYING c = rw (c.hand_over-then-phase-eq-REPLYING.ensures, c.reply_frame-then-phase-eq-REPLYING.ensures, c.at_phase.ensures) (search branches)

pub returns-then-phase-eq-ACCEPTING : goal.returns-then-phase-eq-ACCEPTING
unfolding due_of
returns-then-phase-eq-ACCEPTING c = rw (c.hand_over-then-phase-eq-ACCEPTING.ensures, c.accept_frame.ensures, c.at_phase-then-phase-eq-ACCEPTING.ensures) (search branches)

pub returns-then-not-is_open : goal.returns-then-not-is_open
unfolding due_of
returns-then-not-is_open c = rw (c.hand_nothing.ensures, ← c.is_open.ensures) (search branches)

pub returns : goal.returns
unfolding due_of
returns c = rw (c.open_due.ensures, ← c.is_open.ensures) (search branches)
