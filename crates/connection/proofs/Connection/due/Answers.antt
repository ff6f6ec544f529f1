use Rattle.laws.proofs.Branches.{branches}
use Rattle.connection.specs.Calls.{due_of}
use Rattle.connection.proofs.Connection.due.Goals as goal

pub returns-then-phase-eq-CLOSED : goal.returns-then-phase-eq-CLOSED
unfolding due_of
returns-then-phase-eq-CLOSED c = rw c.closed_due.ensures (search branches)

pub returns-then-phase-eq-REQUESTING : goal.returns-then-phase-eq-REQUESTING
unfolding due_of
returns-then-phase-eq-REQUESTING c = rw (c.request_due.ensures, c.request_to-payload.ensures) (search branches)

pub returns-then-phase-eq-AGREEING : goal.returns-then-phase-eq-AGREEING
unfolding due_of
returns-then-phase-eq-AGREEING c = rw (c.request_due-then-phase-eq-AGREEING.ensures, c.write_setup-payload.ensures, c.own_fields.ensures) (search branches)

pub returns : goal.returns
unfolding due_of
returns c = rw c.open_due.ensures (search branches)
