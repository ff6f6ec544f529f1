use borrow.Author.Tests.{ne_eqb}
use Rattle.laws.proofs.Branches.{branches}
use Rattle.connection.specs.Calls.{arrived, buffered}
use Rattle.connection.proofs.Connection.arrive.Goals as goal

pub returns-then-phase-eq-CLOSED : goal.returns-then-phase-eq-CLOSED
unfolding arrived buffered
returns-then-phase-eq-CLOSED c = record { value = rw (c.marked.ensures, c.gives.ensures) (search branches); buffer_after = search branches }

pub returns-then-not-hears : goal.returns-then-not-hears
unfolding arrived buffered
returns-then-not-hears c = record { value = rw (c.marked-then-not-hears.ensures, c.tell.ensures) (search branches); buffer_after = search branches }

pub returns-then-phase-eq-REQUESTING : goal.returns-then-phase-eq-REQUESTING
unfolding arrived buffered
returns-then-phase-eq-REQUESTING c = record { value = rw (c.marked-then-phase-eq-REQUESTING.ensures, c.on_reply.ensures, c.read_reply.ensures) (search branches); buffer_after = search branches }

pub returns-then-phase-eq-AGREEING : goal.returns-then-phase-eq-AGREEING
unfolding arrived buffered
returns-then-phase-eq-AGREEING c = record { value = rw (c.marked-then-phase-eq-AGREEING.ensures, c.on_agreeing.ensures, c.sort-s.ensures) (search branches); buffer_after = search branches }

pub returns : goal.returns
unfolding arrived buffered
returns c = record { value = rw (c.marked-2.ensures, c.on_open.ensures.value, c.sort-s.ensures, ne_eqb _ _ c.if-phase-eq-CLOSED.false, ← c.hears.ensures, c.if-not-hears.false, ne_eqb _ _ c.if-phase-eq-REQUESTING.false, ne_eqb _ _ c.if-phase-eq-AGREEING.false); buffer_after = rw (c.on_open.ensures.buffer_after, c.sort-s.ensures, ne_eqb _ _ c.if-phase-eq-CLOSED.false, ← c.hears.ensures, c.if-not-hears.false, ne_eqb _ _ c.if-phase-eq-REQUESTING.false, ne_eqb _ _ c.if-phase-eq-AGREEING.false) }
