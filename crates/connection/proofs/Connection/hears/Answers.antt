use mathlib.Core.Path.{sym}
use borrow.Author.Tests.{ne_eqb}
use Rattle.connection.specs.Record.{listens_on, hears}
use Rattle.connection.proofs.Connection.hears.Goals as goal

pub returns-then-phase-eq-CLOSED : goal.returns-then-phase-eq-CLOSED
unfolding listens_on hears
returns-then-phase-eq-CLOSED c = sym (rw c.if-phase-eq-CLOSED.true)

pub returns-then-phase-eq-REQUESTING : goal.returns-then-phase-eq-REQUESTING
unfolding listens_on hears
returns-then-phase-eq-REQUESTING c = rw (c.answers_on.ensures, ne_eqb _ _ c.if-phase-eq-CLOSED.false, c.if-phase-eq-REQUESTING.true)

pub returns : goal.returns
unfolding listens_on hears
returns c = sym (rw (ne_eqb _ _ c.if-phase-eq-CLOSED.false, ne_eqb _ _ c.if-phase-eq-REQUESTING.false))
