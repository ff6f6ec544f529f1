use borrow.Author.Tests.{eq-eqb, ne_eqb}
use Rattle.open_end.specs.OpenEnd.{course_of}
use Rattle.open_end.proofs.course_of.Goals as goal

pub returns-then-number-eq8 : goal.returns-then-number-eq8
unfolding course_of
returns-then-number-eq8 c = rw (← c.say-said.ensures, eq-eqb _ _ c.if-number-eq8.true)

pub returns-then-disconnected : goal.returns-then-disconnected
unfolding course_of
returns-then-disconnected c = rw (← c.say-said.ensures, ne_eqb _ _ c.if-number-eq8.false, c.if-disconnected.true)

pub returns : goal.returns
unfolding course_of
returns c = rw (← c.say-said.ensures, ne_eqb _ _ c.if-number-eq8.false, c.if-disconnected.false)
