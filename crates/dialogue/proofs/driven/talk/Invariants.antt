-- So many turns were taken.
use Rattle.dialogue.specs.Driven.{Turns, begun, no_bytes}
use Rattle.dialogue.proofs.driven.talk.Given as goal

abbrev pub invariant-loop : goal.invariant-loop
invariant-loop g l = Turns g.C.Record.calls l.counter (begun g.C.Record.calls) no_bytes l.c l.lent
