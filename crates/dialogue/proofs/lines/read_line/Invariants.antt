-- What came so far is no LF, and stands at the start as far as there is room.
use Rattle.dialogue.proofs.LineEnds.{SoFar}
use Rattle.dialogue.proofs.lines.read_line.Given as goal

abbrev pub invariant-loop : goal.invariant-loop
invariant-loop g l = SoFar l.initial.line l.line l.fill
