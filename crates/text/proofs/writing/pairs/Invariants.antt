-- The pairs of the bytes passed are written.
use lib.ListN.{take}
use Rattle.text.specs.Written.{Writes, pairs_of}
use Rattle.text.proofs.writing.pairs.Given as goal

abbrev pub invariant-loop-b : goal.invariant-loop-b
invariant-loop-b l = Writes l.initial.text l.at (pairs_of (take l.b-index l.s)) l.text l.next
