-- What is read before the rest stands in the first n bytes.
use lib.ListN.{length}
use Rattle.text.proofs.Pairs.{Reading}
use Rattle.text.proofs.reading.pairs.Given as goal

abbrev pub invariant-loop-rest : goal.invariant-loop-rest
invariant-loop-rest l = Reading l.s l.initial.bytes l.bytes l.n l.rest

abbrev pub decreases-loop-rest : goal.decreases-loop-rest
decreases-loop-rest l = length l.rest
