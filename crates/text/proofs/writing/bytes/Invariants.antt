-- The characters passed are written.
use lib.ListN.{take}
use Rattle.text.specs.Written.{Writes}
use Rattle.text.proofs.writing.bytes.Given as goal

abbrev pub invariant-loop-c : goal.invariant-loop-c
invariant-loop-c l = Writes l.initial.text l.at (take l.c-index l.s) l.text l.next
