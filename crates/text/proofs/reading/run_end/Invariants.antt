-- The characters before the place i of the rest belong to the run.
use Rattle.std.proofs.Common.{◌≡◌, ◌+◌, drop}
use Rattle.text.specs.Words.{run_of}
use Rattle.text.proofs.reading.run_end.Given as goal

abbrev pub invariant-loop-i : goal.invariant-loop-i
invariant-loop-i l = run_of l.blank l.rest ≡ l.i + run_of l.blank (drop l.i l.rest)
