-- What stands before the place is part of the reason.
use Rattle.std.proofs.Common.{◌≡◌, ◌++◌, take, drop}
use Rattle.log_tools.specs.Failures.{reason_of}
use Rattle.log_tools.proofs.failures.reason_end.Given as goal

abbrev pub invariant-loop-i : goal.invariant-loop-i
invariant-loop-i l = reason_of l.text ≡ take l.i l.text ++ reason_of (drop l.i l.text)
