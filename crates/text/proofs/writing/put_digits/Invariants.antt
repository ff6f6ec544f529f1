-- The digits still to write, and then the i that are written, are the digits of n.
use mathlib.Core.Path.{◌≡◌}
use mathlib.Core.List.{◌++◌}
use Prim.Native.Nat.{◌-◌}
use lib.Seq.{slice}
use Rattle.text.specs.Digits.{last_digits}
use Rattle.text.proofs.writing.put_digits.Given as goal

abbrev pub invariant-loop-i : goal.invariant-loop-i
invariant-loop-i l = last_digits (l.k - l.i) l.rest ++ slice (l.k - l.i) l.k l.digits ≡ last_digits l.k l.n
