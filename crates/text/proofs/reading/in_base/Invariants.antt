-- The digits before the place i make n.
use Prim.Native.Nat.{◌^◌, ◌<◌}
use mathlib.Core.Path.{◌≡◌}
use lib.ListN.{drop}
use Rattle.text.specs.Numbers.{number_of, number_from}
use Rattle.text.proofs.reading.in_base.Given as goal

abbrev pub invariant-loop-i : goal.invariant-loop-i
invariant-loop-i l = (number_of l.base l.s ≡ number_from l.base l.n (drop l.i l.s)) × (l.n < 2 ^ 64)
