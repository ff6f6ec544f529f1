-- What is left behind the digits passed decides as the whole rest does.
use Prim.Native.Nat.{◌^◌}
use mathlib.Core.Path.{◌≡◌}
use lib.ListN.{drop}
use Rattle.text.specs.Numbers.{number_from}
use Rattle.text.proofs.reading.too_large.Given as goal

abbrev pub invariant-loop-c : goal.invariant-loop-c
invariant-loop-c l = number_from l.base (2 ^ 64) l.rest ≡ number_from l.base (2 ^ 64) (drop l.c-index l.rest)
