-- Each turn leaves less to fill.
use mathlib.Core.Path.{◌≡◌}
use Prim.Native.Nat.{◌-◌, ◌^◌, ◌≤◌, ◌<◌}
use lib.ListN.{length}
use Rattle.text.proofs.input.read_full.Given as goal

abbrev pub invariant-loop-fill : goal.invariant-loop-fill
invariant-loop-fill g l = (length l.text ≡ length l.initial.text) × (l.fill ≤ length l.text) × (length l.text < 2 ^ 64)

abbrev pub decreases-loop-fill : goal.decreases-loop-fill
decreases-loop-fill g l = length l.text - l.fill
