-- 02, request 4, "Units that pad their control telegrams": "padding alters nothing else", of the car's side (02, 5). proofs/Padding.antt proves it.
use Rattle.std.specs.Prelude.{ℕ, ◌≤◌, List, ◌≢◌, length}
use Rattle.open_end.specs.Padding.{Outcome, PaddingIn}
use Rattle.unit.specs.declared.ControlUnit.{ControlUnit}
use Rattle.unit.specs.Calls.{arrived, buffered}

-- what a frame with the bytes s comes to at a unit, a buffer being lent
abbrev pub comes_to : (limit : ℕ) → ControlUnit → (id : ℕ) → (buffer s : List ℕ) → Outcome ControlUnit
comes_to limit c id b s =
    (let r = arrived limit c id s (length b) in record { told = r.told; padded = r.padded; left = r.left; buffer = buffered limit c id s b })

-- for every unit, ID and buffer; none is marked on 0x200 (house), and phases 0, 1 and 2 are closed
abbrev pub PaddingAltersNothing : Type 0
PaddingAltersNothing =
    (limit : ℕ) (c : ControlUnit) (id : ℕ) (buffer : List ℕ) → PaddingIn ((id ≢ 0x200) × (3 ≤ c.phase)) (comes_to limit c id buffer)
