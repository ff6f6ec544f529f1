-- 02, request 4, "Units that pad their control telegrams": "padding alters nothing else", of the side that opens. proofs/Padding.antt proves it.
use Rattle.std.specs.Prelude.{ℕ, List, ◌≢◌, length}
use Rattle.open_end.specs.Padding.{Outcome, PaddingIn}
use Rattle.connection.specs.declared.Connection.{Connection}
use Rattle.connection.specs.Calls.{arrived, buffered}

-- what a frame with the bytes s comes to at a record, a buffer being lent
abbrev pub comes_to : (limit : ℕ) → Connection → (id : ℕ) → (buffer s : List ℕ) → Outcome Connection
comes_to limit c id b s =
    (let r = arrived limit c id s (length b) in record { told = r.told; padded = r.padded; left = r.left; buffer = buffered limit c id s b })

-- for every record, ID and buffer; phase 0 is closed
abbrev pub PaddingAltersNothing : Type 0
PaddingAltersNothing = (limit : ℕ) (c : Connection) (id : ℕ) (buffer : List ℕ) → PaddingIn (c.phase ≢ 0) (comes_to limit c id buffer)
