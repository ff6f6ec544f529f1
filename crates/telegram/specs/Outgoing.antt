-- What goes out: a length and eight bytes, zero behind the length.
use Rattle.std.specs.Prelude.{ℕ, List, ◌++◌, length, take, replicate}
use Rattle.telegram.specs.declared.payload.Payload.{Payload}

-- the payload of at most eight bytes
abbrev pub payload_of : List ℕ → Payload
payload_of s = record { len = length s; bytes = take 8 (s ++ replicate 8 0) }

-- the bytes that a payload puts on the bus
abbrev pub bytes_of : Payload → List ℕ
bytes_of p = take p.len p.bytes
