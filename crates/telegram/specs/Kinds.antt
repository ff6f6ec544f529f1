-- 01, "Telegrams on an open connection": the kinds, and how a telegram is sorted and written.
use Rattle.std.specs.Prelude.{ℕ, ◌+◌, ◌/◌, ◌%◌, Bool, true, false, ◌&&◌, ◌||◌, List, [], ◌∷◌, length, get_or, leb, ltb, eqb, if◌then◌else◌}
use Rattle.telegram.specs.Outgoing.{payload_of}
use Rattle.telegram.specs.declared.payload.Payload.{Payload}
use Rattle.telegram.specs.declared.kinds.Parameters.{Parameters}
use Rattle.telegram.specs.declared.kinds.Sorted.{Sorted}
use Rattle.telegram.specs.declared.kinds.Telegram.{Telegram}
use Rattle.telegram.specs.declared.kinds.Telegram.TheVariants.{Data, Ack, Test, Break, Disconnect, Setup, Accept, Malformed}

-- bits 7 and 6 of a first byte
abbrev pub top : ℕ → ℕ
top b = b / 64

-- bit 5: AR in data, RS in an Ack
abbrev pub bit5 : ℕ → ℕ
bit5 b = b / 32 % 2

-- bit 4: EOM in data, 1 in an Ack
abbrev pub bit4 : ℕ → ℕ
bit4 b = b / 16 % 2

-- bits 3-0
abbrev pub number : ℕ → ℕ
number b = b % 16

-- the fields of an A0 or A1: block size, T1, T2, T3, T4; T2 and T4 are read as anything
abbrev pub fields : List ℕ → Parameters
fields s = record { block = get_or s 1 0; t1 = get_or s 2 0; t3 = get_or s 4 0 }

-- row 2, "A1 block size 0 or over 15"
unfoldable pub bad_block : ℕ → Bool
bad_block b = eqb b 0 || ltb 15 b

-- "at their own length or at exactly 8 bytes" (02, 4)
abbrev pub own_or_filled : (own : ℕ) → List ℕ → Bool
own_or_filled own s = eqb (length s) own || eqb (length s) 8

-- data: first byte 00, AR, EOM, number, 2 to 8 bytes, AR 0 asks for an Ack; Ack: 1 0 RS 1 number, 1 byte or filled up to 8, RS 1 is ready
unfoldable pub kind_of : List ℕ → ℕ → Telegram
kind_of s b =
    if eqb (top b) 0 && leb 2 (length s) && leb (length s) 8 then Data (eqb (bit5 b) 0) (eqb (bit4 b) 1) (number b)
    else if own_or_filled 1 s && eqb (top b) 2 && eqb (bit4 b) 1 then Ack (eqb (bit5 b) 1) (number b)
    else if own_or_filled 1 s && eqb b 0xA3 then Test
    else if own_or_filled 1 s && eqb b 0xA4 then Break
    else if own_or_filled 1 s && eqb b 0xA8 then Disconnect
    else if eqb (length s) 6 && eqb b 0xA0 then Setup (fields s)
    else if own_or_filled 6 s && eqb b 0xA1 then Accept (fields s)
    else Malformed

-- "Acks, tests, breaks, disconnects and A1": the kinds that a gateway fills up to 8 bytes (02, 4)
abbrev pub fillable : Telegram → Bool
fillable (Data asks last n) = false
fillable (Ack ready n) = true
fillable Test = true
fillable Break = true
fillable Disconnect = true
fillable (Setup p) = false
fillable (Accept p) = true
fillable Malformed = false

-- a telegram sorted into its kind, one of no bytes being badly formed, like all else; and whether it is padded: "and says which" (02, 4)
abbrev pub sorted : List ℕ → Sorted
sorted s = (let k = kind_of s (get_or s 0 0) in record { kind = k; padded = fillable k && eqb (length s) 8 })

-- an Ack: 1 0 RS 1 number
abbrev pub ack_of : Bool → ℕ → Payload
ack_of ready n = payload_of (((if ready then 0xB0 else 0x90) + n % 16) ∷ [])

-- test: A3
abbrev pub test_of : Payload
test_of = payload_of (0xA3 ∷ [])

-- disconnect: A8
abbrev pub disconnect_of : Payload
disconnect_of = payload_of (0xA8 ∷ [])

-- A0, block size, T1, FF, T3, FF
abbrev pub setup_of : Parameters → Payload
setup_of p = payload_of (0xA0 ∷ p.block ∷ p.t1 ∷ 0xFF ∷ p.t3 ∷ 0xFF ∷ [])

-- A1 with the same fields
abbrev pub accept_of : Parameters → Payload
accept_of p = payload_of (0xA1 ∷ p.block ∷ p.t1 ∷ 0xFF ∷ p.t3 ∷ 0xFF ∷ [])
