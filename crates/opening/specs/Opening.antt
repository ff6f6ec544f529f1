-- 01, "Opening": the C0 request and its replies. IDs are those of the side that asks.
use Rattle.std.specs.Prelude.{ℕ, ◌+◌, ◌*◌, ◌/◌, ◌%◌, Bool, ◌&&◌, ◌||◌, List, [], ◌∷◌, Option, Some, None, Result, Ok, Err, length, get_or, ltb, eqb, if◌then◌else◌}
use Rattle.telegram.specs.Outgoing.{payload_of}
use Rattle.telegram.specs.declared.payload.Payload.{Payload}
use Rattle.opening.specs.declared.ReplyError.{ReplyError}
use Rattle.opening.specs.declared.ReplyError.TheVariants.{Refused as RefusedBy, Malformed}
use Rattle.opening.specs.declared.Request.{Request as Asked}

-- what a frame says as a request: one that opens, or none
abbrev pub Request : Type 0
Request = Option Asked

abbrev pub Open : (unit receive : ℕ) → Request
Open unit receive = Some (record { unit = unit; receive = receive })

pattern abbrev pub NoRequest : Request
NoRequest = None

-- what a frame says as a reply: a positive one with our transmit ID, a refusal with its opcode, or none
abbrev pub Reply : Type 0
Reply = Result ℕ ReplyError

pattern abbrev pub Positive : ℕ → Reply
Positive transmit = Ok transmit

pattern abbrev pub Refused : ℕ → Reply
Refused opcode = Err (RefusedBy opcode)

pattern abbrev pub NoReply : Reply
NoReply = Err Malformed

-- the CAN ID of every request
abbrev pub request_id : ℕ
request_id = 0x200

-- an ID's low byte
abbrev pub low_of : ℕ → ℕ
low_of i = i % 256

-- an ID's high byte: bits 2-0 belong to the ID, the others are 0
abbrev pub high_of : ℕ → ℕ
high_of i = i / 256 % 8

-- the ID of a low and a high byte
abbrev pub id_of : ℕ → ℕ → ℕ
id_of low high = low + 256 * high

-- a high byte whose bit 4 ("not valid") and other bits beside the ID's are clear
abbrev pub clear : ℕ → Bool
clear high = ltb high 8

-- the request: unit, C0, 00, 10, receive ID low, receive ID high, 01
abbrev pub request_of : (unit receive : ℕ) → Payload
request_of unit receive = payload_of (unit ∷ 0xC0 ∷ 0x00 ∷ 0x10 ∷ low_of receive ∷ high_of receive ∷ 0x01 ∷ [])

-- the replies, D6 to D8 filled in like D0: 00, opcode, receive ID low and high, transmit ID low and high, 01
abbrev pub reply_of : (opcode receive transmit : ℕ) → Payload
reply_of opcode receive transmit =
    payload_of (0x00 ∷ opcode ∷ low_of receive ∷ high_of receive ∷ low_of transmit ∷ high_of transmit ∷ 0x01 ∷ [])

-- a request is well formed with exactly these bytes, whatever its unit and receive ID
unfoldable pub request_read : List ℕ → Request
request_read s =
    if eqb (length s) 7 && eqb (get_or s 1 0) 0xC0 && eqb (get_or s 2 0) 0x00 && eqb (get_or s 3 0) 0x10 && clear (get_or s 5 0) && eqb (get_or s 6 0) 0x01
    then Open (get_or s 0 0) (id_of (get_or s 4 0) (get_or s 5 0))
    else NoRequest

-- D6 application not supported, D7 not supported for now, D8 no resources
abbrev pub refusal : ℕ → Bool
refusal opcode = eqb opcode 0xD6 || eqb opcode 0xD7 || eqb opcode 0xD8

-- a reply, read against our own receive ID: of a refusal only length, byte 0 and opcode are checked
unfoldable pub reply_read : List ℕ → ℕ → Reply
reply_read s receive =
    if eqb (length s) 7 && eqb (get_or s 0 0) 0x00 && refusal (get_or s 1 0) then Refused (get_or s 1 0)
    else if eqb (length s) 7 && eqb (get_or s 0 0) 0x00 && eqb (get_or s 1 0) 0xD0
    && clear (get_or s 3 0) && eqb (id_of (get_or s 2 0) (get_or s 3 0)) receive
    && clear (get_or s 5 0) && eqb (get_or s 6 0) 0x01
    then Positive (id_of (get_or s 4 0) (get_or s 5 0))
    else NoReply
