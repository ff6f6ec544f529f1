-- 02, 10, and SAE J3054 (001), 5.1: the opening frames of TP 1.6. "Channel Setup and Channel Acknowledge messages have a fixed length of 3 data bytes": destination, opcode, channel ID.
use Rattle.std.specs.Prelude.{ℕ, ◌&&◌, List, [], ◌∷◌, length, get_or, eqb, if◌then◌else◌}
use Rattle.telegram.specs.Outgoing.{payload_of}
use Rattle.telegram.specs.declared.payload.Payload.{Payload}
use Rattle.opening.specs.Opening.{low_of, Reply, Request, Positive, Refused, NoReply, Open, NoRequest}

-- the request: unit, C0, and of our receive ID the "lower 8 bits of the CAN ID"
abbrev pub short_request_of : (unit receive : ℕ) → Payload
short_request_of unit receive = payload_of (unit ∷ 0xC0 ∷ low_of receive ∷ [])

-- the replies: 00 (the tester's address, 5.1.3.3), opcode, and the lower 8 bits of our transmit ID
abbrev pub short_reply_of : (opcode transmit : ℕ) → Payload
short_reply_of opcode transmit = payload_of (0x00 ∷ opcode ∷ low_of transmit ∷ [])

-- a request is well formed with these bytes, whatever its unit; its ID is read without the offset
unfoldable pub short_request_read : List ℕ → Request
short_request_read s = if eqb (length s) 3 && eqb (get_or s 1 0) 0xC0 then Open (get_or s 0 0) (get_or s 2 0) else NoRequest

-- "negative reply D8 only", with any byte behind it; the ID of a positive reply is read without the offset, and ours is not in it
unfoldable pub short_reply_read : List ℕ → Reply
short_reply_read s =
    if eqb (length s) 3 && eqb (get_or s 0 0) 0x00 && eqb (get_or s 1 0) 0xD8 then Refused (get_or s 1 0)
    else if eqb (length s) 3 && eqb (get_or s 0 0) 0x00 && eqb (get_or s 1 0) 0xD0 then Positive (get_or s 2 0)
    else NoReply
