-- 01, "Opening", and 001, 5.1, in bytes. No promise cites these; proofs/Rules.antt proves them of what the promises cite.
use Rattle.std.specs.Prelude.{ℕ, ◌/◌, ◌%◌, ◌≤◌, ◌<◌, List, [], ◌∷◌, ◌≡◌}
use Rattle.telegram.specs.Outgoing.{bytes_of}
use Rattle.opening.specs.Opening.{request_of, reply_of, Reply, Request, Positive, Refused, Open}
use Rattle.opening.specs.Short.{short_request_of, short_reply_of}

-- the bytes of a request
pub data RequestForm (s : List ℕ) : Request → Type 0 where
  -- "7 bytes: unit, C0, 00, 10, receive ID low, receive ID high, 01"
  as-open : (unit receive : ℕ) → receive < 0x800 → s ≡ unit ∷ 0xC0 ∷ 0x00 ∷ 0x10 ∷ receive % 256 ∷ receive / 256 ∷ 0x01 ∷ [] → RequestForm s (Open unit receive)

-- the bytes of a reply to the end with this receive ID
pub data ReplyForm (receive : ℕ) (s : List ℕ) : Reply → Type 0 where
  -- "7 bytes: 00, D0, our receive ID low and high, our transmit ID low and high, 01"
  as-positive : (transmit : ℕ) → receive < 0x800 → transmit < 0x800
      → s ≡ 0x00 ∷ 0xD0 ∷ receive % 256 ∷ receive / 256 ∷ transmit % 256 ∷ transmit / 256 ∷ 0x01 ∷ [] → ReplyForm receive s (Positive transmit)
  -- "D6, D7, D8"; "of these only length, byte 0 and opcode are checked"
  as-refused : (opcode a b c d e : ℕ) → 0xD6 ≤ opcode → opcode ≤ 0xD8 → s ≡ 0x00 ∷ opcode ∷ a ∷ b ∷ c ∷ d ∷ e ∷ [] → ReplyForm receive s (Refused opcode)

-- the bytes that each writer puts on the bus
pub record OpeningWrites : Type 0 where
  pub request : (unit receive : ℕ) → receive < 0x800
      → bytes_of (request_of unit receive) ≡ unit ∷ 0xC0 ∷ 0x00 ∷ 0x10 ∷ receive % 256 ∷ receive / 256 ∷ 0x01 ∷ []
  pub reply : (opcode receive transmit : ℕ) → receive < 0x800 → transmit < 0x800
      → bytes_of (reply_of opcode receive transmit) ≡ 0x00 ∷ opcode ∷ receive % 256 ∷ receive / 256 ∷ transmit % 256 ∷ transmit / 256 ∷ 0x01 ∷ []

-- ---- TP 1.6: "a fixed length of 3 data bytes"; "lower 8 bits of the CAN ID" (001, 5.1)

-- the bytes of a request: "Destination, Opcode, ChId"; "the OpCode is always 0xC0" (5.1.2.3)
pub data ShortRequestForm (s : List ℕ) : Request → Type 0 where
  as-short-open : (unit channel : ℕ) → s ≡ unit ∷ 0xC0 ∷ channel ∷ [] → ShortRequestForm s (Open unit channel)

-- the bytes of a reply to the tester, whose address is 00 (5.1.3.3)
pub data ShortReplyForm (s : List ℕ) : Reply → Type 0 where
  -- "0xD0 for a positive response" (5.1.3.4)
  as-short-positive : (channel : ℕ) → s ≡ 0x00 ∷ 0xD0 ∷ channel ∷ [] → ShortReplyForm s (Positive channel)
  -- "negative reply D8 only" (02, 10), whatever its third byte
  as-short-refused : (any : ℕ) → s ≡ 0x00 ∷ 0xD8 ∷ any ∷ [] → ShortReplyForm s (Refused 0xD8)

-- the bytes that each writer puts on the bus
pub record ShortWrites : Type 0 where
  pub request : (unit receive : ℕ) → bytes_of (short_request_of unit receive) ≡ unit ∷ 0xC0 ∷ receive % 256 ∷ []
  pub reply : (opcode transmit : ℕ) → bytes_of (short_reply_of opcode transmit) ≡ 0x00 ∷ opcode ∷ transmit % 256 ∷ []
