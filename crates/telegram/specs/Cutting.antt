-- 01, "Cutting": the data telegrams that carry a message.
use Rattle.std.specs.Prelude.{ℕ, ◌+◌, ◌*◌, ◌/◌, ◌%◌, Bool, true, false, ◌||◌, List, [], ◌∷◌, length, take, drop, eqb, if◌then◌else◌}
use Rattle.telegram.specs.Outgoing.{payload_of}
use Rattle.telegram.specs.declared.cutting.Message.{Message}
use Rattle.telegram.specs.declared.payload.Payload.{Payload}

-- the longest message, in bytes
abbrev pub longest : ℕ
longest = 1024

-- no message
abbrev pub none : Message
none = record { length = 0; flags = 0 }

-- what the two length bytes declare, high first: "the low 12 bits as length"; "the high nibble of that byte holds flags" (02, 1)
abbrev pub declared_of : (high low : ℕ) → Message
declared_of high low = record { length = 256 * (high % 16) + low; flags = high / 16 }

-- two length bytes, high first, then the message; "the writer still sends flags 0" (02, 1), whatever it is lent
unfoldable pub stream_of : List ℕ → List ℕ
stream_of m = length m / 256 % 16 ∷ length m % 256 ∷ m

-- how many frames of seven the two length bytes and n more make; the last may be shorter
unfoldable pub frames_of : ℕ → ℕ
frames_of n = (n + 8) / 7

-- a data telegram's first byte: 00, AR (0 asks for an Ack), EOM, number modulo 16
unfoldable pub header_of : (asks last : Bool) → ℕ → ℕ
header_of asks last number = (if asks then 0x00 else 0x20) + (if last then 0x10 else 0x00) + number % 16

-- EOM stands on the last frame; k counts the frames before it
abbrev pub last_at : (length : ℕ) → ℕ → Bool
last_at n k = eqb (k + 1) (frames_of n)

-- AR stands on every frame whose place, from 1, is a multiple of the block size, and on the last
abbrev pub asks_at : (block length : ℕ) → ℕ → Bool
asks_at block n k = eqb ((k + 1) % block) 0 || last_at n k

-- the frame behind k others of the message m
unfoldable pub frame_at : List ℕ → (block first k : ℕ) → Payload
frame_at m block first k =
    payload_of (header_of (asks_at block (length m) k) (last_at (length m) k) (first + k) ∷ take 7 (drop (7 * k) (stream_of m)))

-- "cut in sevens; the last frame may be shorter"
unfoldable pub sevens : List ℕ → List (List ℕ)
sevens [] = []
sevens (a ∷ []) = (a ∷ []) ∷ []
sevens (a ∷ b ∷ []) = (a ∷ b ∷ []) ∷ []
sevens (a ∷ b ∷ c ∷ []) = (a ∷ b ∷ c ∷ []) ∷ []
sevens (a ∷ b ∷ c ∷ d ∷ []) = (a ∷ b ∷ c ∷ d ∷ []) ∷ []
sevens (a ∷ b ∷ c ∷ d ∷ e ∷ []) = (a ∷ b ∷ c ∷ d ∷ e ∷ []) ∷ []
sevens (a ∷ b ∷ c ∷ d ∷ e ∷ f ∷ []) = (a ∷ b ∷ c ∷ d ∷ e ∷ f ∷ []) ∷ []
sevens (a ∷ b ∷ c ∷ d ∷ e ∷ f ∷ g ∷ s) = (a ∷ b ∷ c ∷ d ∷ e ∷ f ∷ g ∷ []) ∷ sevens s

-- the pieces with their first bytes, from a place (from 1) and a number on: EOM and AR on the last, AR on multiples of the block size, numbers counting on modulo 16
unfoldable pub headed : (block place number : ℕ) → List (List ℕ) → List (List ℕ)
headed block place number [] = []
headed block place number (p ∷ []) = (header_of true true number ∷ p) ∷ []
headed block place number (p ∷ q ∷ rest) =
    (header_of (eqb (place % block) 0) false number ∷ p) ∷ headed block (place + 1) ((number + 1) % 16) (q ∷ rest)

-- the cutting of a message, as it is published
abbrev pub cutting : List ℕ → (block first : ℕ) → List (List ℕ)
cutting m block first = headed block 1 first (sevens (stream_of m))
