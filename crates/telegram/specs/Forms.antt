-- 01, "Telegrams on an open connection" and "Cutting", in bytes. No promise cites these; proofs/Forms.antt and proofs/Rules.antt prove them of what the promises cite.
use Rattle.std.specs.Prelude.{ℕ, ◌+◌, ◌*◌, ◌/◌, ◌%◌, ◌≤◌, ◌<◌, Bool, true, false, List, [], ◌∷◌, ◌++◌, ◌↔◌, ◌⊎◌, ◌≡◌, length, take, drop, get_or, if◌then◌else◌}
use Rattle.telegram.specs.Outgoing.{bytes_of}
use Rattle.telegram.specs.Kinds.{ack_of, test_of, disconnect_of, setup_of, accept_of}
use Rattle.telegram.specs.Cutting.{cutting}
use Rattle.telegram.specs.declared.cutting.Message.{Message}
use Rattle.telegram.specs.declared.kinds.Parameters.{Parameters}
use Rattle.telegram.specs.declared.kinds.Sorted.{Sorted}
use Rattle.telegram.specs.declared.kinds.Telegram.{Telegram}
use Rattle.telegram.specs.declared.kinds.Telegram.TheVariants.{Data, Ack, Test, Break, Disconnect, Setup, Accept, Malformed}

-- every element is a byte; past the end stands 0
abbrev pub Bytes : List ℕ → Type 0
Bytes s = (i : ℕ) → get_or s i 0 < 256

-- what a reader gives for bytes, by F, the forms that they have: that whose form they have, and badly formed exactly if they have none
pub data Taken {A : Type 0} (F : A → Type 0) (malformed : A) : A → Type 0 where
  formed : {a : A} → F a → Taken F malformed a
  formless : ((a : A) → F a → ⊥) → Taken F malformed malformed

-- the first byte of data: 00, AR, EOM, number (4 bits); AR 0 asks for an Ack
abbrev pub first_byte : (asks last : Bool) → (number : ℕ) → ℕ
first_byte asks last number = (if asks then 0x00 else 0x20) + (if last then 0x10 else 0x00) + number

-- an Ack, test, break, disconnect or A1 at its own length: its bytes
pub data Fillable : List ℕ → Telegram → Type 0 where
  -- "Ack, 1 byte: 1 0 RS 1 number; RS 1 is ready"
  ack : (ready : Bool) (n : ℕ) → n < 16 → Fillable (((if ready then 0xB0 else 0x90) + n) ∷ []) (Ack ready n)
  -- "One byte each: A3 test, A4 break, A8 disconnect"
  test : Fillable (0xA3 ∷ []) Test
  break : Fillable (0xA4 ∷ []) Break
  disconnect : Fillable (0xA8 ∷ []) Disconnect
  -- "Six bytes: .. A1"; "T2 and T4 are read as anything"
  accept : (p : Parameters) (t2 t4 : ℕ) → Fillable (0xA1 ∷ p.block ∷ p.t1 ∷ t2 ∷ p.t3 ∷ t4 ∷ []) (Accept p)

-- "at their own length or at exactly 8 bytes", "any content" filling them up, "and says which" (02, 4)
pub data Filled (s own : List ℕ) : (padded : Bool) → Type 0 where
  bare : s ≡ own → Filled s own false
  filled : (content : List ℕ) → s ≡ own ++ content → length s ≡ 8 → Filled s own true

-- the bytes of each kind, padded or not
pub data Form (s : List ℕ) : Telegram → (padded : Bool) → Type 0 where
  -- "Data, 2 to 8 bytes: first byte 00, AR, EOM, number (4 bits)"
  as-data : (asks last : Bool) (n : ℕ) (p : List ℕ) → n < 16 → 1 ≤ length p → length p ≤ 7 → s ≡ first_byte asks last n ∷ p → Form s (Data asks last n) false
  -- "Acks, tests, breaks, disconnects and A1"
  as-fillable : (own : List ℕ) (t : Telegram) (padded : Bool) → Fillable own t → Filled s own padded → Form s t padded
  -- "Six bytes: A0", and no padded form
  as-setup : (p : Parameters) (t2 t4 : ℕ) → s ≡ 0xA0 ∷ p.block ∷ p.t1 ∷ t2 ∷ p.t3 ∷ t4 ∷ [] → Form s (Setup p) false

-- the bytes s have the form that t says: that of its kind, padded or not
abbrev pub Formed : List ℕ → Sorted → Type 0
Formed s t = Form s t.kind t.padded

-- what has none of these forms
abbrev pub malformed : Sorted
malformed = record { kind = Malformed; padded = false }

-- the two length bytes of a first frame, behind its first byte: four flags above twelve bits of length (02, 1)
pub record Declares (s : List ℕ) (m : Message) : Type 0 where
  pub flags : m.flags < 16
  pub length : m.length < 4096
  pub bytes : take 2 (drop 1 s) ≡ (16 * m.flags + m.length / 256) ∷ m.length % 256 ∷ []

-- the bytes that each writer puts on the bus
pub record Writes : Type 0 where
  -- "1 0 RS 1 number; RS 1 is ready"
  pub ready : (n : ℕ) → n < 16 → bytes_of (ack_of true n) ≡ (0xB0 + n) ∷ []
  pub not_ready : (n : ℕ) → n < 16 → bytes_of (ack_of false n) ≡ (0x90 + n) ∷ []
  -- "A3 test", "A8 disconnect"
  pub test : bytes_of test_of ≡ 0xA3 ∷ []
  pub disconnect : bytes_of disconnect_of ≡ 0xA8 ∷ []
  -- "A0, block size, T1, FF, T3, FF", and "A1 with the same fields"
  pub setup : (p : Parameters) → bytes_of (setup_of p) ≡ 0xA0 ∷ p.block ∷ p.t1 ∷ 0xFF ∷ p.t3 ∷ 0xFF ∷ []
  pub accept : (p : Parameters) → bytes_of (accept_of p) ≡ 0xA1 ∷ p.block ∷ p.t1 ∷ 0xFF ∷ p.t3 ∷ 0xFF ∷ []

-- frame j (from 0) of the k frames of a message
pub record FrameInBytes (m : List ℕ) (block first k j : ℕ) (f : List ℕ) : Type 0 where
  pub asks : Bool
  pub last : Bool
  -- "Two length bytes, high first, then the message, cut in sevens"; "Frame number counts on modulo 16"
  pub bytes : f ≡ first_byte asks last ((first + j) % 16) ∷ take 7 (drop (7 * j) (length m / 256 ∷ length m % 256 ∷ m))
  -- "EOM on the last"
  pub ends : last ≡ true ↔ j + 1 ≡ k
  -- "AR on every frame whose place in the message (from 1) is a multiple of the block size, and on the last"
  pub asked : asks ≡ true ↔ ((q : ℕ) × (j + 1 ≡ q * block)) ⊎ (j + 1 ≡ k)

-- a message, cut
pub record CutInBytes (m : List ℕ) (block first : ℕ) : Type 0 where
  -- "the last frame may be shorter": as many frames as it takes, and no more
  pub enough : length m + 2 ≤ 7 * length (cutting m block first)
  pub needed : 7 * length (cutting m block first) < length m + 2 + 7
  pub frames : (j : ℕ) → j < length (cutting m block first) → FrameInBytes m block first (length (cutting m block first)) j (get_or (cutting m block first) j [])
