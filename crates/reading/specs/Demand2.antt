-- Demand 2: telegrams and opening frames in bytes, both ways; the cutting; and a message sent and read back.
use Rattle.std.specs.Prelude.{ℕ, ◌+◌, ◌*◌, ◌%◌, ◌≤◌, ◌<◌, Bool, true, false, ◌↔◌, ◌≡◌, List, [], ◌∷◌, ◌++◌, length, take, set, get_or}
use Rattle.telegram.specs.Outgoing.{bytes_of}
use Rattle.telegram.specs.Kinds.{sorted, ack_of, test_of, disconnect_of, setup_of, accept_of}
use Rattle.telegram.specs.Cutting.{declared_of, cutting}
use Rattle.telegram.specs.Published.{Published}
use Rattle.telegram.specs.Forms.{Bytes, Taken, first_byte, Fillable, Filled, Formed, malformed, Declares, Writes, CutInBytes}
use Rattle.telegram.specs.declared.cutting.Message.{Message}
use Rattle.telegram.specs.declared.kinds.Parameters.{Parameters}
use Rattle.telegram.specs.declared.kinds.Sorted.{Sorted}
use Rattle.telegram.specs.declared.kinds.Telegram.{Telegram}
use Rattle.telegram.specs.declared.kinds.Telegram.TheVariants.{Data, Ack, Test, Break, Disconnect, Setup, Accept}
use Rattle.opening.specs.Opening.{request_of, reply_of, request_read, reply_read, Request, Reply, Open, NoRequest, Positive, Refused, NoReply}
use Rattle.opening.specs.Forms.{RequestForm, ReplyForm, OpeningWrites}
use Rattle.sender.specs.declared.Terms.{Terms}
use Rattle.sender.specs.declared.Sender.{Sender}
use Rattle.sender.specs.declared.Hearing.TheVariants.{Done}
use Rattle.sender.specs.Writing.{Written, written}
use Rattle.receiver.specs.Receiving.{took, shown, Shown}
use Rattle.reading.specs.Reading.{Reading, Idle, Read, reads}

-- a message of 1 to limit bytes
pub record Sendable (limit : ℕ) (m : List ℕ) : Type 0 where
  pub some : 0 < length m
  pub within : length m ≤ limit

-- a sender that is free to begin, at a block size of 1 to 15
pub record Ready (t : Terms) (s : Sender) : Type 0 where
  pub length : s.length ≡ 0
  pub hold : s.hold ≡ 0
  pub gap : s.gap ≡ 0
  pub number : s.oldest < 16
  pub some : 1 ≤ t.block
  pub few : t.block ≤ 15

-- a message went out as its cutting and was then done; the sender is at rest again, and its number has counted on by the frames
pub record Sent (t : Terms) (s : Sender) (m : List ℕ) (w : Written) : Type 0 where
  pub frames : w.frames ≡ cutting m t.block s.oldest
  pub note : w.note ≡ Done
  pub sender : w.sender ≡ record { length = 0; acked = 0; high = 0; next = 0; oldest = (s.oldest + length w.frames) % 16; count = 0; wait = 0; hold = 0; gap = 0 }

-- a receiver with nothing begun and none waiting, and room for the message
pub record Free (m : List ℕ) (number : ℕ) (h : Reading) : Type 0 where
  pub idle : Idle number h.receiver
  pub small : number < 16
  pub roomy : length m ≤ length h.buffer

-- a first frame with flags put into the high nibble of its length bytes
abbrev pub flagged_frame : (flags : ℕ) → List ℕ → List ℕ
flagged_frame flags [] = []
flagged_frame flags (head ∷ []) = head ∷ []
flagged_frame flags (head ∷ high ∷ s) = head ∷ (16 * flags + high) ∷ s

-- the frames of a message as a control unit sends it with flags (02, 1): they stand "on the unit's first frame"
abbrev pub flagged : (flags : ℕ) → List (List ℕ) → List (List ℕ)
flagged flags [] = []
flagged flags (s ∷ rest) = flagged_frame flags s ∷ rest

pub record Demand2 (limit : ℕ) : Type 0 where
  -- a telegram is of a kind, padded or not, exactly if it has the bytes of that kind: data by its first byte and length, a control telegram by its own bytes, alone or filled up to 8 (02, 4); all else is badly formed
  pub sorts : (s : List ℕ) (t : Sorted) → sorted s ≡ t ↔ Taken (Formed s) malformed t
  -- so it is with the C0 request
  pub requests : (s : List ℕ) → Bytes s → (q : Request) → request_read s ≡ q ↔ Taken (RequestForm s) NoRequest q
  -- and with its replies, read by the end that asked
  pub replies : (receive : ℕ) (s : List ℕ) → Bytes s → (q : Reply) → reply_read s receive ≡ q ↔ Taken (ReplyForm receive s) NoReply q
  -- the two length bytes of a first frame are those of the flags and the length that they are read as, and of no others (02, 1)
  pub declares : (s : List ℕ) → Bytes s → 3 ≤ length s → (m : Message) → declared_of (get_or s 1 0) (get_or s 2 0) ≡ m ↔ Declares s m
  -- the bytes of each telegram that is written
  pub writes : Writes
  -- the bytes of C0, D0 and D6 to D8
  pub opens : OpeningWrites
  -- "reading has two forms for these kinds" (02, 4): at its own length, and with any content that fills it up to 8 bytes
  pub two_forms :
      (own content : List ℕ) (t : Telegram) → Fillable own t → length (own ++ content) ≡ 8 →
      (sorted own ≡ record { kind = t; padded = false }) × (sorted (own ++ content) ≡ record { kind = t; padded = true })
  -- "and writing has one, unpadded" (02, 4); what is written reads back as it was: an Ack
  pub ack_back : (ready : Bool) (n : ℕ) → n < 16 → sorted (bytes_of (ack_of ready n)) ≡ record { kind = Ack ready n; padded = false }
  -- a test
  pub test_back : sorted (bytes_of test_of) ≡ record { kind = Test; padded = false }
  -- a disconnect
  pub disconnect_back : sorted (bytes_of disconnect_of) ≡ record { kind = Disconnect; padded = false }
  -- an A0
  pub setup_back : (p : Parameters) → sorted (bytes_of (setup_of p)) ≡ record { kind = Setup p; padded = false }
  -- an A1
  pub accept_back : (p : Parameters) → sorted (bytes_of (accept_of p)) ≡ record { kind = Accept p; padded = false }
  -- a C0
  pub request_back : (unit receive : ℕ) → receive < 0x800 → request_read (bytes_of (request_of unit receive)) ≡ Open unit receive
  -- a D0
  pub positive_back : (receive transmit : ℕ) → receive < 0x800 → transmit < 0x800 → reply_read (bytes_of (reply_of 0xD0 receive transmit)) receive ≡ Positive transmit
  -- a D6, D7 or D8, whatever IDs stand in it
  pub refused_back : (opcode receive transmit own : ℕ) → 0xD6 ≤ opcode → opcode ≤ 0xD8 → reply_read (bytes_of (reply_of opcode receive transmit)) own ≡ Refused opcode
  -- what a reader takes is what a writer writes, up to the content that fills it, and the mark says whether any does: an Ack
  pub ack_only :
      (s : List ℕ) (ready : Bool) (n : ℕ) (padded : Bool) → sorted s ≡ record { kind = Ack ready n; padded = padded } →
      (n < 16) × Filled s (bytes_of (ack_of ready n)) padded
  -- a test
  pub test_only : (s : List ℕ) (padded : Bool) → sorted s ≡ record { kind = Test; padded = padded } → Filled s (bytes_of test_of) padded
  -- a break, which is never written
  pub break_only : (s : List ℕ) (padded : Bool) → sorted s ≡ record { kind = Break; padded = padded } → Filled s (0xA4 ∷ []) padded
  -- a disconnect
  pub disconnect_only : (s : List ℕ) (padded : Bool) → sorted s ≡ record { kind = Disconnect; padded = padded } → Filled s (bytes_of disconnect_of) padded
  -- an A0, once its T2 and T4 are FF; it is never padded
  pub setup_only :
      (s : List ℕ) (p : Parameters) (padded : Bool) → sorted s ≡ record { kind = Setup p; padded = padded } →
      (padded ≡ false) × (set (set s 3 0xFF) 5 0xFF ≡ bytes_of (setup_of p))
  -- an A1, once its T2 and T4 are FF
  pub accept_only :
      (s : List ℕ) (p : Parameters) (padded : Bool) → sorted s ≡ record { kind = Accept p; padded = padded } →
      Filled (set (set s 3 0xFF) 5 0xFF) (bytes_of (accept_of p)) padded
  -- of data its first byte; it is never padded
  pub data_only :
      (s : List ℕ) (asks last : Bool) (n : ℕ) (padded : Bool) → sorted s ≡ record { kind = Data asks last n; padded = padded } →
      (padded ≡ false) × (n < 16) × (take 1 s ≡ first_byte asks last n ∷ [])
  -- a C0
  pub request_only : (s : List ℕ) → Bytes s → (unit receive : ℕ) → request_read s ≡ Open unit receive → (receive < 0x800) × (s ≡ bytes_of (request_of unit receive))
  -- a D0 with our own receive ID
  pub positive_only : (s : List ℕ) → Bytes s → (receive transmit : ℕ) → reply_read s receive ≡ Positive transmit → (transmit < 0x800) × (s ≡ bytes_of (reply_of 0xD0 receive transmit))
  -- a D6, D7 or D8, as far as length, byte 0 and opcode
  pub refused_only :
      (s : List ℕ) → Bytes s → (receive opcode transmit : ℕ) → reply_read s receive ≡ Refused opcode →
      (length s ≡ length (bytes_of (reply_of opcode receive transmit))) × (take 2 s ≡ take 2 (bytes_of (reply_of opcode receive transmit)))
  -- a message is cut as published
  pub published : (m : List ℕ) (block first : ℕ) → Sendable limit m → Published m block first
  -- its frames, byte for byte
  pub cut : (m : List ℕ) (block first : ℕ) → Sendable limit m → CutInBytes m block first
  -- a message sent is handed over as its cutting
  pub sent : (t : Terms) (s : Sender) (m : List ℕ) → Sendable limit m → Ready t s → Sent t s m (written limit t s m)
  -- the cutting, read back by any receiver that is free for it, is the message, with flags 0
  pub read_back : (m : List ℕ) (block number : ℕ) (h : Reading) → Sendable limit m → Free m number h → Read m 0 number h.buffer (reads limit h (cutting m block number))
  -- with flags in its first frame it is the message with these flags (02, 1)
  pub flagged_back :
      (m : List ℕ) (flags block number : ℕ) (h : Reading) → flags < 16 → Sendable limit m → Free m number h →
      Read m flags number h.buffer (reads limit h (flagged flags (cutting m block number)))
  -- so what a message's sending puts out shows the message, byte for byte, where it is read, and a take reports flags 0 with it
  pub arrives :
      (t : Terms) (s : Sender) (m : List ℕ) (h : Reading) → Sendable limit m → Ready t s → Free m s.oldest h →
      (let r = reads limit h (written limit t s m).frames in
      (shown r.receiver r.buffer ≡ m) × ((took r.receiver (length r.buffer)).message ≡ Shown (record { length = length m; flags = 0 })))

-- for every limit that twelve bits can tell, 1,024 among them
abbrev pub Demand2Holds : Type 0
Demand2Holds = (limit : ℕ) → limit ≤ 4095 → Demand2 limit
