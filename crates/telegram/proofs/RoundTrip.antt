-- Reading what is written gives it back, for every kind and every value of its fields; and how long it is.
use Prim.Native.Nat.{ℕ, suc, ◌+◌, ◌-◌, ◌*◌, min, ◌/◌, ◌%◌, ◌≤◌, ◌<◌}
use native.Mathlib.Nat.{mod-eq_of_lt, div-eq_of_lt}
use native.Mathlib.Omega.{arith}
use mathlib.Core.Bool.{Bool, true, false}
use mathlib.Core.List.{List, [], ◌∷◌}
use mathlib.Core.Path.{◌≡◌, refl, ap, ◌∙◌}
use lib.Dec.{eqb}
use lib.ListN.{length, take, drop, get_or, replicate, length-take, length-drop}
use lib.Seq.{take-take, take-append_seam}
use borrow.Author.Tests.{le-leb}
use Rattle.telegram.specs.Outgoing.{payload_of, bytes_of}
use Rattle.telegram.specs.Kinds.{own_or_filled, kind_of, sorted, ack_of, test_of, disconnect_of, setup_of, accept_of}
use Rattle.telegram.specs.Cutting.{declared_of, stream_of, frames_of, header_of, last_at, asks_at, frame_at}
use Rattle.telegram.specs.declared.cutting.Message.{Message}
use Rattle.telegram.specs.declared.kinds.Parameters.{Parameters}
use Rattle.telegram.specs.declared.kinds.Telegram.TheVariants.{Data, Ack, Test, Disconnect, Setup, Accept}

-- written

-- at most eight bytes reach the bus as they were written
pub payload-back : (s : List ℕ) → length s ≤ 8 → bytes_of (payload_of s) ≡ s
payload-back s h = take-take (length s) 8 _ h ∙ take-append_seam s (replicate 8 0)

-- the kinds

-- the bits of a byte b with the upper half q and the lower half r
record Halves (q r b : ℕ) : Type 0 where
  bits7-6 : b / 64 ≡ q / 4
  bits7-5 : b / 32 ≡ q / 2
  bits7-4 : b / 16 ≡ q
  bits3-0 : b % 16 ≡ r

halves : (q r : ℕ) → r < 16 → Halves q r (16 * q + r)
halves q r h = omega arith

-- a first byte with the upper half 1 0 RS 1 makes an Ack, by itself or filled up
pub upper-ack : (q r : ℕ) (p : List ℕ) → q / 4 ≡ 2 → q % 2 ≡ 1 → r < 16 → own_or_filled 1 ((16 * q + r) ∷ p) ≡ true
    → sorted ((16 * q + r) ∷ p) ≡ record { kind = Ack (eqb (q / 2 % 2) 1) r; padded = eqb (suc (length p)) 8 }
unfolding kind_of
upper-ack q r p f g h l =
    let b = halves q r h in
    rw (b.bits7-6 ∙ f, l, b.bits7-4, g, b.bits7-5, b.bits3-0)

-- an Ack is sorted as an Ack that says the same, ready or not, and the same number
pub ack-sorted : (ready : Bool) (n : ℕ) → n < 16 → sorted (bytes_of (ack_of ready n)) ≡ record { kind = Ack ready n; padded = false }
ack-sorted true n h = rw (mod-eq_of_lt h) (upper-ack 11 n [] refl refl h refl)
ack-sorted false n h = rw (mod-eq_of_lt h) (upper-ack 9 n [] refl refl h refl)

-- a test is sorted as a test
pub test-sorted : sorted (bytes_of test_of) ≡ record { kind = Test; padded = false }
unfolding kind_of
test-sorted = refl

-- a disconnect is sorted as a disconnect
pub disconnect-sorted : sorted (bytes_of disconnect_of) ≡ record { kind = Disconnect; padded = false }
unfolding kind_of
disconnect-sorted = refl

-- an A0 is sorted as an A0 with the same fields, whatever they are
pub setup-sorted : (p : Parameters) → sorted (bytes_of (setup_of p)) ≡ record { kind = Setup p; padded = false }
unfolding kind_of
setup-sorted p = refl

-- an A1 is sorted as an A1 with the same fields, whatever they are
pub accept-sorted : (p : Parameters) → sorted (bytes_of (accept_of p)) ≡ record { kind = Accept p; padded = false }
unfolding kind_of
accept-sorted p = refl

-- Ack, test and disconnect have one byte
pub single-length : (ready : Bool) (n : ℕ) → (length (bytes_of (ack_of ready n)) ≡ 1) × (length (bytes_of test_of) ≡ 1) × (length (bytes_of disconnect_of) ≡ 1)
single-length ready n = (refl, refl, refl)

-- A0 and A1 have six bytes
pub parameters-length : (p : Parameters) → (length (bytes_of (setup_of p)) ≡ 6) × (length (bytes_of (accept_of p)) ≡ 6)
parameters-length p = (refl, refl)

-- data

-- a first byte with the upper half 00 AR EOM, before one to seven others, makes data
pub upper-data : (q r : ℕ) (p : List ℕ) → q < 4 → r < 16 → 1 ≤ length p → length p ≤ 7
    → sorted ((16 * q + r) ∷ p) ≡ record { kind = Data (eqb (q / 2 % 2) 0) (eqb (q % 2) 1) r; padded = false }
unfolding kind_of
upper-data q r p f g h k =
    let b = halves q r g in
    rw (b.bits7-6 ∙ div-eq_of_lt f, le-leb 2 (suc (length p)) (omega arith), le-leb (suc (length p)) 8 (omega arith), b.bits7-5, b.bits7-4, b.bits3-0)

-- a first byte before one to seven others is sorted as data that says the same
pub header-sorted : (asks last : Bool) (n : ℕ) (p : List ℕ) → 1 ≤ length p → length p ≤ 7
    → sorted (header_of asks last n ∷ p) ≡ record { kind = Data asks last (n % 16); padded = false }
unfolding header_of
header-sorted true true n p = upper-data 1 (n % 16) p (omega arith) (omega arith)
header-sorted true false n p = upper-data 0 (n % 16) p (omega arith) (omega arith)
header-sorted false true n p = upper-data 3 (n % 16) p (omega arith) (omega arith)
header-sorted false false n p = upper-data 2 (n % 16) p (omega arith) (omega arith)

module _ (m : List ℕ) (block first k : ℕ) where
  -- a frame reaches the bus as its first byte and its seven of the stream
  pub frame_back : bytes_of (frame_at m block first k) ≡ header_of (asks_at block (length m) k) (last_at (length m) k) (first + k) ∷ take 7 (drop (7 * k) (stream_of m))
  unfolding frame_at
  frame_back = payload-back _ (simp length-take (omega arith))

  -- behind its first byte stand its seven of the stream
  pub frame-carries : drop 1 (bytes_of (frame_at m block first k)) ≡ take 7 (drop (7 * k) (stream_of m))
  frame-carries = ap (drop 1) frame_back

  -- a frame has its first byte and at most seven of what is left of the stream
  pub frame-length : length (bytes_of (frame_at m block first k)) ≡ 1 + min 7 (length m + 2 - 7 * k)
  unfolding stream_of
  frame-length = rw frame_back (simp (length-take, length-drop) (omega arith))

  -- every frame but the last has eight bytes
  pub frame-full : k + 1 < frames_of (length m) → length (bytes_of (frame_at m block first k)) ≡ 8
  unfolding frames_of
  frame-full h = rw frame-length (omega arith)

  -- every frame has two to eight bytes
  pub frame-size : k < frames_of (length m) → (2 ≤ length (bytes_of (frame_at m block first k))) × (length (bytes_of (frame_at m block first k)) ≤ 8)
  unfolding frames_of
  frame-size h = rw frame-length (omega arith)

  -- every frame is sorted as data that asks and ends as its place says, with the number that its place says
  pub frame-sorted : k < frames_of (length m)
      → sorted (bytes_of (frame_at m block first k)) ≡ record { kind = Data (asks_at block (length m) k) (last_at (length m) k) ((first + k) % 16); padded = false }
  frame-sorted h =
      let b = rw frame_back at (frame-size h) in
      rw frame_back (header-sorted _ _ (first + k) _ (omega arith) (omega arith))

-- a message is its length and its flags
message-is : (m : Message) {n f : ℕ} → n ≡ m.length → f ≡ m.flags → record { length = n; flags = f } ≡ m
message-is m e f = rw (e, f)

-- the length bytes of flags and a length that they can tell declare these
pub declares-back : (flags n : ℕ) → flags < 16 → n < 4096 → (high : ℕ) → high ≡ 16 * flags + n / 256 → declared_of high (n % 256) ≡ record { length = n; flags = flags }
declares-back flags n four twelve high e = message-is (record { length = n; flags = flags }) (omega arith) (omega arith)

-- the first two bytes of the stream declare the length of any message that twelve bits can tell, and no flags
pub stream-declares : (m : List ℕ) → length m < 4096 → declared_of (get_or (stream_of m) 0 0) (get_or (stream_of m) 1 0) ≡ record { length = length m; flags = 0 }
unfolding stream_of
stream-declares m h = declares-back 0 (length m) (omega arith) h _ (omega arith)

-- behind them stands the message
pub stream-carries : (m : List ℕ) → drop 2 (stream_of m) ≡ m
unfolding stream_of
stream-carries m = refl
