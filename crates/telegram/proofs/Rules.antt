-- The rules of 01 in numbers and bytes: what the writers put on the bus, the cutting, the limits, the time codes.
use Rattle.std.specs.Prelude.{if◌then◌else◌}
use Prim.Native.Nat.{ℕ, ◌+◌, ◌-◌, ◌*◌, ◌/◌, ◌%◌, ◌^◌, ◌≤◌, ◌<◌}
use native.Mathlib.Nat.{mod-eq_of_lt, div-add-mod', mul-mod_left, add-zero}
use native.Mathlib.Omega.{arith}
use mathlib.Core.Bool.{Bool, true, false, ◌||◌, false≢true}
use mathlib.Core.List.{List, [], ◌∷◌, ◌++◌, map}
use mathlib.Core.Logic.{◌↔◌, ◌⊎◌, inl, inr}
use mathlib.Core.Path.{◌≡◌, refl, sym, ap, subst, ◌∙◌}
use lib.Dec.{ltb, eqb}
use lib.ListN.{length, take, drop, get_or, replicate}
use borrow.Author.Tests.{eqb-true, eq-eqb, ltb-false, le-ltb, ne_eqb, eqb-false}
use Rattle.laws.proofs.Cases.{or-first, or-second}
use Rattle.telegram.specs.Time.{tenths_of}
use Rattle.telegram.specs.Outgoing.{payload_of, bytes_of}
use Rattle.telegram.specs.Kinds.{bad_block}
use Rattle.telegram.specs.Cutting.{longest, declared_of, stream_of, frames_of, header_of, last_at, asks_at, frame_at, sevens, headed, cutting}
use Rattle.telegram.specs.Forms.{Bytes, Declares, Writes, FrameInBytes, CutInBytes}
use Rattle.telegram.specs.declared.cutting.Message.{Message}
use Rattle.telegram.proofs.RoundTrip.{declares-back, frame_back}
use Rattle.telegram.proofs.Cut.{cutting-at, cutting-length}

-- payloads

-- a payload is eight bytes: those that are written, and zeros behind them
pub payload-bytes : (s : List ℕ) → length s ≤ 8 → (payload_of s).bytes ≡ s ++ replicate (8 - length s) 0
payload-bytes [] l = refl
payload-bytes (a ∷ []) l = refl
payload-bytes (a ∷ b ∷ []) l = refl
payload-bytes (a ∷ b ∷ c ∷ []) l = refl
payload-bytes (a ∷ b ∷ c ∷ d ∷ []) l = refl
payload-bytes (a ∷ b ∷ c ∷ d ∷ e ∷ []) l = refl
payload-bytes (a ∷ b ∷ c ∷ d ∷ e ∷ f ∷ []) l = refl
payload-bytes (a ∷ b ∷ c ∷ d ∷ e ∷ f ∷ g ∷ []) l = refl
payload-bytes (a ∷ b ∷ c ∷ d ∷ e ∷ f ∷ g ∷ h ∷ []) l = refl
payload-bytes (a ∷ b ∷ c ∷ d ∷ e ∷ f ∷ g ∷ h ∷ i ∷ s) l = absurd (omega arith)

-- its length is that of those written
pub payload-length : (s : List ℕ) → (payload_of s).len ≡ length s
payload-length s = refl

-- "A0, block size, T1, FF, T3, FF", "A1 with the same fields", "1 0 RS 1 number", "A3 test", "A8 disconnect": the bytes of each
pub writes : Writes
writes =
    record {
      ready = λ n h. rw (mod-eq_of_lt h);
      not_ready = λ n h. rw (mod-eq_of_lt h);
      test = refl;
      disconnect = refl;
      setup = λ p. refl;
      accept = λ p. refl;
    }

-- limits

-- "messages of 1 to 1,024 bytes"
pub longest-message : longest ≡ 1024
longest-message = refl

-- "A1 block size 0 or over 15": 1 to 15 pass and no other
pub block-passes : (b : ℕ) → bad_block b ≡ false ↔ (1 ≤ b) × (b ≤ 15)
unfolding bad_block
block-passes b = (passes, taken)
  where
    passes : bad_block b ≡ false → (1 ≤ b) × (b ≤ 15)
    passes e = let f = eqb-false b 0 (or-first (eqb b 0) (ltb 15 b) e) in let g = ltb-false 15 b (or-second (eqb b 0) (ltb 15 b) e) in omega arith

    taken : (1 ≤ b) × (b ≤ 15) → bad_block b ≡ false
    taken h = rw (ne_eqb b 0 (omega arith), le-ltb 15 b (omega arith))

-- time codes

-- "Bits 7-6: unit 1, 10, 100 or 1,000 tenths. Bits 5-0: multiplier"
pub record Codes (m : ℕ) : Type 0 where
  pub ones : tenths_of m ≡ m
  pub tens : tenths_of (64 + m) ≡ 10 * m
  pub hundreds : tenths_of (128 + m) ≡ 100 * m
  pub thousands : tenths_of (192 + m) ≡ 1000 * m

pub codes : (m : ℕ) → m < 64 → Codes m
unfolding tenths_of
codes m h =
    record {
      ones = code 0 m (omega arith) ∙ omega arith;
      tens = code 1 (64 + m) (omega arith) ∙ omega arith;
      hundreds = code 2 (128 + m) (omega arith) ∙ omega arith;
      thousands = code 3 (192 + m) (omega arith) ∙ omega arith;
    }
  where
    code : (u c : ℕ) → c ≡ 64 * u + m → tenths_of c ≡ m * 10 ^ u
    code u c e = let f : c % 64 ≡ m = omega arith in let g : c / 64 ≡ u = omega arith in rw (f, g)

-- "0x8A is 1,000 tenths, 0x32 is 50, 0x4A is 100, 0x43 is 30, 0x83 is 300, 0xFF is 63,000, 0x00 is 0"
pub seven-codes : map tenths_of (0x8A ∷ 0x32 ∷ 0x4A ∷ 0x43 ∷ 0x83 ∷ 0xFF ∷ 0x00 ∷ []) ≡ 1000 ∷ 50 ∷ 100 ∷ 30 ∷ 300 ∷ 63000 ∷ 0 ∷ []
unfolding tenths_of
seven-codes = refl

-- cutting

-- "high first", "the low 12 bits as length": the two length bytes of every length that they can tell
pub declared-length : (n : ℕ) → n < 4096 → (declared_of (n / 256) (n % 256)).length ≡ n
declared-length n h = omega arith

-- 04 01 declare 1,025, 10 05 flags 1 and length 5, 80 03 flags 8 and length 3, 80 00 no length, 84 01 again 1,025, FF FF the most that there is
pub declared-worked : declared_of 0x04 0x01 ∷ declared_of 0x10 0x05 ∷ declared_of 0x80 0x03 ∷ declared_of 0x80 0x00 ∷ declared_of 0x84 0x01 ∷ declared_of 0xFF 0xFF ∷ []
    ≡ record { length = 1025; flags = 0 } ∷ record { length = 5; flags = 1 } ∷ record { length = 3; flags = 8 } ∷ record { length = 0; flags = 8 }
    ∷ record { length = 1025; flags = 8 } ∷ record { length = 4095; flags = 15 } ∷ []
declared-worked = refl

-- the two bytes behind the first one
two-behind : (s : List ℕ) → 3 ≤ length s → take 2 (drop 1 s) ≡ get_or s 1 0 ∷ get_or s 2 0 ∷ []
two-behind [] h = absurd (omega arith)
two-behind (a ∷ []) h = absurd (omega arith)
two-behind (a ∷ b ∷ []) h = absurd (omega arith)
two-behind (a ∷ b ∷ c ∷ s) h = refl

two-alike : {a b c d : ℕ} → a ≡ c → b ≡ d → a ∷ b ∷ [] ≡ c ∷ d ∷ []
two-alike e f = rw (e, f)

-- the length bytes of a first frame are those of its flags and its length, and of no other flags below 16 and length below 4,096
pub declares-only : (s : List ℕ) → Bytes s → 3 ≤ length s → (m : Message) → declared_of (get_or s 1 0) (get_or s 2 0) ≡ m ↔ Declares s m
declares-only s small three m = (λ e. subst (Declares s) e there, back)
  where
    there : Declares s (declared_of (get_or s 1 0) (get_or s 2 0))
    there =
        let h = small 1 in
        let l = small 2 in
        record { flags = omega arith; length = omega arith; bytes = two-behind s three ∙ two-alike (omega arith) (omega arith) }

    back : Declares s m → declared_of (get_or s 1 0) (get_or s 2 0) ≡ m
    back d =
        let b = sym (two-behind s three) ∙ d.bytes in
        let h : get_or s 1 0 ≡ 16 * m.flags + m.length / 256 = ap (λ (x : List ℕ). get_or x 0 0) b in
        let l : get_or s 2 0 ≡ m.length % 256 = ap (λ (x : List ℕ). get_or x 1 0) b in
        rw l (declares-back m.flags m.length d.flags d.length (get_or s 1 0) h)

-- "the writer still sends flags 0": the high nibble of a first frame's length bytes is 0, whatever message is lent
pub flags-unsent : (m : List ℕ) (block first : ℕ) → get_or (bytes_of (frame_at m block first 0)) 1 0 < 16
unfolding stream_of
flags-unsent m block first = rw (frame_back m block first 0) (omega arith)

-- "cut in sevens; the last frame may be shorter": as many frames as the two length bytes and n more take, and no more
pub frames-enough : (n : ℕ) → (n + 2 ≤ 7 * frames_of n) × (7 * frames_of n < n + 2 + 7)
unfolding frames_of
frames-enough n = omega arith

-- "5 bytes make one frame, 6 two, 26 four, 1,024 make 147"
pub frames-counted : map frames_of (5 ∷ 6 ∷ 26 ∷ 1024 ∷ []) ≡ 1 ∷ 2 ∷ 4 ∷ 147 ∷ []
unfolding frames_of
frames-counted = refl

-- "EOM on the last": the frame that brings the rest
pub last-exactly : (n j : ℕ) → last_at n j ≡ true ↔ (7 * j < n + 2) × (n + 2 ≤ 7 * j + 7)
unfolding frames_of
last-exactly n j = (λ e. let f = eqb-true (j + 1) (frames_of n) e in omega arith, λ h. eq-eqb (j + 1) (frames_of n) (omega arith))

-- a place is a multiple of the block size exactly if that divides it
multiple : (n d : ℕ) → n % d ≡ 0 ↔ (q : ℕ) × (n ≡ q * d)
multiple n d = (λ e. (n / d, sym (div-add-mod' n d) ∙ rw (e, add-zero)), λ h. rw h.1 (mul-mod_left h.0 d))

-- what a test joined by "or" says
either_way : (s t : Bool) → (s || t) ≡ true ↔ (s ≡ true) ⊎ (t ≡ true)
either_way true t = (λ e. inl refl, λ h. refl)
either_way false t = (λ e. inr e, elim [ inl e ↦ absurd (false≢true e) | inr e ↦ e ])

-- AR stands on the multiples of the block size, and where EOM does
asks-where : (block n j : ℕ) {Last : Type 0} → last_at n j ≡ true ↔ Last → asks_at block n j ≡ true ↔ ((q : ℕ) × (j + 1 ≡ q * block)) ⊎ Last
asks-where block n j {Last} l = (λ e. told (joined.0 e), λ h. joined.1 (made h))
  where
    joined : (eqb ((j + 1) % block) 0 || last_at n j) ≡ true ↔ (eqb ((j + 1) % block) 0 ≡ true) ⊎ (last_at n j ≡ true)
    joined = either_way (eqb ((j + 1) % block) 0) (last_at n j)

    told : (eqb ((j + 1) % block) 0 ≡ true) ⊎ (last_at n j ≡ true) → ((q : ℕ) × (j + 1 ≡ q * block)) ⊎ Last
    told (inl e) = inl ((multiple (j + 1) block).0 (eqb-true ((j + 1) % block) 0 e))
    told (inr e) = inr (l.0 e)

    made : ((q : ℕ) × (j + 1 ≡ q * block)) ⊎ Last → (eqb ((j + 1) % block) 0 ≡ true) ⊎ (last_at n j ≡ true)
    made (inl h) = inl (eq-eqb ((j + 1) % block) 0 ((multiple (j + 1) block).1 h))
    made (inr e) = inr (l.1 e)

-- "AR on every frame whose place in the message (from 1) is a multiple of the block size, and on the last"
pub asks-exactly : (block n j : ℕ) → asks_at block n j ≡ true ↔ ((q : ℕ) × (j + 1 ≡ q * block)) ⊎ ((7 * j < n + 2) × (n + 2 ≤ 7 * j + 7))
asks-exactly block n j = asks-where block n j (last-exactly n j)

-- a frame reaches the bus as its first byte and its seven of the length bytes and the message, at every place, asked for again or not
pub frame-bytes : (m : List ℕ) (block first j : ℕ) → length m < 4096 → FrameInBytes m block first (frames_of (length m)) j (bytes_of (frame_at m block first j))
unfolding stream_of header_of
frame-bytes m block first j h =
    let e : length m / 256 % 16 ≡ length m / 256 = mod-eq_of_lt (omega arith) in
    let last : last_at (length m) j ≡ true ↔ j + 1 ≡ frames_of (length m) = (eqb-true (j + 1) (frames_of (length m)), eq-eqb (j + 1) (frames_of (length m))) in
    record {
      asks = asks_at block (length m) j;
      last = last_at (length m) j;
      bytes = frame_back m block first j ∙ rw e;
      ends = last;
      asked = asks-where block (length m) j last;
    }

-- so a message is cut
pub cut : (m : List ℕ) (block first : ℕ) → length m < 4096 → CutInBytes m block first
cut m block first h =
    let n = cutting-length m block first in
    let b = frames-enough (length m) in
    record {
      enough = omega arith;
      needed = omega arith;
      frames = λ j k. rw (n, cutting-at m block first j (omega arith)) (frame-bytes m block first j h);
    }

-- examples

-- the places, from one on, of the frames whose bit 5 is 0
pub asking : (place : ℕ) → List (List ℕ) → List ℕ
asking place [] = []
asking place (f ∷ fs) = (if eqb (get_or f 0 0 / 32 % 2) 0 then place ∷ [] else []) ++ asking (place + 1) fs

-- a message of 26 bytes in blocks of three, from number 14 on: the third frame has AR, the fourth AR and EOM
pub cut-first-bytes : map (λ f. get_or f 0 0) (cutting (replicate 26 0x55) 3 14) ≡ 0x2E ∷ 0x2F ∷ 0x00 ∷ 0x11 ∷ []
unfolding stream_of header_of sevens headed
cut-first-bytes = refl

-- its first frame: 26 is 00 1A
pub cut-first-frame : get_or (cutting (replicate 26 0x55) 3 14) 0 [] ≡ 0x2E ∷ 0x00 ∷ 0x1A ∷ 0x55 ∷ 0x55 ∷ 0x55 ∷ 0x55 ∷ 0x55 ∷ []
unfolding stream_of header_of sevens headed
cut-first-frame = refl

-- the longest message at block size 15: the places (from 1) with AR
pub longest-asks : asking 1 (cutting (replicate 1024 0x55) 15 0) ≡ 15 ∷ 30 ∷ 45 ∷ 60 ∷ 75 ∷ 90 ∷ 105 ∷ 120 ∷ 135 ∷ 147 ∷ []
unfolding stream_of header_of sevens headed asking
longest-asks = refl
