-- The cutting, byte by byte.
use Prim.Native.Nat.{ℕ, ◌+◌, ◌-◌, ◌*◌, ◌≤◌, min}
use mathlib.Core.Path.{◌≡◌, sym}
use mathlib.Core.Bool.{Bool}
use mathlib.Core.List.{List, [], ◌∷◌}
use native.Mathlib.Nat.{add-zero}
use native.Mathlib.Omega.{arith}
use native.Mathlib.Numerals.{add-two, one-add}
use lib.Dec.{eqb}
use lib.ListN.{length, take, drop, get_or, length-take, length-drop, get_or-eq_default}
use lib.Seq.{get_or-drop}
use Rattle.laws.proofs.Lists.{take-padded}
use Rattle.telegram.specs.Outgoing.{payload_of}
use Rattle.telegram.specs.Cutting.{stream_of, frames_of, header_of, asks_at, frame_at}
use Rattle.telegram.specs.declared.payload.Payload.{Payload}

length-stream : (m : List ℕ) → length (stream_of m) ≡ length m + 2
unfolding stream_of
length-stream m = rw add-two

-- behind the two length bytes stands the message
pub get_or-stream : (m : List ℕ) (n i : ℕ) → n ≡ i + 2 → get_or (stream_of m) n 0 ≡ get_or m i 0
unfolding stream_of
get_or-stream m n i e = rw (e, add-two)

-- and nothing behind it
pub get_or-stream-end : (m : List ℕ) (n : ℕ) → length m + 2 ≤ n → get_or (stream_of m) n 0 ≡ 0
get_or-stream-end m n h = get_or-eq_default (stream_of m) 0 (rw length-stream h)

-- what carries a piece of the message behind a first byte, with each byte read off the stream
headed-bytes : (m : List ℕ) (head k : ℕ) → ◌≡◌ {A = Payload}
    (record {
      len = 1 + min 7 (length m + 2 - 7 * k);
      bytes =
          head
          ∷ get_or (stream_of m) (7 * k + 0) 0
          ∷ get_or (stream_of m) (7 * k + 1) 0
          ∷ get_or (stream_of m) (7 * k + 2) 0
          ∷ get_or (stream_of m) (7 * k + 3) 0
          ∷ get_or (stream_of m) (7 * k + 4) 0
          ∷ get_or (stream_of m) (7 * k + 5) 0
          ∷ get_or (stream_of m) (7 * k + 6) 0 ∷ [];
    })
    (payload_of (head ∷ take 7 (drop (7 * k) (stream_of m))))
headed-bytes m head k = simp (take-padded, get_or-drop, add-zero, length-take, length-drop, length-stream, one-add)

-- the same, of what each part was found to be
pub headed-made : {len a b c d e f g : ℕ} (m : List ℕ) (head k : ℕ)
    → len ≡ 1 + min 7 (length m + 2 - 7 * k)
    → a ≡ get_or (stream_of m) (7 * k + 0) 0
    → b ≡ get_or (stream_of m) (7 * k + 1) 0
    → c ≡ get_or (stream_of m) (7 * k + 2) 0
    → d ≡ get_or (stream_of m) (7 * k + 3) 0
    → e ≡ get_or (stream_of m) (7 * k + 4) 0
    → f ≡ get_or (stream_of m) (7 * k + 5) 0
    → g ≡ get_or (stream_of m) (7 * k + 6) 0
    → ◌≡◌ {A = Payload} (record { len = len; bytes = head ∷ a ∷ b ∷ c ∷ d ∷ e ∷ f ∷ g ∷ [] }) (payload_of (head ∷ take 7 (drop (7 * k) (stream_of m))))
headed-made m head k pl pa pb pc pd pe pf pg = rw (pl, pa, pb, pc, pd, pe, pf, pg) (headed-bytes m head k)

-- inside the message each of the seven bytes is one of the message's
pub headed-inside : (m : List ℕ) (head k b : ℕ) → 7 * k ≡ b + 2 → b + 7 ≤ length m → ◌≡◌ {A = Payload}
    (record {
      len = 8;
      bytes = head ∷ get_or m b 0 ∷ get_or m (b + 1) 0 ∷ get_or m (b + 2) 0 ∷ get_or m (b + 3) 0 ∷ get_or m (b + 4) 0 ∷ get_or m (b + 5) 0 ∷ get_or m (b + 6) 0 ∷ [];
    })
    (payload_of (head ∷ take 7 (drop (7 * k) (stream_of m))))
headed-inside m head k b e h =
    headed-made m head k (omega arith) (byte 0 b (omega arith)) (byte 1 (b + 1) (omega arith)) (byte 2 (b + 2) (omega arith)) (byte 3 (b + 3) (omega arith)) (byte 4 (b + 4) (omega arith)) (byte 5 (b + 5) (omega arith)) (byte 6 (b + 6) (omega arith))
  where
    byte : (i n : ℕ) → 7 * k + i ≡ n + 2 → get_or m n 0 ≡ get_or (stream_of m) (7 * k + i) 0
    byte i n q = sym (get_or-stream m (7 * k + i) n q)

-- a frame, of what its parts were found to be
pub frame_made : {count head : ℕ} {asks : Bool} {x : Payload} (m : List ℕ) (block first k : ℕ)
    → count ≡ frames_of (length m)
    → asks ≡ asks_at block (length m) k
    → head ≡ header_of asks (eqb (k + 1) count) (first + k)
    → x ≡ payload_of (head ∷ take 7 (drop (7 * k) (stream_of m)))
    → x ≡ frame_at m block first k
unfolding frame_at
frame_made m block first k pn pq ph px = rw (px, ph, pq, pn)
