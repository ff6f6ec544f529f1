-- Where one side's reception stands among the messages that it is sent.
--     Stands           inside the message at hand, behind so many of its frames
--     turn-first       the line of the message's first frame, behind its next frame
--     next-frame       its next frame: it stands behind that too, or the message is shown and the next one is at hand
use Prim.Native.Nat.{ℕ, ◌+◌, ◌%◌, ◌<◌, ◌≤◌}
use native.Mathlib.Omega.{arith}
use mathlib.Core.Bool.{true, false}
use mathlib.Core.List.{List, [], ◌∷◌, ◌++◌}
use mathlib.Core.Path.{◌≡◌, refl, sym, ap, ◌∙◌}
use lib.ListN.{length, take, drop, get_or, length-append, length-drop}
use lib.Seq.{take-append_seam}
use borrow.Author.Tests.{eq-eqb, ne_eqb}
use Rattle.telegram.specs.Outgoing.{bytes_of}
use Rattle.telegram.specs.Kinds.{sorted}
use Rattle.telegram.specs.Cutting.{frames_of, frame_at}
use Rattle.telegram.specs.declared.cutting.Message.{Message}
use Rattle.telegram.specs.declared.kinds.Sorted.{Sorted}
use Rattle.telegram.proofs.RoundTrip.{frame-sorted}
use Rattle.receiver.specs.declared.Receipt.{Receipt}
use Rattle.receiver.specs.declared.Standing.{Standing}
use Rattle.receiver.specs.Receiving.{is_used}
use Rattle.reading.specs.Reading.{Reading}
use Rattle.reading.proofs.Frame.{Behind, Reads, within, whole}
use Rattle.follow.specs.declared.Side.{Side}
use Rattle.follow.specs.declared.Fate.TheVariants.{Shown}
use Rattle.follow.specs.declared.Reception.{Reception}
use Rattle.follow.specs.declared.Turn.{Turn}
use Rattle.follow.specs.Following.{first_after, fate_of, turned, buffer_after}
use Rattle.capture.specs.declared.Event.TheVariants.{Nothing}
use Rattle.capture.specs.Reading.{event_of}
use Rattle.capture_delivery.specs.Sent.{Sent, count, Fits}
use Rattle.capture_delivery.proofs.Turns.{reading_of, read, Takes, data-taken, turned-buffer, next-read}

-- the message that comes next or has begun; behind the last none of any bytes
abbrev pub at_hand : List Sent → List ℕ
at_hand [] = []
at_hand (m ∷ ms) = m.message

-- a side with a buffer, that stands behind k frames of the message at hand, numbered from a number
pub record Stands (room number : ℕ) (ms : List Sent) (k : ℕ) (n : Reception) (b : List ℕ) : Type 0 where
  pub before : List ℕ
  pub sized : length before ≡ room
  pub inside : k < frames_of (length (at_hand ms))
  pub behind : Behind (at_hand ms) 0 number before k (reading_of n b)

-- the standing and the buffer are all that counts
behind-alike : {m : List ℕ} {flags number : ℕ} {before : List ℕ} {k : ℕ} {h : Reading} (n : Reception) (b : List ℕ) → n.at ≡ h.receiver.at → b ≡ h.buffer
    → Behind m flags number before k h → Behind m flags number before k (reading_of n b)
behind-alike n b at buffer s =
    record {
      expected = ap (λ (x : Standing). x.expected) at ∙ s.expected;
      discarding = ap (λ (x : Standing). x.discarding) at ∙ s.discarding;
      complete = refl;
      starts = λ z. ap (λ (x : Standing). x.begun.length) at ∙ s.starts z;
      begun = λ z. ap (λ (x : Standing). x.begun) at ∙ s.begun z;
      fill = λ z. ap (λ (x : Standing). x.fill) at ∙ s.fill z;
      buffer = buffer ∙ s.buffer;
    }

pub stands-still : {room number : ℕ} {ms : List Sent} {k : ℕ} {n : Reception} {b : List ℕ} (n₁ : Reception) (b₁ : List ℕ) → n₁.at ≡ n.at → b₁ ≡ b
    → Stands room number ms k n b → Stands room number ms k n₁ b₁
stands-still n₁ b₁ at buffer s = record { before = s.before; sized = s.sized; inside = s.inside; behind = behind-alike n₁ b₁ at buffer s.behind }

some-frame : (n : ℕ) → 0 < frames_of n
unfolding frames_of
some-frame n = omega arith

-- where nothing is begun, whatever comes next
pub stands-first : (room number expected : ℕ) (ms : List Sent) (n : Reception) (b : List ℕ) → length b ≡ room
    → n.at.expected ≡ expected → expected ≡ (number + 0) % 16 → n.at.discarding ≡ false → n.at.begun.length ≡ 0 → Stands room number ms 0 n b
stands-first room number expected ms n b l e f d g =
    record {
      before = b;
      sized = l;
      inside = some-frame (length (at_hand ms));
      behind = record { expected = e ∙ f; discarding = d; complete = refl; starts = λ z. g; begun = λ z. absurd (omega arith); fill = λ z. absurd (omega arith); buffer = refl };
    }

-- what the next frame of the message at hand leaves, by its turn and the buffer behind it
pub data Stepped (side : Side) (room number : ℕ) (m : Sent) (ms : List Sent) (k : ℕ) (t : Turn) (b : List ℕ) : Type 0 where
  goes_on : event_of t.fate ≡ Nothing → Stands room number (m ∷ ms) (k + 1) t.reception b → Stepped side room number m ms k t b
  is_whole : k + 1 ≡ count m → t.fate ≡ Shown (record { side = side; message = record { length = length m.message; flags = 0 }; first = t.reception.first })
      → take (length m.message) b ≡ m.message → Stands room ((number + count m) % 16) ms 0 t.reception b → Stepped side room number m ms k t b

module _ (limit : ℕ) (small : limit ≤ 4095) (side : Side) (room number : ℕ) (m : Sent) (ms : List Sent) (k : ℕ) (n : Reception) (line : ℕ) (s b : List ℕ)
    (fits : Fits limit room m) (stands : Stands room number (m ∷ ms) k n b) (same : s ≡ bytes_of (frame_at m.message m.block number k)) where
  abbrev turn : Turn
  turn = turned limit side n line s (length b)

  abbrev h : Reading
  h = read limit side n line b s

  taken : Takes side n line h turn
  taken = data-taken limit side n line b s (ap (λ (x : List ℕ). (sorted x).kind) same ∙ ap (λ (t : Sorted). t.kind) (frame-sorted m.message m.block number k stands.inside))

  reads : Reads m.message 0 number stands.before k h
  reads =
      let l = stands.sized in
      next-read limit small m.message m.block number stands.before fits.some fits.within (omega arith) k (reading_of n b) s stands.inside same stands.behind

  stepped : Reads m.message 0 number stands.before k h → Stepped side room number m ms k turn (buffer_after limit n s b)
  stepped (within u note behind) =
      goes_on (ap event_of (taken.fate ∙ ap (λ (r : Receipt). fate_of side h.receiver.complete turn.reception.first r) note))
      (record { before = stands.before; sized = stands.sized; inside = u; behind = behind-alike turn.reception (buffer_after limit n s b) taken.at (turned-buffer limit side n line b s) behind })
  stepped (whole e r) =
      let c = turned-buffer limit side n line b s ∙ r.buffer in
      let l = stands.sized in
      let sized : length (m.message ++ drop (length m.message) stands.before) ≡ room = simp (length-append, length-drop) (omega arith) in
      is_whole e
      (taken.fate
      ∙ ap (λ (x : Receipt). fate_of side h.receiver.complete turn.reception.first x) r.note
      ∙ ap (λ (x : Message). Shown (record { side = side; message = x; first = turn.reception.first })) r.complete)
      (ap (take (length m.message)) c ∙ take-append_seam m.message (drop (length m.message) stands.before))
      (stands-first room _ _ ms turn.reception _ (ap length c ∙ sized) (ap (λ (x : Standing). x.expected) taken.at ∙ r.expected) (omega arith)
      (ap (λ (x : Standing). x.discarding) taken.at ∙ r.discarding)
      (ap (λ (x : Standing). x.begun.length) taken.at ∙ ap (λ (x : Message). x.length) r.begun))

  used : Reads m.message 0 number stands.before k h → is_used h.note ≡ true
  used (within u note behind) = ap is_used note
  used (whole e r) = ap is_used r.note

  -- its line is that of the first frame, where none of the message was seen
  turn-line : k ≡ 0 → turn.reception.first ≡ line
  unfolding first_after
  turn-line e = taken.first ∙ rw (used reads, eq-eqb n.at.begun.length 0 (stands.behind.starts e))

  turn-kept : 0 < k → turn.reception.first ≡ n.first
  unfolding first_after
  turn-kept z =
      let e : n.at.begun.length ≡ length m.message = ap (λ (x : Message). x.length) (stands.behind.begun z) in
      let some = fits.some in
      taken.first ∙ rw (used reads, ne_eqb n.at.begun.length 0 (λ x. omega arith))

  pub turn-first : (at rest : List ℕ) → length at ≡ k → (0 < k → n.first ≡ get_or at 0 0) → turn.reception.first ≡ get_or (at ++ line ∷ rest) 0 0
  turn-first [] rest l f = turn-line (sym l)
  turn-first (x ∷ at) rest l f = let z : 0 < k = omega arith in turn-kept z ∙ f z

  -- it does not end the channel
  pub next-frame : (turn.ends ≡ false) × Stepped side room number m ms k turn (buffer_after limit n s b)
  next-frame = (taken.ends, stepped reads)
