-- One frame of a message, read by a receiver that stands behind the frames before it.
--     reads-frame      it stands behind that frame too, or has the message whole
use Prim.Native.Nat.{ℕ, zero, suc, ◌+◌, ◌-◌, ◌*◌, ◌/◌, ◌%◌, ◌<◌, ◌≤◌, min}
use native.Mathlib.Omega.{arith}
use mathlib.Core.Bool.{Bool, true, false}
use mathlib.Core.Path.{◌≡◌, refl, sym, ◌∙◌, ap, subst₂}
use mathlib.Core.List.{List, ◌∷◌, ◌++◌, append_assoc}
use lib.ListN.{length, take, drop, length-append, length-take, length-drop, take-append-drop}
use lib.Seq.{length-take-le, take-append_seam, take_at, take-length, drop-append-add, drop-drop, take-add}
use lib.Dec.{ltb, eqb}
use borrow.Author.Tests.{eqb-true, eqb-false, ne_eqb}
use Rattle.telegram.specs.Cutting.{none, stream_of, frames_of, last_at}
use Rattle.telegram.specs.declared.kinds.Telegram.TheVariants.{Data}
use Rattle.telegram.proofs.RoundTrip.{declares-back}
use Rattle.telegram.specs.declared.cutting.Message.{Message}
use Rattle.receiver.specs.declared.Standing.{Standing}
use Rattle.receiver.specs.declared.Receipt.{Receipt}
use Rattle.receiver.specs.declared.Receipt.TheVariants.{Used}
use Rattle.receiver.specs.Receiving.{first, following, on_data, pasted, is_used, buffered}
use Rattle.receiver.proofs.Outcomes.{Brings, at_first, at-later, EndsThere, InOrder, fitted, fitting}
use Rattle.receiver.proofs.Laws.{numbered-leaves, received-data, buffered-first, buffered-later}
use Rattle.reading.specs.Reading.{Reading, Read, after, arrives}

-- the standing between frames

-- the length bytes with flags, and the message
abbrev pub flagged_stream : (flags : ℕ) → List ℕ → List ℕ
flagged_stream flags m = (16 * flags + length m / 256 % 16) ∷ length m % 256 ∷ m

pub no-flags : (high : ℕ) → 16 * 0 + high ≡ high
no-flags high = omega arith

-- what is written has none
pub unflagged : (m : List ℕ) → stream_of m ≡ flagged_stream 0 m
unfolding stream_of
unflagged m = rw no-flags

-- the seven bytes that the frame behind k others carries
abbrev pub piece : (flags : ℕ) → List ℕ → ℕ → List ℕ
piece flags m k = take 7 (drop (7 * k) (flagged_stream flags m))

-- a receiver that has used the first k frames of m, sent with flags and numbered from a number, and its buffer, which was b before
pub record Behind (m : List ℕ) (flags number : ℕ) (b : List ℕ) (k : ℕ) (h : Reading) : Type 0 where
  pub expected : h.receiver.at.expected ≡ (number + k) % 16
  pub discarding : h.receiver.at.discarding ≡ false
  pub complete : h.receiver.complete.length ≡ 0
  pub starts : k ≡ 0 → h.receiver.at.begun.length ≡ 0
  pub begun : 0 < k → h.receiver.at.begun ≡ record { length = length m; flags = flags }
  pub fill : 0 < k → h.receiver.at.fill ≡ 7 * k - 2
  pub buffer : h.buffer ≡ take (7 * k - 2) m ++ drop (7 * k - 2) b

-- after the frame behind k others: behind one more, or whole at the last
pub data Reads (m : List ℕ) (flags number : ℕ) (b : List ℕ) (k : ℕ) (h : Reading) : Type 0 where
  within : k + 1 < frames_of (length m) → h.note ≡ Used → Behind m flags number b (k + 1) h → Reads m flags number b k h
  whole : k + 1 ≡ frames_of (length m) → Read m flags number b h → Reads m flags number b k h

-- lists

-- a list's first elements, counted
take_count : (w : ℕ) (l : List ℕ) → take (length (take w l)) l ≡ take w l
take_count w l = rw take-append-drop at (take-append_seam (take w l) (drop w l))

-- the next bytes of m, pasted behind those that stand there
paste-next : (m b : List ℕ) (at w : ℕ) → at ≤ length m
    → pasted (take at m ++ drop at b) at (take w (drop at m)) ≡ take (at + length (take w (drop at m))) m ++ drop (at + length (take w (drop at m))) b
paste-next m b at w h =
    let q = length (take w (drop at m)) in
    let e : length (take at m) ≡ at = length-take-le at m h in
    let d : drop (at + q) (take at m ++ drop at b) ≡ drop q (drop at b) = rw e at (drop-append-add (take at m) (drop at b) q) in
    rw (take_at (take at m) (drop at b) at e, d, drop-drop, take-add, take_count, append_assoc)

-- a later frame carries bytes of the message alone
pub later-piece : (flags : ℕ) (m : List ℕ) (k : ℕ) → 0 < k → piece flags m k ≡ take 7 (drop (7 * k - 2) m)
later-piece flags m k z =
    let e : 7 * k ≡ 2 + (7 * k - 2) = omega arith in
    ap (λ (n : ℕ). take 7 (drop n (flagged_stream flags m))) e ∙ ap (take 7) (sym (drop-drop (7 * k - 2) 2 (flagged_stream flags m)))

-- numbers

-- to how many bytes the frame behind k others brings a message of n
abbrev reach : (n k : ℕ) → ℕ
reach n k = min (7 * k + 5) n

-- the bytes before a frame are not more than the message has
few : (n k : ℕ) → k < frames_of n → 7 * k - 2 < n + 1
unfolding frames_of
few n k h = omega arith

-- EOM stands on the frame that brings the rest
reach-ends : (n k : ℕ) (l : Bool) → last_at n k ≡ l → k < frames_of n → EndsThere l (reach n k) n
unfolding frames_of
reach-ends n k true l h = let e = eqb-true (k + 1) (frames_of n) l in omega arith
reach-ends n k false l h = let e = eqb-false (k + 1) (frames_of n) l in omega arith

-- every other frame is full
reach-next : (n k : ℕ) → k + 1 < frames_of n → reach n k ≡ 7 * (k + 1) - 2
unfolding frames_of
reach-next n k h = omega arith

-- what stands in the buffer behind k frames is that of the message
pub behind-front : {m : List ℕ} {flags number : ℕ} {b : List ℕ} {h : Reading} (k : ℕ) → k < frames_of (length m) → Behind m flags number b k h → take (7 * k - 2) h.buffer ≡ take (7 * k - 2) m
behind-front {m} {b = b} k more s =
    let l = few (length m) k more in
    ap (take (7 * k - 2)) s.buffer ∙ take_at (take (7 * k - 2) m) (drop (7 * k - 2) b) (7 * k - 2) (length-take-le (7 * k - 2) m (omega arith))

-- the frame behind k others is used, and the number behind it is expected
pub reads-used : {m : List ℕ} {flags number : ℕ} {b : List ℕ} {k : ℕ} {h : Reading} → Reads m flags number b k h → is_used h.note ≡ true
reads-used (within u n s) = ap is_used n
reads-used (whole e r) = ap is_used r.note

pub reads-expected : {m : List ℕ} {flags number : ℕ} {b : List ℕ} {k : ℕ} {h : Reading} → Reads m flags number b k h → h.receiver.at.expected ≡ (number + (k + 1)) % 16
reads-expected (within u n s) = s.expected
reads-expected {number = number} (whole e r) = r.expected ∙ ap (λ (n : ℕ). (number + n) % 16) (sym e)

-- data arrives as data
pub arrives-data : (limit : ℕ) (h : Reading) (asks last : Bool) (number : ℕ) (p : List ℕ)
    → arrives limit h (Data asks last number) p ≡ after h p (on_data limit h.receiver asks last number p (length h.buffer))
unfolding arrives
arrives-data limit h asks last number p = ap (after h p) (received-data limit h.receiver p (length h.buffer) asks last number)

module _ (limit : ℕ) (m : List ℕ) (flags number : ℕ) (b : List ℕ) (some : 0 < length m) (most : length m ≤ limit) (twelve : limit ≤ 4095) (four : flags < 16) (roomy : length m ≤ length b) where
  abbrev message : Message
  message = record { length = length m; flags = flags }

  -- the buffer still has room for the message
  behind-room : (k : ℕ) (h : Reading) → k < frames_of (length m) → Behind m flags number b k h → length m ≤ length h.buffer
  behind-room k h more s = let l = few (length m) k more in rw s.buffer (simp (length-append, length-take, length-drop) (omega arith))

  -- the frame behind k others: how far it brings the message, and the buffer with it
  record Brought (k : ℕ) (h : Reading) : Type 0 where
    brings : Brings limit h.receiver (piece flags m k) (length h.buffer) message (reach (length m) k)
    copies : (note : Receipt) → is_used note ≡ true → buffered h.receiver note (piece flags m k) h.buffer ≡ take (reach (length m) k) m ++ drop (reach (length m) k) b

  first-brought : (h : Reading) → Behind m flags number b 0 h → Brought 0 h
  first-brought h s =
      let f : first h.receiver ≡ true = ap (λ (n : ℕ). eqb n 0) (s.starts refl) in
      let d = declares-back flags (length m) four (omega arith) (16 * flags + length m / 256 % 16) (omega arith) in
      let n = ap (λ (x : Message). x.length) d in
      let g : 0 + length (take 5 m) ≡ reach (length m) 0 = simp length-take (omega arith) in
      record {
        brings =
            subst₂ (Brings limit h.receiver (piece flags m 0) (length h.buffer)) d (omega arith)
            (at_first f (omega arith) (rw n some) (rw n most));
        copies = λ note u. buffered-first h.receiver note (piece flags m 0) h.buffer u f ∙ rw (s.buffer, ← g) (paste-next m b 0 5 (omega arith));
      }

  later-brought : (k : ℕ) (h : Reading) → 0 < k → k < frames_of (length m) → Behind m flags number b k h → Brought k h
  later-brought k h z more s =
      let f : first h.receiver ≡ false = ap (λ (x : Message). eqb x.length 0) (s.begun z) ∙ ne_eqb (length m) 0 (λ e. omega arith) in
      let p = later-piece flags m k z in
      let l = few (length m) k more in
      let g : 7 * k - 2 + length (take 7 (drop (7 * k - 2) m)) ≡ reach (length m) k = simp (length-take, length-drop) (omega arith) in
      record {
        brings =
            subst₂ (Brings limit h.receiver (piece flags m k) (length h.buffer)) (s.begun z) (rw (s.fill z, p) g)
            (at-later f (rw (s.begun z) (behind-room k h more s)));
        copies = λ note u. buffered-later h.receiver note (piece flags m k) h.buffer u f ∙ rw (s.fill z, p, s.buffer, ← g) (paste-next m b (7 * k - 2) 7 (omega arith));
      }

  brought : (k : ℕ) (h : Reading) → k < frames_of (length m) → Behind m flags number b k h → Brought k h
  brought zero h more s = first-brought h s
  brought (suc j) h more s = later-brought (suc j) h (omega arith) more s

  module _ (k : ℕ) (h : Reading) (asks : Bool) (more : k < frames_of (length m)) (s : Behind m flags number b k h) where
    -- the frame is in its place, and no message waits or is thrown away
    in_place : InOrder h.receiver ((number + k) % 16)
    in_place = record { expected = sym s.expected; none-waits = ap (ltb 0) s.complete; not-discarding = s.discarding }

    next-expected : following h.receiver.at.expected ≡ (number + (k + 1)) % 16
    next-expected = ap following s.expected ∙ omega arith

    -- what the frame leaves, by whether it is the last
    fitted-reads : (last : Bool) → last_at (length m) k ≡ last → Brought k h
        → Reads m flags number b k (after h (piece flags m k) (fitted limit h.receiver asks last ((number + k) % 16) (piece flags m k) (length h.buffer) message (reach (length m) k)))
    fitted-reads true l a =
        let e = eqb-true (k + 1) (frames_of (length m)) l in
        let n = numbered-leaves h.receiver asks true false none 0 message in
        let f : reach (length m) k ≡ length m = reach-ends (length m) k true l more in
        whole e
        (record {
          note = refl;
          complete = n.complete;
          expected = ap (λ (x : Standing). x.expected) n.at ∙ rw (← e) next-expected;
          discarding = ap (λ (x : Standing). x.discarding) n.at;
          begun = ap (λ (x : Standing). x.begun) n.at;
          buffer = a.copies _ refl ∙ rw (f, take-length);
        })
    fitted-reads false l a =
        let e = eqb-false (k + 1) (frames_of (length m)) l in
        let n = numbered-leaves h.receiver asks false false message (reach (length m) k) h.receiver.complete in
        let u : k + 1 < frames_of (length m) = omega arith in
        let f = reach-next (length m) k u in
        within u refl
        (record {
          expected = ap (λ (x : Standing). x.expected) n.at ∙ next-expected;
          discarding = ap (λ (x : Standing). x.discarding) n.at;
          complete = ap (λ (x : Message). x.length) n.complete ∙ s.complete;
          starts = λ z. absurd (omega arith);
          begun = λ z. ap (λ (x : Standing). x.begun) n.at;
          fill = λ z. ap (λ (x : Standing). x.fill) n.at ∙ f;
          buffer = a.copies _ refl ∙ rw f;
        })

    -- a receiver that stands behind k frames, given the next one, stands behind that too, or has the message whole
    pub reads-frame : Reads m flags number b k (arrives limit h (Data asks (last_at (length m) k) ((number + k) % 16)) (piece flags m k))
    reads-frame =
        let a = brought k h more s in
        rw (arrives-data, fitting limit h.receiver asks (last_at (length m) k) ((number + k) % 16) (piece flags m k) (length h.buffer) in_place a.brings (reach-ends (length m) k _ refl more) (behind-room k h more s))
        (fitted-reads (last_at (length m) k) refl a)
