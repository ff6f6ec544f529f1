-- When a frame is handed over, case by case, and which.
use Prim.Native.Nat.{ℕ, ◌≤◌, ◌<◌}
use native.Mathlib.Omega.{arith}
use mathlib.Core.Bool.{true, false, false≢true}
use mathlib.Core.List.{List, []}
use mathlib.Core.Logic.{◌↔◌, ◌≢◌}
use mathlib.Core.Path.{◌≡◌, refl, sym}
use lib.Dec.{eqb}
use lib.ListN.{length, get_or, length-take}
use borrow.Author.Tests.{ltb-true, eqb-true, eqb-false, not-true, eq-eqb, ne_eqb, lt-ltb}
use Rattle.laws.proofs.Cases.{by-not, both}
use Rattle.telegram.specs.Outgoing.{bytes_of}
use Rattle.telegram.specs.Cutting.{frames_of, frame_at, cutting}
use Rattle.telegram.proofs.Cut.{cutting-at}
use Rattle.sender.specs.declared.Terms.{Terms}
use Rattle.sender.specs.declared.Sender.{Sender}
use Rattle.sender.specs.declared.Handed.{Handed}
use Rattle.sender.specs.declared.Handing.{Handing}
use Rattle.sender.specs.declared.Handing.TheVariants.{Frame, Nothing, OtherLength}
use Rattle.sender.specs.Sending.{frame_due, first_number, advanced, no_frame, is_frame, handed_payload, handed}

-- a frame is due: a message is in sending, no wait, hold or gap runs, and the message has a next frame
pub record Due (s : Sender) : Type 0 where
  pub sending : 0 < s.length
  pub waited : s.wait ≡ 0
  pub free : s.hold ≡ 0
  pub apart : s.gap ≡ 0
  pub more : s.next < frames_of s.length

-- the test tells it
pub frame_due-shows : (s : Sender) → frame_due s ≡ true → Due s
unfolding frame_due
frame_due-shows s e =
    let e4 = both _ _ e in
    let e3 = both _ _ e4.0 in
    let e2 = both _ _ e3.0 in
    let e1 = both _ _ e2.0 in
    let some = eqb-false s.length 0 (not-true _ e1.0) in
    record { sending = omega arith; waited = eqb-true _ _ e1.1; free = eqb-true _ _ e2.1; apart = eqb-true _ _ e3.1; more = ltb-true _ _ e4.1 }

-- and is passed by it
pub frame_due-due : (s : Sender) → Due s → frame_due s ≡ true
unfolding frame_due
frame_due-due s d = rw (ne_eqb s.length 0 (omega arith), d.waited, d.free, d.apart, lt-ltb _ _ d.more)

-- a frame handed over is that of its bytes
pub frame-given : (note : Handing) → is_frame note ≡ true → note ≡ Frame (handed_payload note)
frame-given (Frame p) e = refl
frame-given Nothing e = absurd (false≢true e)
frame-given OtherLength e = absurd (false≢true e)

-- what a call for a frame leaves, and what led to it
pub data FrameCase (t : Terms) (s : Sender) (m : List ℕ) : Handed → Type 0 where
  none-due : frame_due s ≡ false → FrameCase t s m (no_frame s Nothing)
  other_length : Due s → length m ≢ s.length → FrameCase t s m (no_frame s OtherLength)
  frame-out : Due s → length m ≡ s.length
      → FrameCase t s m (record { note = Frame (frame_at m t.block (first_number s) s.next); sender = advanced t s })

module _ (t : Terms) (s : Sender) (m : List ℕ) where
  -- every call for a frame is one of these cases
  pub frame_case : FrameCase t s m (handed t s m)
  unfolding handed
  frame_case =
      by-not (FrameCase t s m) (frame_due s) none-due λ e.
      let d = frame_due-shows s e in
      by-not (FrameCase t s m) (eqb (length m) s.length) (λ e. other_length d (eqb-false _ _ e)) λ e. frame-out d (eqb-true _ _ e)

  -- where a frame is due and its message lent, it is handed over
  pub handed-frame : Due s → length m ≡ s.length
      → handed t s m ≡ record { note = Frame (frame_at m t.block (first_number s) s.next); sender = advanced t s }
  unfolding handed
  handed-frame d e = rw (frame_due-due s d, eq-eqb _ _ e)

  -- it is the frame of its place in the cutting
  pub handed-cut : Due s → length m ≡ s.length → bytes_of (handed_payload (handed t s m).note) ≡ get_or (cutting m t.block (first_number s)) s.next []
  handed-cut d e = rw (handed-frame d e) (sym (cutting-at m t.block (first_number s) s.next (rw e d.more)))

  -- a frame is given exactly where one is due and its message is lent
  pub handed-exactly : (is_frame (handed t s m).note ≡ true) ↔ (Due s × length m ≡ s.length)
  handed-exactly =
      (go frame_case, λ h. rw (handed-frame h.0 h.1))
    where
      go : {x : Handed} → FrameCase t s m x → is_frame x.note ≡ true → Due s × length m ≡ s.length
      go (none-due _) e = absurd (false≢true e)
      go (other_length _ _) e = absurd (false≢true e)
      go (frame-out d l) e = (d, l)

-- a later block ends as the first does: in blocks of four, the frame behind 15 others of a message of 200 bytes asks for an Ack, and the wait starts
pub later-block-waits : (advanced (record { t1 = 1000; t3 = 50; t_wait = 1000; block = 4; repeats = 5 }) (record { length = 200; high = 15; next = 15; acked = 12; oldest = 12; count = 0; wait = 0; hold = 0; gap = 0 })).wait ≡ 1000
unfolding frames_of
later-block-waits = refl

module _ (t : Terms) (s : Sender) (m : List ℕ) where
  -- without a message in sending there is no frame
  pub handed-idle : s.length ≡ 0 → handed t s m ≡ no_frame s Nothing
  unfolding frame_due handed
  handed-idle e = rw e

  -- a frame has one to eight bytes
  pub handed-sized : is_frame (handed t s m).note ≡ true → (1 ≤ (handed_payload (handed t s m).note).len) × ((handed_payload (handed t s m).note).len ≤ 8)
  unfolding frame_at
  handed-sized e = let h = (handed-exactly t s m).0 e in rw (handed-frame t s m h.0 h.1) (omega arith, simp length-take (omega arith))
