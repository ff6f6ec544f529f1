-- Every message goes out as its cutting, and then is done.
use Prim.Native.Nat.{ℕ, zero, suc, ◌+◌, ◌%◌, ◌≤◌, ◌<◌, max}
use native.Mathlib.Nat.{add_assoc, add-zero, zero-mod, add-mod_right, mod-eq_of_lt, sub_self, zero-sub, le_refl}
use native.Mathlib.Numerals.{add-one}
use native.Mathlib.Omega.{arith}
use mathlib.Core.Bool.{true, false, or-true}
use mathlib.Core.List.{List, []}
use mathlib.Core.Logic.{◌≢◌}
use mathlib.Core.Path.{◌≡◌, refl, ap, ◌∙◌}
use lib.ListN.{length, drop, get_or, drop_of_length-le}
use lib.Seq.{drop-cons}
use borrow.Author.Tests.{eq-eqb, ne_eqb}
use Rattle.laws.proofs.Cases.{by-eq}
use Rattle.telegram.specs.Cutting.{frames_of, asks_at, frame_at, cutting}
use Rattle.telegram.proofs.Cut.{cutting-at, cutting-length}
use Rattle.sender.specs.declared.Terms.{Terms}
use Rattle.sender.specs.declared.Sender.{Sender}
use Rattle.sender.specs.declared.Heard.{Heard}
use Rattle.sender.specs.declared.Hearing.{Hearing}
use Rattle.sender.specs.declared.Hearing.TheVariants.{Part, Done, Nothing}
use Rattle.sender.specs.declared.Handing.TheVariants.{Frame}
use Rattle.sender.specs.Sending.{resting, accepted, distance, on_ack, ignored, advanced, handed, later}
use Rattle.sender.specs.Writing.{Written, before, answered, turns, written}
use Rattle.sender.proofs.Offers.{Takes, offered-takes}
use Rattle.sender.proofs.Numbers.{distance-reaches, oldest-ahead, first_number-true}
use Rattle.sender.proofs.Acks.{Acknowledges, on_ack-last, on_ack-part}
use Rattle.sender.proofs.Time.{passed-quiet}
use Rattle.sender.proofs.Frames.{handed-frame}

-- a of k frames handed over are acknowledged, the first of which had number o
abbrev at : (n o a k : ℕ) → Sender
at n o a k = record { length = n; acked = a; high = k; next = k; oldest = (o + a) % 16; count = 0; wait = 0; hold = 0; gap = 0 }

module _ (t : Terms) (m : List ℕ) (o : ℕ) (small : o < 16) (some : 0 < length m) where
  -- before frame k is handed over, and after it
  abbrev here : (a k : ℕ) → Sender
  here a k = at (length m) o a k

  abbrev gone : (a k : ℕ) → Sender
  gone a k = advanced t (here a k)

  abbrev frames : List (List ℕ)
  frames = cutting m t.block o

  module _ (a k : ℕ) (acked : a ≤ k) (window : k + 1 < a + 16) (more : k < frames_of (length m)) where
    -- frame k is due
    handed-here : handed t (here a k) m ≡ record { note = Frame (frame_at m t.block o k); sender = gone a k }
    handed-here =
        handed-frame t (here a k) m (record { sending = some; waited = refl; free = refl; apart = refl; more = more }) refl
        ∙ rw (first_number-true (here a k) o refl, mod-eq_of_lt small)

    -- a turn hands frame k over, and leaves what its answer leaves after T3
    turn : (n : ℕ) (note : Hearing) (h : Heard) → answered t m o k (gone a k) ≡ h → h.sender.wait ≡ 0
        → turns t m o (suc n) k (here a k) note ≡ before (get_or frames k []) (turns t m o n (k + 1) (later h.sender t.t3) h.note)
    unfolding turns
    turn n note h e w = rw (handed-here, e, passed-quiet t h.sender t.t3 (λ r. omega arith), cutting-at m t.block o k more)

    -- the Ack after it reaches it
    reaches : a + distance (gone a k) ((o + k + 1) % 16) ≡ k + 1
    reaches = distance-reaches (gone a k) o refl ((o + k + 1) % 16) (k + 1) (ap (λ (n : ℕ). n % 16) (add_assoc o k 1)) (omega arith) window

    acknowledges : Acknowledges (gone a k) ((o + k + 1) % 16)
    acknowledges = let e = reaches in record { counts = record { sending = some; free = refl }; some = omega arith; within = omega arith }

    grown : max k (k + 1) ≡ k + 1
    grown = omega arith

    -- after a frame without AR nothing is acknowledged
    turn_on : asks_at t.block (length m) k ≡ false → (n : ℕ) (note : Hearing)
        → turns t m o (suc n) k (here a k) note ≡ before (get_or frames k []) (turns t m o n (k + 1) (here a (k + 1)) Nothing)
    turn_on e n note = turn n note (ignored (gone a k)) (rw e) (rw e) ∙ rw (e, grown, zero-sub, sub_self)

    answers : asks_at t.block (length m) k ≡ true → answered t m o k (gone a k) ≡ on_ack t (gone a k) true ((o + k + 1) % 16)
    answers e = rw e

    -- after a block all of it is
    turn-part : asks_at t.block (length m) k ≡ true → k + 1 ≢ frames_of (length m) → (n : ℕ) (note : Hearing)
        → turns t m o (suc n) k (here a k) note ≡ before (get_or frames k []) (turns t m o n (k + 1) (here (k + 1) (k + 1)) Part)
    turn-part e p n note =
        turn n note _ (answers e ∙ on_ack-part t (gone a k) true ((o + k + 1) % 16) acknowledges (rw reaches p)) refl
        ∙ rw (oldest-ahead (gone a k) o refl, reaches, grown, zero-sub, sub_self)

    -- after the last frame the message is done
    turn_last : asks_at t.block (length m) k ≡ true → k + 1 ≡ frames_of (length m) → (n : ℕ) (note : Hearing)
        → turns t m o (suc n) k (here a k) note ≡ before (get_or frames k []) (turns t m o n (k + 1) (resting ((o + (k + 1)) % 16)) Done)
    turn_last e p n note =
        turn n note _ (answers e ∙ on_ack-last t (gone a k) true ((o + k + 1) % 16) acknowledges (rw reaches p)) refl
        ∙ rw (oldest-ahead (gone a k) o refl, reaches, zero-sub, sub_self)

  -- what is to come from frame k on: the rest of the cutting, and done
  abbrev rest : ℕ → Written
  rest k = record { frames = drop k frames; note = Done; sender = resting ((o + frames_of (length m)) % 16) }

  rest-next : (k : ℕ) → k < frames_of (length m) → before (get_or frames k []) (rest (k + 1)) ≡ rest k
  rest-next k h = rw (add-one, ← drop-cons frames k [] (rw cutting-length h))

  rest_end : (k : ℕ) → k ≡ frames_of (length m) → turns t m o 0 k (resting ((o + k) % 16)) Done ≡ rest k
  unfolding turns
  rest_end k e = let h = cutting-length m t.block o in rw (drop_of_length-le frames {i = k} (omega arith), e)

  module _ (low : 0 < t.block) (high : t.block < 16) where
    -- a block is k - a frames old: it comes to its end before the numbers repeat
    run : (n a k : ℕ) (note : Hearing) → k + suc n ≡ frames_of (length m) → a ≤ k → k < a + t.block → a % t.block ≡ 0
        → turns t m o (suc n) k (here a k) note ≡ rest k
    run zero a k note e p q z =
        turn_last a k p (omega arith) (omega arith) (rw (eq-eqb (k + 1) (frames_of (length m)) e, or-true)) e 0 note
        ∙ ap (before (get_or frames k [])) (rest_end (k + 1) e) ∙ rest-next k (omega arith)
    run (suc n) a k note e p q z =
        by-eq (λ (_ : ℕ). turns t m o (suc (suc n)) k (here a k) note ≡ rest k) ((k + 1) % t.block) 0 {x = 0} {y = 0}
        (λ d. turn-part a k p (omega arith) (omega arith) (rw d) (omega arith) (suc n) note
        ∙ ap (before (get_or frames k [])) (run n (k + 1) (k + 1) Part (omega arith) (le_refl (k + 1)) (omega arith) d) ∙ rest-next k (omega arith))
        (λ d. turn_on a k p (omega arith) (omega arith) (rw (ne_eqb ((k + 1) % t.block) 0 d, ne_eqb (k + 1) (frames_of (length m)) (omega arith))) (suc n) note
        ∙ ap (before (get_or frames k [])) (run n a (k + 1) Nothing (omega arith) (omega arith) (inside a k q z d) z) ∙ rest-next k (omega arith))
      where
        inside : (a k : ℕ) → k < a + t.block → a % t.block ≡ 0 → (k + 1) % t.block ≢ 0 → k + 1 < a + t.block
        inside a k q z d = by-eq (λ (_ : ℕ). k + 1 < a + t.block) (k + 1) (a + t.block) {x = 0} {y = 0} (λ e. absurd (d (rw e (add-mod_right a t.block ∙ z)))) (λ e. omega arith)

    whole : (n : ℕ) (note : Hearing) → n ≡ frames_of (length m) → turns t m o n 0 (here 0 0) note ≡ rest 0
    unfolding frames_of
    whole zero note e = absurd (omega arith)
    whole (suc n) note e = run n 0 0 note (omega arith) (le_refl 0) (omega arith) (zero-mod t.block)

-- from rest every message of 1 to limit bytes goes out frame by frame as its cutting; then it is done, the sender at rest again and the numbers counted on
pub writes : (limit : ℕ) (t : Terms) (s : Sender) (m : List ℕ) → Takes limit s (length m) → s.hold ≡ 0 → s.gap ≡ 0 → s.oldest < 16 → 0 < t.block → t.block < 16
    → written limit t s m ≡ record { frames = cutting m t.block s.oldest; note = Done; sender = resting ((s.oldest + frames_of (length m)) % 16) }
writes limit t s m w h g o low high =
    let start : accepted s (length m) ≡ at (length m) s.oldest 0 0 = rw (h, g, add-zero, mod-eq_of_lt o) in
    rw (offered-takes limit s (length m) w, start) (whole t m s.oldest o w.some low high (frames_of (length m)) Nothing refl)
