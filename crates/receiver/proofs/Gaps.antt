-- Frames out of place: after a gap, or repeated.
use Prim.Native.Nat.{ℕ, zero, suc}
use native.Mathlib.Omega.{arith}
use mathlib.Core.Bool.{Bool, true, false, not}
use mathlib.Core.Path.{◌≡◌, refl, ◌∙◌}
use mathlib.Core.List.{List, [], ◌∷◌}
use lib.Dec.{ltb, eqb}
use borrow.Author.Tests.{lt-ltb, ne_eqb}
use Rattle.telegram.specs.Cutting.{none}
use Rattle.receiver.specs.Receiving.{idle, no_ack, waiting, following, kept, filled, on_first, on_data, is_used}
use Rattle.receiver.specs.declared.Receiver.{Receiver}
use Rattle.receiver.specs.declared.Receipt.TheVariants.{Complete, OutOfPlace}
use Rattle.receiver.specs.declared.Received.{Received}
use Rattle.receiver.proofs.Outcomes.{Outcome, out-of-place, untaken, thrown-away, in-order, outcome}
use Rattle.receiver.proofs.Laws.{settled-leaves}

-- the seam where numbers begin again: 15 comes before 0, and 0 before 1, so each is out of place there

abbrev expecting : ℕ → Receiver
expecting number = record { at = idle number; back = idle number; complete = none; ack = no_ack }

pub fifteen-before-zero : (on_data 1024 (expecting 0) true true 15 (0 ∷ 1 ∷ 7 ∷ []) 1024).note ≡ OutOfPlace 0
unfolding on_data
fifteen-before-zero = refl

pub zero-before-one : (on_data 1024 (expecting 1) true true 0 (0 ∷ 1 ∷ 7 ∷ []) 1024).note ≡ OutOfPlace 1
unfolding on_data
zero-before-one = refl

pub zero-after-fifteen : (on_data 1024 (expecting 0) true true 0 (0 ∷ 1 ∷ 7 ∷ []) 1024).note ≡ Complete
unfolding on_data on_first filled
zero-after-fifteen = refl

-- no message waits if its length is 0, and only then
pub none-ready : (r : Receiver) → not (waiting r) ≡ eqb r.complete.length 0
none-ready r = go r.complete.length
  where
    go : (n : ℕ) → not (ltb 0 n) ≡ eqb n 0
    go zero = refl
    go (suc n) = rw (lt-ltb 0 (suc n) (omega arith), ne_eqb (suc n) 0 (λ e. omega arith))

-- a frame that was not used: all is as before, but an Ack is due with the number still expected
pub record Unused (r : Receiver) (x : Received) : Type 0 where
  pub note : is_used x.note ≡ false
  pub at : x.receiver.at ≡ r.at
  pub complete : x.receiver.complete ≡ r.complete
  pub ack : x.receiver.ack ≡ record { due = true; ready = eqb r.complete.length 0; number = r.at.expected }

-- a frame with another number than the expected one changes nothing, except an asked-for Ack
pub gap-kept : (limit : ℕ) (r : Receiver) (asks last : Bool) (number : ℕ) (p : List ℕ) (room : ℕ)
    → (number ≡ r.at.expected → ⊥) → on_data limit r asks last number p room ≡ record { note = OutOfPlace r.at.expected; receiver = kept r asks }
gap-kept limit r asks last number p room n = go (outcome limit r asks last number p room)
  where
    go : {x : Received} → Outcome limit r asks last number p room x → x ≡ record { note = OutOfPlace r.at.expected; receiver = kept r asks }
    go (out-of-place _) = refl
    go (untaken e w) = absurd (n e)
    go (thrown-away e w t) = absurd (n e)
    go (in-order o j) = absurd (n o.expected)

module _ (limit : ℕ) (r : Receiver) (last : Bool) (number : ℕ) (p : List ℕ) (room : ℕ) where
  -- after a gap the Ack carries the number expected, not the frame's own + 1
  pub gap-acknowledged : (number ≡ r.at.expected → ⊥) → Unused r (on_data limit r true last number p room)
  gap-acknowledged n =
      let l = settled-leaves r true false r.at r.complete in
      rw (gap-kept limit r true last number p room n) (record { note = refl; at = l.at; complete = l.complete; ack = l.ack ∙ rw (none-ready r) })

  -- a repeated last frame, one behind the expected number, is acknowledged again and not used, whatever the state
  pub repeat-acknowledged : following number ≡ r.at.expected → Unused r (on_data limit r true last number p room)
  repeat-acknowledged e = gap-acknowledged (λ same. omega arith)
