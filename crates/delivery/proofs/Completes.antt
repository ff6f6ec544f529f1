-- The messages complete at an end: those handed out and the one that waits, after an arrival too.
use Prim.Native.Nat.{ℕ}
use native.Mathlib.Omega.{arith}
use mathlib.Core.Bool.{Bool, true, false, true≢false}
use mathlib.Core.List.{List, [], ◌∷◌, ◌++◌, append-nil}
use mathlib.Core.Path.{◌≡◌, refl, sym, ap, ◌∙◌}
use lib.ListN.{length}
use borrow.Author.Tests.{ltb-true}
use Rattle.laws.proofs.Cases.{either}
use Rattle.receiver.specs.Receiving.{waiting, took, on_data, is_used, buffered}
use Rattle.receiver.specs.declared.Receiver.{Receiver}
use Rattle.receiver.specs.declared.Received.{Received}
use Rattle.receiver.specs.declared.Took.{Took}
use Rattle.receiver.proofs.Outcomes.{Outcome, out-of-place, untaken, thrown-away, in-order, outcome, TakeOutcome, none-complete, short-buffer, shows, take-outcome}
use Rattle.receiver.proofs.Laws.{settled-leaves, buffered-unused}
use Rattle.delivery.specs.System.{ShownMessage, shown_of, newly}
use Rattle.delivery.proofs.Core.{shown_by}
use Rattle.delivery.proofs.Directions.{held_in, Room}

-- what a take shows of a receiver
abbrev pub shown_in : Receiver → List ℕ → List ShownMessage
shown_in r b = shown_by (took r (length b)).message (shown_of r.complete b)

-- with room for it that is what waits
pub shown-held : (r : Receiver) (b : List ℕ) → Room r b → shown_in r b ≡ held_in r b
shown-held r b room = go (take-outcome r (length b))
  where
    go : {t : Took} → TakeOutcome r (length b) t → shown_by t.message (shown_of r.complete b) ≡ held_in r b
    go (none-complete w) = rw w
    go (short-buffer w short) = let fits = room (ltb-true 0 r.complete.length w) in absurd (omega arith)
    go (shows w fits) = rw w

pub newly-same : (l : List ShownMessage) → newly l l ≡ []
newly-same [] = refl
newly-same (m ∷ ms) = refl

pub newly-none : (l : List ShownMessage) → newly l [] ≡ []
newly-none [] = refl
newly-none (m ∷ ms) = refl

-- while a message waits data changes neither it nor the buffer
record Keeps (r : Receiver) (x : Received) : Type 0 where
  complete : x.receiver.complete ≡ r.complete
  unused : is_used x.note ≡ false

waits_kept : (limit : ℕ) (r : Receiver) (asks last : Bool) (number : ℕ) (p : List ℕ) (room : ℕ) → waiting r ≡ true
    → Keeps r (on_data limit r asks last number p room)
waits_kept limit r asks last number p room w = go (outcome limit r asks last number p room)
  where
    go : {x : Received} → Outcome limit r asks last number p room x → Keeps r x
    go (out-of-place n) = record { complete = (settled-leaves r asks false r.at r.complete).complete; unused = refl }
    go (untaken e w') = record { complete = (settled-leaves r asks false r.at r.complete).complete; unused = refl }
    go (thrown-away e n t) = absurd (true≢false (sym w ∙ n))
    go (in-order o j) = absurd (true≢false (sym w ∙ o.none-waits))

-- data that arrives: what it completes is what waits after it
module _ (limit : ℕ) (r : Receiver) (asks last : Bool) (number : ℕ) (p b : List ℕ) (complete handed_out : List ShownMessage) where
  abbrev after : Received
  after = on_data limit r asks last number p (length b)

  pub data-counts : Room r b → Room after.receiver (buffered r after.note p b) → complete ≡ handed_out ++ held_in r b
      → complete ++ newly (shown_in r b) (shown_in after.receiver (buffered r after.note p b)) ≡ handed_out ++ held_in after.receiver (buffered r after.note p b)
  data-counts fits fits' c =
      rw (shown-held r b fits, shown-held after.receiver (buffered r after.note p b) fits') (either (waiting r) waits none)
    where
      goal : Type 0
      goal = complete ++ newly (held_in r b) (held_in after.receiver (buffered r after.note p b)) ≡ handed_out ++ held_in after.receiver (buffered r after.note p b)

      waits : waiting r ≡ true → goal
      waits w =
          let e = waits_kept limit r asks last number p (length b) w in
          let same : held_in after.receiver (buffered r after.note p b) ≡ held_in r b = rw (e.complete, buffered-unused r after.note p b e.unused) in
          rw same (ap (λ (l : List ShownMessage). complete ++ l) (newly-same (held_in r b)) ∙ append-nil complete ∙ c)

      none : waiting r ≡ false → goal
      none w = rw (c, w, append-nil handed_out)
