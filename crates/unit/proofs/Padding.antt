-- "Padding alters nothing else": ID by ID and phase by phase.
use Prim.Native.Nat.{ℕ, ◌≤◌}
use native.Mathlib.Omega.{arith}
use mathlib.Core.Bool.{Bool, true, false}
use mathlib.Core.List.{List, ◌++◌}
use mathlib.Core.Logic.{◌≢◌}
use mathlib.Core.Path.{◌≡◌, refl}
use lib.Dec.{eqb}
use lib.ListN.{length}
use borrow.Author.Tests.{eqb-false, ne_eqb, ltb-true, ltb-false}
use Rattle.laws.proofs.Cases.{either}
use Rattle.telegram.specs.Kinds.{sorted}
use Rattle.telegram.specs.Forms.{Fillable, ack, test, break, disconnect, accept}
use Rattle.telegram.specs.declared.kinds.Sorted.{Sorted}
use Rattle.telegram.specs.declared.kinds.Telegram.{Telegram}
use Rattle.telegram.proofs.Forms.{own-sorted, filled-sorted}
use Rattle.opening.specs.Opening.{request_id, request_read, NoRequest}
use Rattle.channel.specs.declared.Answer.TheVariants.{Malformed, NotDue}
use Rattle.open_end.specs.declared.answers.Answer.TheVariants.{Channel, OtherId}
use Rattle.open_end.specs.Answers.{told}
use Rattle.open_end.specs.OpenEnd.{course_of}
use Rattle.open_end.specs.Padding.{AltersNothing}
use Rattle.open_end.proofs.Padding.{Passes, no_seven, unsorted-alters, sorted-alters, open-alters}
use Rattle.unit.specs.declared.ControlUnit.{ControlUnit}
use Rattle.unit.specs.Record.{is_closed, is_open}
use Rattle.unit.specs.Calls.{on_request, on_opening, settled, at_end, arrived, buffered}
use Rattle.unit.specs.Padding.{comes_to, PaddingAltersNothing}
use Rattle.unit.proofs.Open.{NotSetup, at-the-end}

-- a C0 has seven bytes
no-request : (s : List ℕ) → length s ≢ 7 → request_read s ≡ NoRequest
unfolding request_read
no-request s other = rw (ne_eqb (length s) 7 other)

-- before the A1's hand-over the number of its answer is neither 1 nor 3
opening-passes : {own : List ℕ} {t : Telegram} (c : ControlUnit) → Fillable own t → Passes (on_opening c t).told.said.number
unfolding on_opening
opening-passes c (ack ready n h) = refl
opening-passes c test = refl
opening-passes c break = refl
opening-passes c disconnect = refl
opening-passes c (accept p t2 t4) = refl

-- it is no A0
no-setup : {own : List ℕ} {t : Telegram} {p : Bool} (x : Sorted) → Fillable own t → x ≡ record { kind = t; padded = p } → NotSetup x.kind
no-setup x (ack ready n h) e = rw e tt
no-setup x test e = rw e tt
no-setup x break e = rw e tt
no-setup x disconnect e = rw e tt
no-setup x (accept p t2 t4) e = rw e tt

module _ (limit : ℕ) (c : ControlUnit) (id : ℕ) (buffer own content : List ℕ) (t : Telegram) (k : Fillable own t) (l : length (own ++ content) ≡ 8) where
  abbrev Alters : Type 0
  Alters = AltersNothing ((id ≢ 0x200) × (3 ≤ c.phase)) (comes_to limit c id buffer own) (comes_to limit c id buffer (own ++ content))

  request-alters : eqb id request_id ≡ true → Alters
  unfolding arrived buffered on_request
  request-alters asked =
      let none = no-request own (no_seven k) in
      let none' = no-request (own ++ content) (λ e. omega arith) in
      unsorted-alters (told (Channel Malformed)) c buffer (rw (asked, none)) (rw (asked, none')) (λ m. m.formed refl)

  module _ (apart : eqb id request_id ≡ false) where
    closed-alters : is_closed c ≡ true → Alters
    unfolding arrived buffered
    closed-alters closed =
        unsorted-alters (told (Channel NotDue)) c buffer (rw (apart, closed)) (rw (apart, closed))
        (λ m. let h = m.stands.1 in let z = ltb-true c.phase 3 closed in omega arith)

    module _ (closed : is_closed c ≡ false) where
      other-alters : eqb id c.settings.receive ≡ false → Alters
      unfolding arrived buffered
      other-alters other = unsorted-alters (told OtherId) c buffer (rw (apart, closed, other)) (rw (apart, closed, other)) (λ m. m.heard refl)

      module _ (heard : eqb id c.settings.receive ≡ true) where
        stands : (id ≢ 0x200) × (3 ≤ c.phase)
        stands = (eqb-false id request_id apart, ltb-false c.phase 3 closed)

        opening-alters : is_open c ≡ false → Alters
        unfolding arrived buffered
        opening-alters before =
            sorted-alters k content l stands (λ u. (on_opening c u).told) (λ u. (on_opening c u).left) buffer
            (rw (apart, closed, heard, before)) (rw (apart, closed, heard, before)) (opening-passes c k)

        end-alters : is_open c ≡ true → Alters
        unfolding arrived buffered at_end
        end-alters open' =
            let taken = at-the-end limit c (sorted own).kind own (length buffer) (no-setup (sorted own) k (own-sorted k)) in
            let taken' = at-the-end limit c (sorted (own ++ content)).kind (own ++ content) (length buffer) (no-setup (sorted (own ++ content)) k (filled-sorted k content l)) in
            open-alters k content l stands limit c.end (λ r. settled c (course_of r.answer) r.end) buffer
            (rw (apart, closed, heard, open', taken)) (rw (apart, closed, heard, open', taken'))

pub padding-alters-nothing : PaddingAltersNothing
padding-alters-nothing limit c id buffer own content t k l =
    either (eqb id request_id) (request-alters limit c id buffer own content t k l) λ apart.
    either (is_closed c) (closed-alters limit c id buffer own content t k l apart) λ closed.
    either (eqb id c.settings.receive)
    (λ heard. either (is_open c) (end-alters limit c id buffer own content t k l apart closed heard) (opening-alters limit c id buffer own content t k l apart closed heard))
    (other-alters limit c id buffer own content t k l apart closed)
