use Prim.Native.Nat.{ℕ, ◌+◌, ◌-◌, ◌≤◌}
use native.Mathlib.Omega.{arith}
use mathlib.Core.Bool.{Bool, true, false, not}
use mathlib.Core.Path.{◌≡◌, ap, sym, ◌∙◌}
use mathlib.Core.List.{List}
use lib.ListN.{length, take, drop, length-take, length-drop}
use lib.Seq.{take_all}
use borrow.Author.Rules.{rules}
use borrow.Author.Tests.{eq-eqb, ne_eqb, not-true, not-false}
use Rattle.telegram.specs.Cutting.{longest}
use Rattle.telegram.specs.declared.kinds.Telegram.{Telegram}
use Rattle.receiver.specs.Receiving.{first, pasted, copied, is_used, received, buffered}
use Rattle.receiver.specs.declared.Receiver.{Receiver}
use Rattle.receiver.specs.declared.Receipt.{Receipt}
use Rattle.receiver.specs.declared.Received.{Received}
use Rattle.receiver.proofs.Laws.{used-fits, buffered-unused}
use Rattle.receiver.proofs.Receiver.receive.Goals as goal

-- a telegram as it was judged, and the flag that says whether its frame is used
module _ (r : Receiver) (k : Telegram) (p b : List ℕ) {x : Received} {u : Bool} (e : x ≡ received longest r k p (length b)) (i : u ≡ is_used x.note) where
  abbrev note : Receipt
  note = (received longest r k p (length b)).note

  flag_is : is_used note ≡ u
  flag_is = ap (λ (y : Received). is_used y.note) (sym e) ∙ sym i

  unused : not u ≡ true → b ≡ buffered r note p b
  unused h = sym (buffered-unused r note p b (flag_is ∙ not-true u h))

  module _ (is : not u ≡ false) where
    used : is_used note ≡ true
    used = flag_is ∙ not-false u is

    -- a first frame: its two length bytes are left out
    module _ (z : r.at.begun.length ≡ 0) where
      at_first : first r ≡ true
      at_first = eq-eqb _ _ z

      two-first : 2 ≤ length p
      two-first = (rw at_first at (used-fits longest r k p (length b) used)).0

      first_fits : 0 + length (take (length p - 2) (drop 2 p)) ≤ length b
      first_fits = let h = rw at_first at (used-fits longest r k p (length b) used) in simp (length-take, length-drop) (omega arith)

      first-buffer : (after : List ℕ) → after ≡ pasted b 0 (take (length p - 2) (drop 2 p)) → after ≡ buffered r note p b
      unfolding buffered copied
      first-buffer after h =
          let all : length (drop 2 p) ≤ length p - 2 = simp length-drop (omega arith) in
          rw (h, used, at_first, take_all (length p - 2) (drop 2 p) all)

    -- a later frame
    module _ (nz : r.at.begun.length ≡ 0 → ⊥) where
      at-later : first r ≡ false
      at-later = ne_eqb _ _ nz

      later-fits : r.at.fill + length p ≤ length b
      later-fits = rw at-later at (used-fits longest r k p (length b) used)

      later-buffer : (after : List ℕ) → after ≡ pasted b r.at.fill p → after ≡ buffered r note p b
      unfolding buffered copied
      later-buffer after h = rw (h, used, at-later)

pub returns-then-not-is_used : goal.returns-then-not-is_used
returns-then-not-is_used c = record { value = search rules; buffer_after = search unused }

pub slice_bounds-paste-count : goal.slice_bounds-paste-count
slice_bounds-paste-count c = search two-first

pub slice_bounds-paste-start : goal.slice_bounds-paste-start
slice_bounds-paste-start c = search two-first

pub paste-requires : goal.paste-requires
paste-requires c = search first_fits

pub returns-then-begun-eq0 : goal.returns-then-begun-eq0
returns-then-begun-eq0 c = record { value = search rules; buffer_after = search first-buffer }

pub paste-requires-2 : goal.paste-requires-2
paste-requires-2 c = search later-fits

pub returns : goal.returns
returns c = record { value = search rules; buffer_after = search later-buffer }
