-- The class of each frame, by its bytes and the channel's fields.
--     not-open, elsewhere          "frames not after the A1 opening the channel, or after its A8, are other IDs", and so are those on any other ID
--     a8-class .. a1-class         "control all others but data": the A8 that ends the channel too
--     formless-class .. one-byte   "Refused are badly formed telegrams"
--     data-class                   data, by what the receiving rules of 01 make of it; "and answer 7" is refused
use Rattle.std.specs.Prelude.{if◌then◌else◌}
use Prim.Native.Nat.{ℕ, ◌+◌, ◌≤◌, ◌<◌}
use mathlib.Core.Bool.{Bool}
use mathlib.Core.List.{List, [], ◌∷◌}
use mathlib.Core.Logic.{◌≢◌}
use mathlib.Core.Path.{◌≡◌, refl, ap, ◌∙◌}
use lib.ListN.{length}
use borrow.Author.Tests.{eq-eqb, ne_eqb}
use Rattle.laws.proofs.Cases.{by-lt}
use Rattle.telegram.specs.Forms.{first_byte, Filled, Formed}
use Rattle.telegram.specs.declared.kinds.Sorted.{Sorted}
use Rattle.receiver.specs.Receiving.{received}
use Rattle.receiver.specs.declared.Receipt.{Receipt}
use Rattle.receiver.specs.declared.Receipt.TheVariants.{Used as IsUsed, Complete, ThrownAway as IsThrownAway, OutOfPlace as IsOutOfPlace, Untaken, ShortFirst, ShortLater, Broken as IsBroken, NoData}
use Rattle.receiver.proofs.Given.{Given, given-note}
use Rattle.telegram.specs.declared.kinds.Telegram.TheVariants.{Data}
use Rattle.follow.specs.Following.{receiver_of, fate_of, first_after, on_data, on_open, heard}
use Rattle.follow.specs.declared.Follow.{Follow}
use Rattle.follow.specs.declared.Heard.{Heard}
use Rattle.follow.specs.declared.Side.{Side}
use Rattle.follow.proofs.Views.{room_of}
use Rattle.follow.proofs.Rules.{On, from, a8-ends, break-returns, ack-controls, test-controls, a0-controls, a1-controls, formless-is-badly-formed, empty-is-badly-formed, one-byte-is-badly-formed, data-heard}
use Rattle.summary.specs.declared.Class.{Class}
use Rattle.summary.specs.declared.Class.TheVariants.{Used, OutOfPlace, Broken, ThrownAway, Refused, Control, OtherIds}
use Rattle.summary.specs.Classes.{class_of}

-- the class of a frame that is heard
abbrev pub classed : Heard → Class
classed h = class_of h.fate

-- whatever comes before the A1, with it, and behind the A8
pub not-open : (limit : ℕ) (f : Follow) → f.stage ≢ 4 → (line id : ℕ) (s : List ℕ) (tester unit : ℕ) → classed (heard limit f line id s tester unit) ≡ OtherIds
unfolding heard
not-open limit f shut line id s tester unit = rw (ne_eqb f.stage 4 shut) (by-lt (λ (h : Heard). classed h ≡ OtherIds) 4 f.stage (λ l. refl) (λ l. refl))

-- whatever comes on another ID than the two
pub elsewhere : (limit : ℕ) (f : Follow) (line id : ℕ) → id ≢ f.transmit → id ≢ f.receive → (s : List ℕ) (tester unit : ℕ) → f.stage ≡ 4 → classed (heard limit f line id s tester unit) ≡ OtherIds
unfolding heard on_open
elsewhere limit f line id neither nor s tester unit is = rw (eq-eqb f.stage 4 is, ne_eqb id f.transmit neither, ne_eqb id f.receive nor)

-- a frame of one of the two sides, while the channel is open
module _ (limit : ℕ) (f : Follow) (is : f.stage ≡ 4) (side : Side) (line id : ℕ) (on : On side f id) (s : List ℕ) (tester unit : ℕ) where
  abbrev class : Class
  class = classed (heard limit f line id s tester unit)

  -- ---- control

  pub a8-class : (padded : Bool) → Filled s (0xA8 ∷ []) padded → class ≡ Control
  a8-class padded c = ap classed (a8-ends limit f is side line id on s tester unit padded c)

  pub break-class : (padded : Bool) → Filled s (0xA4 ∷ []) padded → class ≡ Control
  break-class padded c = ap classed (break-returns limit f is side line id on s tester unit padded c)

  pub ack-class : (padded ready : Bool) (n : ℕ) → n < 16 → Filled s (((if ready then 0xB0 else 0x90) + n) ∷ []) padded → class ≡ Control
  ack-class padded ready n h c = ap classed (ack-controls limit f is side line id on s tester unit padded ready n h c)

  pub test-class : (padded : Bool) → Filled s (0xA3 ∷ []) padded → class ≡ Control
  test-class padded c = ap classed (test-controls limit f is side line id on s tester unit padded c)

  pub a0-class : (block t1 t2 t3 t4 : ℕ) → s ≡ 0xA0 ∷ block ∷ t1 ∷ t2 ∷ t3 ∷ t4 ∷ [] → class ≡ Control
  a0-class block t1 t2 t3 t4 e = ap classed (a0-controls limit f is side line id on s tester unit block t1 t2 t3 t4 e)

  pub a1-class : (padded : Bool) (block t1 t2 t3 t4 : ℕ) → Filled s (0xA1 ∷ block ∷ t1 ∷ t2 ∷ t3 ∷ t4 ∷ []) padded → class ≡ Control
  a1-class padded block t1 t2 t3 t4 c = ap classed (a1-controls limit f is side line id on s tester unit padded block t1 t2 t3 t4 c)

  -- ---- badly formed

  pub formless-class : ((x : Sorted) → Formed s x → ⊥) → class ≡ Refused
  formless-class none = ap classed (formless-is-badly-formed limit f is side line id on s tester unit none)

  pub empty-class : s ≡ [] → class ≡ Refused
  empty-class e = ap classed (empty-is-badly-formed limit f is side line id on s tester unit e)

  pub one-byte-class : (b : ℕ) → b < 0x40 → s ≡ b ∷ [] → class ≡ Refused
  one-byte-class b h e = ap classed (one-byte-is-badly-formed limit f is side line id on s tester unit b h e)

  -- ---- data

  -- the class that goes with each outcome of the receiving rules
  abbrev pub of_data : Receipt → Class
  of_data IsUsed = Used
  of_data Complete = Used
  of_data (IsOutOfPlace e) = OutOfPlace
  of_data (IsBroken c) = Broken
  of_data IsThrownAway = ThrownAway
  of_data ShortFirst = Refused
  of_data ShortLater = Refused
  of_data Untaken = Refused
  of_data NoData = Control

  data-fate : (side : Side) (asks last : Bool) (number : ℕ) (p : List ℕ) (x : Receipt) → (received limit (receiver_of (from side f)) (Data asks last number) p (room_of side tester unit)).note ≡ x
      → class_of (on_data limit side (from side f) asks last number line p (room_of side tester unit)).fate ≡ of_data x
  unfolding on_data
  data-fate side asks last number p x e = rw e (go x)
    where
      go : (x : Receipt) → class_of (fate_of side (received limit (receiver_of (from side f)) (Data asks last number) p (room_of side tester unit)).receiver.complete (first_after (from side f) line x) x) ≡ of_data x
      go IsUsed = refl
      go Complete = refl
      go IsThrownAway = refl
      go (IsOutOfPlace e) = refl
      go Untaken = refl
      go ShortFirst = refl
      go ShortLater = refl
      go (IsBroken c) = refl
      go NoData = refl

  pub data-class : (asks last : Bool) (number : ℕ) (p : List ℕ) → s ≡ first_byte asks last number ∷ p → number < 16 → 1 ≤ length p → length p ≤ 7
      → (x : Receipt) → Given limit (receiver_of (from side f)) last number p (room_of side tester unit) x → class ≡ of_data x
  unfolding received
  data-class asks last number p e small some few x g =
      let room = room_of side tester unit in
      let t = on_data limit side (from side f) asks last number line p room in
      ap classed (data-heard limit f is side line id on s tester unit asks last number p e small some few t refl)
      ∙ data-fate side asks last number p x (given-note limit (receiver_of (from side f)) asks last number p room g)
