-- The lowest place of which something holds: it is at most 8, below 8 it holds there, and below that place it holds nowhere.
--     lowest-most, lowest-holds, lowest-misses     of anything
--     lowest-is, lowest-nowhere                    the place at which it holds first, and 8 where it holds at none
--     lowest-named, lowest-used                    as a search over the list of records finds it, of eight
--     named-is, named-none                         what a place's name says
--     got, got-none                                what `get` at a place gives
--     owner-hears, owner-first                     of the place that owns an ID
--     free-most, free-closed, free-first           of the lowest closed place
--     used-at, unused-at                           what is in use is so at some place, and what is not is so at none
use Prim.Native.Nat.{ℕ, zero, suc, ◌+◌, ◌≤◌, ◌<◌, zero-le}
use native.Mathlib.Omega.{arith}
use mathlib.Core.Bool.{Bool, true, false, true≢false}
use mathlib.Core.Path.{◌≡◌, sym, ◌∙◌}
use lib.Dec.{leb, ltb}
use lib.ListN.{length}
use denote.Ref.{Bor}
use mathlib.Core.Path.{ap}
use mathlib.Core.Bool.{cond}
use borrow.Author.Tests.{ltb-true, ltb-false, le-leb, lt-leb}
use Rattle.std.specs.Prelude.{Option, Some, None}
use Rattle.std.specs.List.{position_or_len, list_any}
use Rattle.std.specs.Slice.{IsItemAt}
use Rattle.std.proofs.lemmas.List.{get_or_default}
use Rattle.std.proofs.lemmas.List.Sums.{position_or_len_is}
use Rattle.std.proofs.lemmas.List.Folds.{list_any_at, list_any_none}
use Rattle.laws.proofs.Cases.{by, by-eq, by-lt, by_le, either}
use Rattle.connection.specs.declared.Connection.{Connection}
use Rattle.connection.specs.Record.{is_closed, hears}
use Rattle.table.specs.declared.Table.{Table}
use Rattle.table.specs.Table.{places, no_record, at, named, lowest_from, lowest, owner_of, free_of, uses_either, is_used}

some_not_none : {p : ℕ} → Some p ≡ None → ⊥
some_not_none e = let z : ◌≡◌ {A = ℕ} 0 1 = cc in omega arith

module _ (P : Connection → Bool) (t : Table) where
  -- from a place on, of so many
  most-from : (p n : ℕ) → lowest_from P t p n ≤ p + n
  most-from p zero = omega arith
  most-from p (suc n) = by (λ (q : ℕ). q ≤ p + suc n) (P (at t p)) (λ _. omega arith) (λ _. omega (arith, most-from (p + 1) n))

  holds-from : (p n : ℕ) → lowest_from P t p n < p + n → P (at t (lowest_from P t p n)) ≡ true
  holds-from p zero = λ h. absurd (omega arith)
  holds-from p (suc n) = by (λ (q : ℕ). q < p + suc n → P (at t q) ≡ true) (P (at t p)) (λ e _. e) (λ _ h. holds-from (p + 1) n (omega arith))

  misses-from : (p n q : ℕ) → p ≤ q → q < lowest_from P t p n → P (at t q) ≡ false
  misses-from p zero q low = λ h. absurd (omega arith)
  misses-from p (suc n) q low =
      by (λ (r : ℕ). q < r → P (at t q) ≡ false) (P (at t p)) (λ _ h. absurd (omega arith)) λ e h.
      by-eq (λ (_ : ℕ). P (at t q) ≡ false) q p {x = 0} {y = 0} (λ same. rw same e) (λ other. misses-from (p + 1) n q (omega arith) h)

  -- of all places
  pub lowest-most : lowest P t ≤ places
  lowest-most = most-from 0 places

  pub lowest-holds : lowest P t < places → P (at t (lowest P t)) ≡ true
  lowest-holds = holds-from 0 places

  pub lowest-misses : (q : ℕ) → q < lowest P t → P (at t q) ≡ false
  lowest-misses q = misses-from 0 places q zero-le

  -- it holds at a place and at none below it
  is-from : (l p : ℕ) → (l < places → P (at t l) ≡ true) → ((q : ℕ) → q < l → P (at t q) ≡ false) → p < places → P (at t p) ≡ true
      → ((q : ℕ) → q < p → P (at t q) ≡ false) → l ≡ p
  is-from l p holds misses h here below =
      by-lt (λ (_ : ℕ). l ≡ p) l p {x = 0} {y = 0}
      (λ less. absurd (true≢false (sym (holds (omega arith)) ∙ below l less)))
      (λ more. by-lt (λ (_ : ℕ). l ≡ p) p l {x = 0} {y = 0} (λ less. absurd (true≢false (sym here ∙ misses p less))) (λ less. omega arith))

  pub lowest-is : (p : ℕ) → p < places → P (at t p) ≡ true → ((q : ℕ) → q < p → P (at t q) ≡ false) → lowest P t ≡ p
  lowest-is p = is-from (lowest P t) p lowest-holds lowest-misses

  -- it holds at none
  nowhere-from : (l : ℕ) → l ≤ places → (l < places → P (at t l) ≡ true) → ((q : ℕ) → q < places → P (at t q) ≡ false) → l ≡ places
  nowhere-from l most holds none =
      by-lt (λ (_ : ℕ). l ≡ places) l places {x = 0} {y = 0} (λ less. absurd (true≢false (sym (holds less) ∙ none l less))) (λ more. omega arith)

  pub lowest-nowhere : ((q : ℕ) → q < places → P (at t q) ≡ false) → lowest P t ≡ places
  lowest-nowhere = nowhere-from (lowest P t) lowest-most lowest-holds

  module _ (eight : length t.places ≡ places) where
    first-is : position_or_len P t.places ≡ lowest P t
    first-is = position_or_len_is P t.places (lowest P t) no_record (omega (arith, lowest-most)) lowest-misses (λ h. lowest-holds (omega arith))

    -- the search over the list of records
    pub lowest-named : cond (ltb (position_or_len P t.places) (length t.places)) (Some (position_or_len P t.places)) None ≡ named (lowest P t)
    lowest-named = rw (first-is, eight) (two-ways (lowest P t))
      where
        two-ways : (l : ℕ) → cond (ltb l 8) (Some l) None ≡ named l
        two-ways l = by-lt (λ (r : Option ℕ). r ≡ named l) l 8 (λ less. rw (lt-leb 8 l less)) (λ out. rw (le-leb 8 l out))

    -- whether it finds one
    pub lowest-used : list_any P t.places ≡ ltb (lowest P t) places
    lowest-used = either (ltb (lowest P t) places)
        (λ e. let some = ltb-true (lowest P t) places e in list_any_at P t.places (lowest P t) no_record (omega arith) (lowest-holds some) ∙ sym e)
        (λ e. let none = ltb-false (lowest P t) places e in
        list_any_none P t.places (λ k d h. ap P (get_or_default t.places k d no_record h) ∙ lowest-misses k (omega arith)) ∙ sym e)

-- a name is that of a place, the number that it was made of, and no name is that of none
pub named-is : (n p : ℕ) → Some p ≡ named n → (leb places n ≡ false) × (p ≡ n)
named-is n p = by_le (λ (r : Option ℕ). Some p ≡ r → (leb places n ≡ false) × (p ≡ n)) places n (λ _ e. absurd (some_not_none e)) (λ h e. (lt-leb places n h, cc))

pub named-none : (n : ℕ) → None ≡ named n → leb places n ≡ true
named-none n = by_le (λ (r : Option ℕ). None ≡ r → leb places n ≡ true) places n (λ h _. le-leb places n h) (λ _ e. absurd (some_not_none (sym e)))

-- what `get` at a place gives: its record, and none past the last place
module _ (t : Table) (p : ℕ) (eight : length t.places ≡ places) where
  pub got : (r : Bor Connection) → IsItemAt t.places p (Some r) → (leb places p ≡ false) × (r.now ≡ at t p)
  got r h = (lt-leb places p (omega (arith, h.3.0)), h.4 (omega arith) no_record)

  pub got-none : IsItemAt t.places p None → leb places p ≡ true
  got-none h = le-leb places p (omega (arith, h.3))

module _ (t : Table) where
  -- the place that owns an ID hears it, and no lower place does
  pub owner-hears : (id : ℕ) → owner_of t id < places → hears (at t (owner_of t id)) id ≡ true
  unfolding owner_of
  owner-hears id = lowest-holds (λ c. hears c id) t

  pub owner-first : (id q : ℕ) → q < owner_of t id → hears (at t q) id ≡ false
  unfolding owner_of
  owner-first id = lowest-misses (λ c. hears c id) t

  -- the lowest closed place is closed, and no lower place is
  pub free-most : free_of t ≤ places
  unfolding free_of
  free-most = lowest-most is_closed t

  pub free-closed : free_of t < places → is_closed (at t (free_of t)) ≡ true
  unfolding free_of
  free-closed = lowest-holds is_closed t

  pub free-first : (q : ℕ) → q < free_of t → is_closed (at t q) ≡ false
  unfolding free_of
  free-first = lowest-misses is_closed t

  -- a unit or a receive ID that is in use is in use at some place
  pub used-at : (unit receive : ℕ) → is_used t unit receive ≡ true → (p : ℕ) × (p < places) × (uses_either unit receive (at t p) ≡ true)
  unfolding is_used
  used-at unit receive e =
      let some = ltb-true (lowest (uses_either unit receive) t) places e in
      (lowest (uses_either unit receive) t, some, lowest-holds (uses_either unit receive) t some)

  -- a unit and a receive ID that are not in use are not in use at a place
  pub unused-at : (unit receive p : ℕ) → is_used t unit receive ≡ false → p < places → uses_either unit receive (at t p) ≡ false
  unfolding is_used
  unused-at unit receive p e h = let none = ltb-false (lowest (uses_either unit receive) t) places e in lowest-misses (uses_either unit receive) t p (omega arith)
