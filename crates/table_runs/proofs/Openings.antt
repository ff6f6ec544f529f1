-- What two tables have the same: the lowest place of which something holds; and, where the same is in use in both, the answer to an opening and its place.
--     lowest-same     the lowest place, in tables that are alike but at one place
--     opens-same      what an opening is answered
use Prim.Native.Nat.{ℕ, zero, suc, ◌+◌, ◌≤◌, ◌<◌}
use native.Mathlib.Omega.{arith}
use mathlib.Core.Bool.{Bool, true, false, ◌||◌}
use Rattle.std.specs.Prelude.{Option, Some, None}
use mathlib.Core.Path.{◌≡◌, refl, sym, ◌∙◌, ap}
use mathlib.Core.Logic.{◌≢◌}
use lib.Dec.{leb, eqb}
use borrow.Author.Tests.{leb-false, eqb-true, eqb-false}
use Rattle.std.specs.declared.option.Option.{Option}
use Rattle.std.specs.declared.option.Option.TheVariants.{None, Some}
use Rattle.laws.proofs.Cases.{either}
use Rattle.settings.specs.Settings.{allowed}
use Rattle.settings.specs.declared.Settings.{Settings}
use Rattle.channel.specs.declared.Answer.TheVariants.{Good}
use Rattle.open_end.specs.declared.answers.Answer.TheVariants.{Channel}
use Rattle.open_end.specs.Answers.{told}
use Rattle.connection.specs.declared.Connection.{Connection}
use Rattle.connection.specs.Record.{is_closed}
use Rattle.connection.specs.Calls.{opening}
use Rattle.connection.proofs.Rules.{opening-leaves}
use Rattle.table.specs.declared.Table.{Table}
use Rattle.table.specs.Table.{places, at, lowest_from, lowest, free_of, is_used, uses_either, reserved}
use Rattle.table.specs.Calls.{opens}
use Rattle.table.proofs.Found.{free-closed}
use Rattle.table_runs.specs.Isolation.{Desk, usage, SameInUse}

-- ---- the lowest place of which something holds

-- a place that is not the lowest one, with more behind it
not-here : (P : Connection → Bool) (t : Table) (p n : ℕ) → (lowest_from P t p (suc n) ≡ p → p + suc n ≤ p) → P (at t p) ≡ false
not-here P t p n h = either (P (at t p)) (λ y. absurd (omega (arith, h (rw y)))) (λ e. e)

-- it is the same in two tables that are alike but at x, if it is x in neither
module _ (P : Connection → Bool) (t u : Table) (x : ℕ) (alike : (p : ℕ) → p < places → p ≢ x → P (at t p) ≡ P (at u p)) where
  pub lowest-same : (p n : ℕ) → p + n ≤ places → (lowest_from P t p n ≡ x → p + n ≤ x) → (lowest_from P u p n ≡ x → p + n ≤ x)
      → lowest_from P t p n ≡ lowest_from P u p n
  lowest-same p zero l h k = refl
  lowest-same p (suc n) l h k =
      rw here
      (either (P (at u p)) (λ y. rw y) λ f.
      rw f (lowest-same (p + 1) n (omega arith) (λ e. omega (arith, h (rw (here, f) e))) (λ e. omega (arith, k (rw f e)))))
    where
      here : P (at t p) ≡ P (at u p)
      here =
          either (eqb p x)
          (λ y. let e = eqb-true p x y in not-here P t p n (λ g. omega (arith, h (g ∙ e))) ∙ sym (not-here P u p n (λ g. omega (arith, k (g ∙ e)))))
          (λ f. alike p (omega arith) (eqb-false p x f))

-- ---- what is in use decides an opening

-- a record is closed, by what it uses
unused : Option (ℕ × ℕ) → Bool
unused None = true
unused (Some u) = false

closed-unused : (c : Connection) → is_closed c ≡ unused (usage c)
unfolding unused
closed-unused c = either (is_closed c) (λ y. rw y) (λ f. rw f)

-- it has this unit or this receive ID, by what it uses
used_in : (unit receive : ℕ) → Option (ℕ × ℕ) → Bool
used_in unit receive None = false
used_in unit receive (Some u) = eqb u.0 unit || eqb u.1 receive

uses-used : (unit receive : ℕ) (c : Connection) → uses_either unit receive c ≡ used_in unit receive (usage c)
unfolding uses_either used_in
uses-used unit receive c = either (is_closed c) (λ y. rw y) (λ f. rw f)

-- at the lowest closed place an opening is answered 0
begun : (t : Table) (s : Settings) → allowed s ≡ true → (p : ℕ) → free_of t ≡ p → p < places → (opening (at t p) s).told ≡ told (Channel Good)
begun t s a p e l = ap (λ r. r.told) (opening-leaves (at t p) s (eqb-true _ _ (rw e at (free-closed t (rw e l)))) a)

module _ (d e : Desk) (same : SameInUse d e) where
  -- what is told by the use of a record has the same lowest place in both
  lowest-used : (P : Connection → Bool) (f : Option (ℕ × ℕ) → Bool) → ((c : Connection) → P c ≡ f (usage c)) → lowest P d.table ≡ lowest P e.table
  lowest-used P f by-use =
      lowest-same P d.table e.table places (λ p l n. by-use _ ∙ ap f (same p) ∙ sym (by-use _)) 0 places (omega arith) (λ g. omega arith) (λ g. omega arith)

  -- the place that an opening would take
  free-same : free_of d.table ≡ free_of e.table
  unfolding free_of
  free-same = lowest-used is_closed unused closed-unused

  -- and whether a unit or a receive ID is in use
  used-same : (unit receive : ℕ) → is_used d.table unit receive ≡ is_used e.table unit receive
  unfolding is_used
  used-same unit receive = rw (lowest-used (uses_either unit receive) (used_in unit receive) (uses-used unit receive))

  -- so an opening is answered the same
  pub opens-same : (s : Settings) → ((opens d.table s).told ≡ (opens e.table s).told) × ((opens d.table s).place ≡ (opens e.table s).place)
  unfolding opens
  opens-same s =
      rw (free-same, used-same s.unit s.receive)
      (either (leb places free) (λ y. rw y (refl, refl)) λ r. rw r
      (either (reserved s.receive) (λ y. rw y (refl, refl)) λ f. rw f
      (either (is_used e.table s.unit s.receive) (λ y. rw y (refl, refl)) λ f. rw f
      (either (allowed s) (λ y. rw y (let l = leb-false places free r in (begun d.table s y free free-same l ∙ sym (begun e.table s y free refl l), refl))) λ f.
      rw f (refl, refl)))))
    where
      free : ℕ
      free = free_of e.table
