-- What holds of a call that says and leaves what its table tells.
--     given    it says a number exactly where the table gives it
--     says     it says a number exactly where the table gives it, and leaves what every row of that number leaves
--     every    what holds of every row, holds of it
--     every_held    so does what holds of every row whose condition holds
use Rattle.laws.specs.If.{when◌then◌else◌}
use Prim.Native.Nat.{ℕ}
use mathlib.Core.Bool.{true, false, true≢false, false≢true}
use mathlib.Core.Logic.{◌↔◌, ◌⊎◌, inl, inr, ⊎_elim}
use mathlib.Core.Path.{◌≡◌, refl, sym, ◌∙◌, subst}
use lib.Dec.{eqb}
use borrow.Author.Tests.{eq-eqb, eqb-false}
use Rattle.laws.proofs.Cases.{by, either}
use Rattle.open_end.specs.declared.answers.Said.{Said}
use Rattle.open_rows.specs.Tables.{Row, Table, always, ◌or_else◌, told_by, Given, Says}

module _ {A : Type 0} where
  -- a table whose first row holds, and one whose first row does not
  told-first : (r : Row A) (t : Table A) → r.holds ≡ true → told_by (r or_else t) ≡ (r.says, r.leaves)
  told-first r t e = rw e

  told-rest : (r : Row A) (t : Table A) → r.holds ≡ false → told_by (r or_else t) ≡ told_by t
  told-rest r t e = rw e

  table-given : (n : ℕ) (t : Table A) → ((told_by t).0.number ≡ n) ↔ Given n (told_by t).1 t
  table-given n (always s x) = (λ e. (e, refl), λ g. g.0)
  table-given n (r or_else t) =
      let rest = table-given n t in
      let Goal = λ (x : Said × A). (x.0.number ≡ n) ↔ (((r.holds ≡ true) × (r.says.number ≡ n) × (x.1 ≡ r.leaves)) ⊎ ((r.holds ≡ false) × Given n x.1 t)) in
      either r.holds
      (λ e. subst Goal (sym (told-first r t e)) ((λ k. inl (e, k, refl)), ⊎_elim (λ g. g.1) (λ g. absurd (true≢false (sym e ∙ g.0)))))
      (λ e. subst Goal (sym (told-rest r t e)) ((λ k. inr (e, rest.0 k)), ⊎_elim (λ g. absurd (false≢true (sym e ∙ g.0))) (λ g. rest.1 g.1)))

  -- every row of the number n leaves y where it holds
  abbrev pub Leaving : ℕ → A → Table A → Type 0
  Leaving n y (always s x) = when eqb s.number n then x ≡ y else Unit
  Leaving n y (r or_else t) = when eqb r.says.number n then (r.holds ≡ true → r.leaves ≡ y) × Leaving n y t else Leaving n y t

  table-leaving : (n : ℕ) (y : A) (t : Table A) → Leaving n y t → (told_by t).0.number ≡ n → (told_by t).1 ≡ y
  table-leaving n y (always s x) h = λ k. rw (eq-eqb _ _ k) at h
  table-leaving n y (r or_else t) h =
      let rest = table-leaving n y t in
      either (eqb r.says.number n)
      (λ m. let l : (r.holds ≡ true → r.leaves ≡ y) × Leaving n y t = rw m at h in either r.holds (λ e. rw e (λ k. l.0 e)) (λ e. rw e (rest l.1)))
      (λ m. either r.holds (λ e. rw e (λ k. absurd (eqb-false _ _ m k))) (λ e. rw e (rest (rw m at h))))

  -- every row whose condition holds says and leaves what is in P
  abbrev pub Held : (Said → A → Type 0) → Table A → Type 0
  Held P (always s x) = P s x
  Held P (r or_else t) = (r.holds ≡ true → P r.says r.leaves) × Held P t

  table-held : (P : Said → A → Type 0) (t : Table A) → Held P t → P (told_by t).0 (told_by t).1
  table-held P (always s x) h = h
  table-held P (r or_else t) h = by (λ (y : Said × A). P y.0 y.1) r.holds (λ e. h.0 e) (λ e. table-held P t h.1)

  -- every row does
  abbrev pub Every : (Said → A → Type 0) → Table A → Type 0
  Every P (always s x) = P s x
  Every P (r or_else t) = P r.says r.leaves × Every P t

  every-row : (P : Said → A → Type 0) (t : Table A) → Every P t → Held P t
  every-row P (always s x) h = h
  every-row P (r or_else t) h = (λ _. h.0, every-row P t h.1)

  module _ {told : Said × A} (t : Table A) (e : told ≡ told_by t) where
    pub given : (n : ℕ) → (told.0.number ≡ n) ↔ Given n told.1 t
    given n = rw e (table-given n t)

    pub says : (n : ℕ) {x : A} → Leaving n x t → Says n x told t
    says n {x} h = record { exactly = given n; leaves = rw e (table-leaving n x t h) }

    pub every_held : (P : Said → A → Type 0) → Held P t → P told.0 told.1
    every_held P h = rw e (table-held P t h)

    pub every : (P : Said → A → Type 0) → Every P t → P told.0 told.1
    every P h = every_held P (every-row P t h)
