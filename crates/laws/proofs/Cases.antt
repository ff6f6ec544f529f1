-- To follow a definition that is a chain of tests: what holds of both outcomes of a test, each under what the test says, holds of the branch.
--     by, by-not, by-lt, by_le, by-eq     the test as a Bool, or as a fact on two numbers
--     Makes                               a property for them: a function makes x of the branch
--     either                              what holds whichever way a test comes out
--     each                                a function of a branch, outcome by outcome
--     same                                both outcomes are one
--     smaller-min                         the smaller of two numbers, by a test
--     both                                both parts of a test that passed
--     and_first, and_second               each of them, as `search` takes them
--     or-first, or-second                 each part of a test that failed
--     neither                             a number that is none of two
use Prim.Native.Nat.{ℕ, min, ◌<◌, ◌≤◌}
use native.Mathlib.Omega.{arith}
use mathlib.Core.Bool.{Bool, true, false, cond, not, ◌&&◌, ◌||◌, true≢false, false≢true}
use mathlib.Core.Logic.{◌≢◌}
use mathlib.Core.Path.{◌≡◌, refl}
use lib.Dec.{ltb, leb, eqb}
use borrow.Author.Tests.{ltb-true, ltb-false, leb-true, leb-false, eqb-true, eqb-false}

module _ {ℓ κ} {A : Type ℓ} (P : A → Type κ) where
  pub by : (t : Bool) {x y : A} → (t ≡ true → P x) → (t ≡ false → P y) → P (cond t x y)
  by true f g = f refl
  by false f g = g refl

  pub by-not : (t : Bool) {x y : A} → (t ≡ false → P x) → (t ≡ true → P y) → P (cond (not t) x y)
  by-not true f g = g refl
  by-not false f g = f refl

  pub by-lt : (m n : ℕ) {x y : A} → (m < n → P x) → (n ≤ m → P y) → P (cond (ltb m n) x y)
  by-lt m n f g = by (ltb m n) (λ e. f (ltb-true m n e)) (λ e. g (ltb-false m n e))

  pub by_le : (m n : ℕ) {x y : A} → (m ≤ n → P x) → (n < m → P y) → P (cond (leb m n) x y)
  by_le m n f g = by (leb m n) (λ e. f (leb-true m n e)) (λ e. g (leb-false m n e))

  pub by-eq : (m n : ℕ) {x y : A} → (m ≡ n → P x) → ((m ≡ n → ⊥) → P y) → P (cond (eqb m n) x y)
  by-eq m n f g = by (eqb m n) (λ e. f (eqb-true m n e)) (λ e. g (eqb-false m n e))

abbrev pub Makes {ℓ κ} : {A : Type ℓ} {B : Type κ} → (A → B) → B → A → Type κ
Makes f x a = f a ≡ x

pub either {κ} : {P : Type κ} (t : Bool) → (t ≡ true → P) → (t ≡ false → P) → P
either {P = P} t f g = by (λ (u : Bool). P) t {x = true} {y = false} f g

pub each {ℓ κ} : {A : Type ℓ} {B : Type κ} (f : A → B) (t : Bool) {x y : A} {v w : B} → f x ≡ v → f y ≡ w → f (cond t x y) ≡ cond t v w
each f true p q = p
each f false p q = q

pub same {ℓ} : {A : Type ℓ} (t : Bool) (x : A) → cond t x x ≡ x
same true x = refl
same false x = refl

pub smaller-min : (m n : ℕ) → cond (ltb n m) n m ≡ min m n
smaller-min m n = by-lt (λ x. x ≡ min m n) n m (λ l. omega arith) (λ l. omega arith)

pub both : (s t : Bool) → (s && t) ≡ true → (s ≡ true) × (t ≡ true)
both true t e = (refl, e)
both false t e = absurd (false≢true e)

pub and_first : (s t : Bool) → (s && t) ≡ true → s ≡ true
and_first s t e = (both s t e).0

pub and_second : (s t : Bool) → (s && t) ≡ true → t ≡ true
and_second s t e = (both s t e).1

pub or-first : (s t : Bool) → (s || t) ≡ false → s ≡ false
or-first true t e = absurd (true≢false e)
or-first false t e = refl

pub or-second : (s t : Bool) → (s || t) ≡ false → t ≡ false
or-second true t e = absurd (true≢false e)
or-second false t e = e

pub neither : (n a b : ℕ) → (eqb n a || eqb n b) ≡ false → (n ≢ a) × (n ≢ b)
neither n a b e = (eqb-false n a (or-first (eqb n a) (eqb n b) e), eqb-false n b (or-second (eqb n a) (eqb n b) e))
