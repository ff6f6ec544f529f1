-- How a return meets a definition that is a chain of tests: each test that led there picks its branch.
--     branches      the set for `search`. Laws that pass two, four or eight tests at once keep a chain of fifteen within the five laws that a plain `search` goes deep
use mathlib.Core.Bool.{Bool, true, false, cond, not, ◌&&◌, ◌||◌}
use mathlib.Core.Path.{◌≡◌, refl, sym, ◌∙◌}
use borrow.Author.Tests.{lt-ltb, le-ltb, le-leb, lt-leb, eq-eqb, ne_eqb}

pub on {ℓ} : {A : Type ℓ} (t : Bool) (r x y : A) → t ≡ true → r ≡ x → r ≡ cond t x y
on t r x y e h = rw e h

pub off {ℓ} : {A : Type ℓ} (t : Bool) (r x y : A) → t ≡ false → r ≡ y → r ≡ cond t x y
off t r x y e h = rw e h

pub off2 {ℓ} : {A : Type ℓ} (t u : Bool) (r x y z : A) → t ≡ false → u ≡ false → r ≡ z → r ≡ cond t x (cond u y z)
off2 t u r x y z e f h = off t r x _ e (off u r y z f h)

pub off4 {ℓ} : {A : Type ℓ} (t u v w : Bool) (r a b x y z : A)
    → t ≡ false → u ≡ false → v ≡ false → w ≡ false → r ≡ z → r ≡ cond t a (cond u b (cond v x (cond w y z)))
off4 t u v w r a b x y z e f g h k = off2 t u r a b _ e f (off2 v w r x y z g h k)

pub off8 {ℓ} : {A : Type ℓ} (t₁ t₂ t₃ t₄ t₅ t₆ t₇ t₈ : Bool) (r a b c d e f g h z : A)
    → t₁ ≡ false → t₂ ≡ false → t₃ ≡ false → t₄ ≡ false → t₅ ≡ false → t₆ ≡ false → t₇ ≡ false → t₈ ≡ false → r ≡ z
    → r ≡ cond t₁ a (cond t₂ b (cond t₃ c (cond t₄ d (cond t₅ e (cond t₆ f (cond t₇ g (cond t₈ h z)))))))
off8 t₁ t₂ t₃ t₄ t₅ t₆ t₇ t₈ r a b c d e f g h z p₁ p₂ p₃ p₄ p₅ p₆ p₇ p₈ q =
    off4 t₁ t₂ t₃ t₄ r a b c d _ p₁ p₂ p₃ p₄ (off4 t₅ t₆ t₇ t₈ r e f g h z p₅ p₆ p₇ p₈ q)

pub and-on : (s t : Bool) → s ≡ true → t ≡ true → (s && t) ≡ true
and-on s t p q = rw (p, q)

pub and-off : (s t : Bool) → s ≡ false → (s && t) ≡ false
and-off s t p = rw p

pub and-off' : (s t : Bool) → t ≡ false → (s && t) ≡ false
and-off' true t p = p
and-off' false t p = refl

pub and-on2 : (s t u : Bool) → s ≡ true → t ≡ true → u ≡ true → (s && t && u) ≡ true
and-on2 s t u p q r = rw (p, q, r)

pub and-on4 : (s t u v w : Bool) → s ≡ true → t ≡ true → u ≡ true → v ≡ true → w ≡ true → (s && t && u && v && w) ≡ true
and-on4 s t u v w p q r x y = rw (p, q, r, x, y)

pub and-off2 : (s t u : Bool) → s ≡ false → (s && t && u) ≡ false
and-off2 s t u p = rw p

pub and-off4 : (s t u v w : Bool) → s ≡ false → (s && t && u && v && w) ≡ false
and-off4 s t u v w p = rw p

pub or-on : (s t : Bool) → s ≡ true → (s || t) ≡ true
or-on s t p = rw p

pub or-on' : (s t : Bool) → t ≡ true → (s || t) ≡ true
or-on' true t p = refl
or-on' false t p = p

pub or_off : (s t : Bool) → s ≡ false → t ≡ false → (s || t) ≡ false
or_off s t p q = rw (p, q)

pub not_on : (t : Bool) → t ≡ false → not t ≡ true
not_on t p = rw p

pub not-off : (t : Bool) → t ≡ true → not t ≡ false
not-off t p = rw p

-- a flag that a callee returned: what it ensures, and what the test said of it
pub flag : (r s t : Bool) → r ≡ s → r ≡ t → s ≡ t
flag r s t p q = sym p ∙ q

pub flag-not : (r s t : Bool) → r ≡ s → not r ≡ t → not s ≡ t
flag-not r s t p q = rw (← p) q

pub ruleset branches = (on, off8, off4, off2, off, and-on4, and-on2, and-on, and-off4, and-off2, and-off, and-off', or-on, or-on', or_off, not_on, not-off, flag, flag-not, lt-ltb, le-ltb, le-leb, lt-leb, eq-eqb, ne_eqb)
