-- A number, digit by digit: r is what the whole text comes to, and n what its digits before the place i make.
--     goes_on, breaks, fits     the next character is a digit, is none, or there is none
--     grows                     the next digit makes the number too large
--     stays, is-broken, is-too-large     the same of a number that is too large already
use Prim.Native.Nat.{ℕ, ◌+◌, ◌-◌, ◌*◌, ◌/◌, ◌^◌, ◌≤◌, ◌<◌}
use native.Mathlib.Nat.{div-lt_iff_lt-mul, le-div_iff_mul-le, le-mul_of_pos_right, not-suc-le-zero}
use native.Mathlib.Numerals.{add-one}
use native.Mathlib.Omega.{arith}
use mathlib.Core.Bool.{true, false}
use mathlib.Core.List.{List, [], ◌∷◌}
use mathlib.Core.Path.{◌≡◌, refl, sym, ap, ◌∙◌}
use lib.ListN.{length, take, drop, get_or, drop_of_length-le, length-drop}
use lib.Seq.{drop-cons, take_all}
use borrow.Author.Tests.{lt-ltb, le-ltb, ltb-true, ltb-false}
use Rattle.std.specs.Prelude.{Result, Ok, Err}
use Rattle.text.specs.Numbers.{digit_of, is_digit, number_from, number_of}
use Rattle.text.specs.declared.reading.NumberError.{NumberError}
use Rattle.text.specs.declared.reading.NumberError.TheVariants.{TooLarge, Bad}

pub starts : (base : ℕ) (s : List ℕ) → 0 < length s → number_of base s ≡ number_from base 0 s
unfolding number_of
starts base [] h = absurd (not-suc-le-zero h)
starts base (c ∷ s) h = refl

pub no-digits : (base : ℕ) (s : List ℕ) → length s ≡ 0 → Err Bad ≡ number_of base s
unfolding number_of
no-digits base [] h = refl
no-digits base (c ∷ s) h = absurd (omega arith)

larger : (base n d : ℕ) → 1 ≤ base → 2 ^ 64 ≤ n → 2 ^ 64 ≤ n * base + d
larger base n d b h = omega (arith, le-mul_of_pos_right {m = base} n b)

-- a number that is too large stays so, whatever it was
same : (base m n : ℕ) (s : List ℕ) → 1 ≤ base → 2 ^ 64 ≤ m → 2 ^ 64 ≤ n → number_from base m s ≡ number_from base n s
unfolding number_from
same base m n [] b p q = rw (le-ltb m (2 ^ 64) p, le-ltb n (2 ^ 64) q)
same base m n (c ∷ s) b p q = rw (same base (m * base + digit_of c) (n * base + digit_of c) s b (larger base m _ b p) (larger base n _ b q))

-- what the test before a further digit leaves room for
module _ (base n d : ℕ) (b : 1 ≤ base) (h : n ≤ (18446744073709551615 - d) / base) where
  pub more-fits : d ≤ 18446744073709551615 → n * base + d < 2 ^ 64
  more-fits k = omega (arith, (le-div_iff_mul-le b).0 h)

module _ (base n : ℕ) (s : List ℕ) (i d : ℕ) (r : Result ℕ NumberError) (e : r ≡ number_from base n (drop i s)) (i<l : i < length s) (eq : d ≡ digit_of (get_or s i 0)) where
  pub goes_on : d < base → r ≡ number_from base (n * base + d) (drop (i + 1) s)
  unfolding number_from
  goes_on h = e ∙ rw (add-one, drop-cons s i 0 i<l, eq) (let k : digit_of (get_or s i 0) < base = omega arith in rw (lt-ltb _ base k))

  pub breaks : base ≤ d → Err Bad ≡ r
  unfolding number_from
  breaks h = sym (e ∙ rw (drop-cons s i 0 i<l) (let k : base ≤ digit_of (get_or s i 0) = omega arith in rw (le-ltb _ base k)))

  pub grows : 1 ≤ base → d < base → (18446744073709551615 - d) / base < n → (q : Result ℕ NumberError) → q ≡ number_from base (2 ^ 64) (take (length s - (i + 1)) (drop (i + 1) s)) → q ≡ r
  grows b h t q k = k ∙ ap (number_from base (2 ^ 64)) (take_all (length s - (i + 1)) (drop (i + 1) s) (omega (arith, length-drop (i + 1) s))) ∙ sym (goes_on h ∙ same base _ _ _ b (omega (arith, (div-lt_iff_lt-mul b).0 t)) (omega arith))

module _ (base n : ℕ) (s : List ℕ) (i : ℕ) (r : Result ℕ NumberError) (e : r ≡ number_from base n (drop i s)) (over : length s ≤ i) where
  pub fits : n < 2 ^ 64 → Ok n ≡ r
  unfolding number_from
  fits h = sym (e ∙ rw (drop_of_length-le s over, lt-ltb n (2 ^ 64) h))

module _ (base : ℕ) (s : List ℕ) (i : ℕ) (r : Result ℕ NumberError) (e : r ≡ number_from base (2 ^ 64) (drop i s)) where
  pub stays : 1 ≤ base → i < length s → is_digit base (get_or s i 0) ≡ true → r ≡ number_from base (2 ^ 64) (drop (i + 1) s)
  stays b h t = goes_on base (2 ^ 64) s i _ r e h refl (ltb-true _ _ t) ∙ same base _ _ _ b (larger base _ _ b (omega arith)) (omega arith)

  pub is-broken : i < length s → is_digit base (get_or s i 0) ≡ false → Err Bad ≡ r
  is-broken h t = breaks base (2 ^ 64) s i _ r e h refl (ltb-false _ _ t)

  pub is-too-large : length s ≤ i → Err TooLarge ≡ r
  unfolding number_from
  is-too-large h = sym (e ∙ rw (drop_of_length-le s h))
