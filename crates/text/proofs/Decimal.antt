-- How many digits a number has, and that its last digits, so many of them, are the number in decimal digits.
--     counted, one-digit     the digits that a power of ten counts, and the one of 0
use Prim.Native.Nat.{ℕ, zero, suc, ◌+◌, ◌-◌, ◌*◌, ◌/◌, ◌^◌, ◌≤◌, ◌<◌}
use native.Mathlib.Nat.{div-lt_iff_lt-mul, le-div_iff_mul-le, pow-suc, pow-le-pow_right, not-suc-le-zero}
use native.Mathlib.Numerals.{add-one}
use native.Mathlib.Omega.{arith}
use mathlib.Core.List.{List}
use mathlib.Core.Path.{◌≡◌, refl, sym, ◌∙◌}
use lib.ListN.{length, take}
use lib.Seq.{length-take-le}
use lib.Dec.{leb}
use borrow.Author.Tests.{lt-ltb, le-ltb, leb-true, leb-false}
use Rattle.laws.proofs.Cases.{either}
use Rattle.text.specs.Digits.{IsDigitCount, IsPrefixLen, last_digits}
use Rattle.text.specs.Written.{decimal_below, decimal_of}

pub prefix_len : (n : ℕ) (xs : List ℕ) → n ≤ length xs → IsPrefixLen n xs
prefix_len n xs h = (h, sym (length-take-le n xs h))

-- the power of ten that a number is at least, but not ten times as large, counts its digits but one
pub counted : (n k : ℕ) → 10 ^ k ≤ n → n < 10 * 10 ^ k → IsDigitCount n (k + 1)
counted n k least most =
    let p : 10 ^ suc k ≡ 10 ^ k * 10 = pow-suc 10 k in
    let e : k + 1 - 1 ≡ k = omega arith in
    (omega arith, rw (add-one k, p) (omega arith), λ _. rw e least)

pub one-digit : (n : ℕ) → n ≡ 0 → IsDigitCount n 1
one-digit n e = (omega arith, omega arith, λ l. absurd (omega arith))

positive : (j : ℕ) → 1 ≤ 10 ^ j
positive zero = omega arith
positive (suc j) = let h : 1 ≤ 10 ^ j = positive j in rw (pow-suc 10 j) (omega arith)

pub digits_are : (more k n : ℕ) → IsDigitCount n k → k ≤ suc more → last_digits k n ≡ decimal_below more n
unfolding decimal_below
digits_are more zero n f h = absurd (not-suc-le-zero f.0)
digits_are zero (suc zero) n f h = refl
digits_are (suc more) (suc zero) n f h = let t : n < 10 = f.1 in rw (lt-ltb n 10 t)
digits_are zero (suc (suc j)) n f h = absurd (omega arith)
digits_are (suc more) (suc (suc j)) n f h =
    let one : 1 ≤ 10 ^ j = positive j in
    let p : 10 ^ suc j ≡ 10 ^ j * 10 = pow-suc 10 j in
    let q : 10 ^ suc (suc j) ≡ 10 ^ suc j * 10 = pow-suc 10 (suc j) in
    let k : suc (suc j) - 1 ≡ suc j = omega arith in
    let least : 10 ^ suc j ≤ n = rw k at (f.2 (omega arith)) in
    let t : 10 ≤ n = omega arith in
    let below : n / 10 < 10 ^ suc j = (div-lt_iff_lt-mul {k = 10} (omega arith)).1 (omega (arith, f.1)) in
    let l : suc j - 1 ≡ j = omega arith in
    let rest : 1 < suc j → 10 ^ (suc j - 1) ≤ n / 10 = λ _. rw l ((le-div_iff_mul-le {k = 10} (omega arith)).1 (omega arith)) in
    rw (le-ltb n 10 t, digits_are more (suc j) (n / 10) (omega arith, below, rest) (omega arith))

pub at-most-twenty : (n k : ℕ) → IsDigitCount n k → n < 2 ^ 64 → k ≤ 20
at-most-twenty n k f h =
    either (leb k 20) (λ e. leb-true k 20 e) (λ e.
    let t : 20 < k = leb-false k 20 e in
    let p : 10 ^ 20 ≤ 10 ^ (k - 1) = pow-le-pow_right {n = 10} (omega arith) {i = 20} {j = k - 1} (omega arith) in
    let q : 10 ^ (k - 1) ≤ n = f.2 (omega arith) in
    absurd (omega arith))

pub decimal-is : (n k : ℕ) (out : List ℕ) → IsDigitCount n k → n < 2 ^ 64 → take k out ≡ last_digits k n → take k out ≡ decimal_of n
decimal-is n k out f h e = e ∙ digits_are 19 k n f (at-most-twenty n k f h)
