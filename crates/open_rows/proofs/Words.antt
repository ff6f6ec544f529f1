-- Numbers and tests of specs/Rows.antt in its own words, and in those of the definitions.
use Rattle.std.specs.Prelude.{if◌then◌else◌}
use Prim.Native.Nat.{ℕ, zero, suc, ◌+◌, ◌-◌, ◌*◌, ◌/◌, ◌%◌, ◌^◌, max, ◌≤◌, ◌<◌}
use native.Mathlib.Nat.{pow-succ', div-add-mod}
use native.Mathlib.Omega.{arith}
use mathlib.Core.Bool.{Bool, true, false, not, ◌&&◌, ◌||◌}
use mathlib.Core.List.{List, [], ◌∷◌, ◌++◌}
use lib.ListN.{length, take, replicate}
use mathlib.Core.Path.{◌≡◌, refl, sym}
use lib.Dec.{ltb, leb, eqb}
use borrow.Author.Tests.{ltb-true, ltb-false, leb-true, leb-false, eqb-true, eqb-false, lt-ltb, le-ltb, le-leb, lt-leb, eq-eqb}
use Rattle.laws.proofs.Cases.{either, both, by-lt}
use Rattle.open_rows.specs.Records.{unit}

-- two tests that pass together are one
pub same_test : (s t : Bool) → (s ≡ true → t ≡ true) → (t ≡ true → s ≡ true) → s ≡ t
same_test true t f g = sym (f refl)
same_test false true f g = g refl
same_test false false f g = refl

-- ---- first bytes

-- below 0x40, bits 7 and 6 are clear
pub below-40 : (b : ℕ) → ltb b 0x40 ≡ eqb (b / 64) 0
below-40 b =
    same_test _ _ (λ e. let l = ltb-true b 64 e in eq-eqb (b / 64) 0 (omega arith))
    (λ e. let z = eqb-true (b / 64) 0 e in lt-ltb b 64 (omega arith))

-- then, below 0x20, so is bit 5
pub below-20 : (b : ℕ) → b < 64 → ltb b 0x20 ≡ eqb (b / 32 % 2) 0
below-20 b h =
    by-lt (λ (t : ℕ). ltb b 0x20 ≡ eqb (b / 32 % 2) 0) b 32 {x = 0} {y = 0}
    (λ l. let z : b / 32 ≡ 0 = omega arith in rw (lt-ltb b 32 l, z))
    (λ l. let z : b / 32 ≡ 1 = omega arith in rw (le-ltb b 32 l, z))

-- bit 4
pub upper-half : (b : ℕ) → leb 0x10 (b % 0x20) ≡ eqb (b / 16 % 2) 1
upper-half b =
    same_test _ _ (λ e. let l = leb-true 16 (b % 32) e in eq-eqb (b / 16 % 2) 1 (omega arith))
    (λ e. let z = eqb-true (b / 16 % 2) 1 e in le-leb 16 (b % 32) (omega arith))

-- 1 0 RS 1 number: bits 7 and 6, and bit 4
pub ack-byte : (b : ℕ) → (leb 0x90 b && ltb b 0xA0 || leb 0xB0 b && ltb b 0xC0) ≡ (eqb (b / 64) 2 && eqb (b / 16 % 2) 1)
ack-byte b = same_test _ _ there back
  where
    there : (leb 0x90 b && ltb b 0xA0 || leb 0xB0 b && ltb b 0xC0) ≡ true → (eqb (b / 64) 2 && eqb (b / 16 % 2) 1) ≡ true
    there e =
        either (leb 0x90 b && ltb b 0xA0)
        (λ l. let r = both (leb 0x90 b) (ltb b 0xA0) l in
        let low = leb-true 0x90 b r.0 in let high = ltb-true b 0xA0 r.1 in ack-bits (omega arith) (omega arith))
        (λ l. let r = both (leb 0xB0 b) (ltb b 0xC0) (rw l at e) in
        let low = leb-true 0xB0 b r.0 in let high = ltb-true b 0xC0 r.1 in ack-bits (omega arith) (omega arith))
      where
        ack-bits : b / 64 ≡ 2 → b / 16 % 2 ≡ 1 → (eqb (b / 64) 2 && eqb (b / 16 % 2) 1) ≡ true
        ack-bits x y = rw (x, y)

    back : (eqb (b / 64) 2 && eqb (b / 16 % 2) 1) ≡ true → (leb 0x90 b && ltb b 0xA0 || leb 0xB0 b && ltb b 0xC0) ≡ true
    back e =
        let r = both (eqb (b / 64) 2) (eqb (b / 16 % 2) 1) e in
        let upper = eqb-true (b / 64) 2 r.0 in
        let lower = eqb-true (b / 16 % 2) 1 r.1 in
        by-lt (λ (t : ℕ). (leb 0x90 b && ltb b 0xA0 || leb 0xB0 b && ltb b 0xC0) ≡ true) b 0xA0 {x = 0} {y = 0}
        (λ l. rw (le-leb 0x90 b (omega arith), lt-ltb b 0xA0 l))
        (λ l. rw (le-leb 0x90 b (omega arith), le-ltb b 0xA0 l, le-leb 0xB0 b (omega arith), lt-ltb b 0xC0 (omega arith)))

-- RS of such a byte
pub ready-byte : (b : ℕ) → b / 64 ≡ 2 → b / 16 % 2 ≡ 1 → leb 0xB0 b ≡ eqb (b / 32 % 2) 1
ready-byte b upper lower =
    by-lt (λ (t : ℕ). leb 0xB0 b ≡ eqb (b / 32 % 2) 1) b 0xB0 {x = 0} {y = 0}
    (λ l. let z : b / 32 ≡ 4 = omega arith in rw (lt-leb 0xB0 b l, z))
    (λ l. let z : b / 32 ≡ 5 = omega arith in rw (le-leb 0xB0 b l, z))

-- D6, D7 and D8
pub refusal-byte : (b : ℕ) → (leb 0xD6 b && leb b 0xD8) ≡ (eqb b 0xD6 || eqb b 0xD7 || eqb b 0xD8)
refusal-byte b = same_test _ _ there back
  where
    there : (leb 0xD6 b && leb b 0xD8) ≡ true → (eqb b 0xD6 || eqb b 0xD7 || eqb b 0xD8) ≡ true
    there e =
        let r = both (leb 0xD6 b) (leb b 0xD8) e in
        let low = leb-true 0xD6 b r.0 in
        let high = leb-true b 0xD8 r.1 in
        either (eqb b 0xD6) (λ x. rw x) (λ x. either (eqb b 0xD7) (λ y. rw (x, y)) (λ y.
        let n6 = eqb-false b 0xD6 x in
        let n7 = eqb-false b 0xD7 y in
        let z : b ≡ 0xD8 = omega arith in rw z))

    back : (eqb b 0xD6 || eqb b 0xD7 || eqb b 0xD8) ≡ true → (leb 0xD6 b && leb b 0xD8) ≡ true
    back e =
        either (eqb b 0xD6) (λ x. rw (eqb-true b 0xD6 x)) (λ x.
        either (eqb b 0xD7) (λ y. rw (eqb-true b 0xD7 y)) (λ y. rw (eqb-true b 0xD8 (rw (x, y) at e))))

-- from a byte up to itself
pub only-byte : (b n : ℕ) → (leb n b && leb b n) ≡ eqb b n
only-byte b n =
    same_test _ _
    (λ e. let r = both (leb n b) (leb b n) e in let low = leb-true n b r.0 in let high = leb-true b n r.1 in eq-eqb b n (omega arith))
    (λ e. let z = eqb-true b n e in rw (le-leb n b (omega arith), le-leb b n (omega arith)))

-- ---- numbers modulo 16

-- how far a number lies ahead
pub ahead-by : (n o : ℕ) → (n + 15 * o) % 16 ≡ (n % 16 + 16 - o % 16) % 16
ahead-by n o = omega arith

-- the number of the frame behind k others
pub number_by : (o a k : ℕ) → (o + 15 * a + k) % 16 ≡ ((o % 16 + 16 - a % 16) % 16 + k) % 16
number_by o a k = omega arith

-- frames acknowledged up to a number
pub acked-to : (b o : ℕ) → (o + (b % 16 % 16 + 16 - o % 16) % 16) % 16 ≡ b % 16
acked-to b o = omega arith

-- ---- frames of seven

-- they carry n bytes behind two length bytes
pub carried : (n k : ℕ) → (leb (n + 2) (7 * k) && ltb (7 * k) (n + 9)) ≡ eqb k ((n + 8) / 7)
carried n k =
    same_test _ _
    (λ e. let r = both (leb (n + 2) (7 * k)) (ltb (7 * k) (n + 9)) e in
    let low = leb-true (n + 2) (7 * k) r.0 in let high = ltb-true (7 * k) (n + 9) r.1 in eq-eqb k ((n + 8) / 7) (omega arith))
    (λ e. let z = eqb-true k ((n + 8) / 7) e in rw (le-leb (n + 2) (7 * k) (omega arith), lt-ltb (7 * k) (n + 9) (omega arith)))

-- some bytes are left behind k of them
pub left_behind : (n k : ℕ) → ltb (7 * k) (n + 2) ≡ ltb k ((n + 8) / 7)
left_behind n k =
    same_test _ _ (λ e. let l = ltb-true (7 * k) (n + 2) e in lt-ltb k ((n + 8) / 7) (omega arith))
    (λ e. let l = ltb-true k ((n + 8) / 7) e in lt-ltb (7 * k) (n + 2) (omega arith))

-- a multiple has no remainder
pub multiple : (p b : ℕ) → eqb (b * (p / b)) p ≡ eqb (p % b) 0
multiple p b = let d = div-add-mod p b in
    same_test _ _ (λ e. let z = eqb-true (b * (p / b)) p e in eq-eqb (p % b) 0 (omega arith))
    (λ e. let z = eqb-true (p % b) 0 e in eq-eqb (b * (p / b)) p (omega arith))

-- ---- the others

-- a number that is not 0
pub some_left : (n : ℕ) → ltb 0 n ≡ not (eqb n 0)
some_left n = either (eqb n 0) (λ e. rw (eqb-true n 0 e)) (λ e. let z = eqb-false n 0 e in rw (e, lt-ltb 0 n (omega arith)))

-- the larger of two
pub larger-max : (k h : ℕ) → (if ltb k h then h else k + 1) ≡ max h (k + 1)
larger-max k h = by-lt (λ x. x ≡ max h (k + 1)) k h (λ l. omega arith) (λ l. omega arith)

-- at most is not above
pub not-above : (m n : ℕ) → leb n m ≡ not (ltb m n)
not-above m n = either (ltb m n) (λ e. rw (e, lt-leb n m (ltb-true m n e))) (λ e. rw (e, le-leb n m (ltb-false m n e)))

-- below the next number is at most
pub below_next : (m n : ℕ) → ltb m (suc n) ≡ leb m n
below_next m n =
    same_test _ _ (λ e. let l = ltb-true m (suc n) e in le-leb m n (omega arith)) (λ e. let l = leb-true m n e in lt-ltb m (suc n) (omega arith))

-- ten times more with each step
pub unit-pow : (n : ℕ) → unit n ≡ 10 ^ n
unfolding unit
unit-pow zero = refl
unit-pow (suc zero) = refl
unit-pow (suc (suc zero)) = refl
unit-pow (suc (suc (suc zero))) = refl
unit-pow (suc (suc (suc (suc n)))) = rw (unit-pow n, pow-succ' 10 (suc (suc (suc n))), pow-succ' 10 (suc (suc n)), pow-succ' 10 (suc n), pow-succ' 10 n) (omega arith)

-- below is not at least
pub below-not : (m n : ℕ) → ltb m n ≡ not (leb n m)
below-not m n = either (leb n m) (λ e. rw (e, le-ltb m n (leb-true n m e))) (λ e. rw (e, lt-ltb m n (leb-false n m e)))

-- neither of two
pub neither : (x p q : Bool) → (x && not p && not q) ≡ (x && not (p || q))
neither true true q = refl
neither true false q = refl
neither false true q = refl
neither false false q = refl

-- what need not hold, or neither of two
pub unbound : (must p q : Bool) → not (must && (p || q)) ≡ (not must || (not p && not q))
unbound true true q = refl
unbound true false q = refl
unbound false p q = refl

-- at most eight bytes, with zeros behind them
pub zeros-behind : (s : List ℕ) → length s ≤ 8 → s ++ replicate (8 - length s) 0 ≡ take 8 (s ++ replicate 8 0)
zeros-behind [] _ = refl
zeros-behind (a ∷ []) _ = refl
zeros-behind (a ∷ b ∷ []) _ = refl
zeros-behind (a ∷ b ∷ c ∷ []) _ = refl
zeros-behind (a ∷ b ∷ c ∷ d ∷ []) _ = refl
zeros-behind (a ∷ b ∷ c ∷ d ∷ e ∷ []) _ = refl
zeros-behind (a ∷ b ∷ c ∷ d ∷ e ∷ f ∷ []) _ = refl
zeros-behind (a ∷ b ∷ c ∷ d ∷ e ∷ f ∷ g ∷ []) _ = refl
zeros-behind (a ∷ b ∷ c ∷ d ∷ e ∷ f ∷ g ∷ h ∷ []) _ = refl
zeros-behind (a ∷ b ∷ c ∷ d ∷ e ∷ f ∷ g ∷ h ∷ i ∷ s) most = absurd (omega arith)
