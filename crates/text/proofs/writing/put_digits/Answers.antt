-- The last digit that is still to write goes before those that are written.
use native.Mathlib.Omega.{arith}
use mathlib.Core.Path.{◌≡◌, refl, sym, ap, subst, ◌∙◌}
use mathlib.Core.List.{List, [], ◌∷◌, ◌++◌, append-nil}
use Prim.Native.Nat.{ℕ, zero, suc, ◌+◌, ◌-◌, ◌/◌, ◌%◌, ◌≤◌, ◌<◌}
use lib.ListN.{length, take, drop, set, drop_of_length-le}
use lib.Seq.{slice, length-take-le, take-set-lt, append_snoc}
use native.Mathlib.Nat.{le_of_suc-le-suc, not-suc-le-zero}
use native.Mathlib.Numerals.{sub-one}
use Rattle.text.specs.Digits.{last_digits}
use Rattle.text.proofs.writing.put_digits.Goals as goal

-- after a store at j, the list from j on begins with what was stored
drop-set : (t : List ℕ) (j g : ℕ) → j < length t → drop j (set t j g) ≡ g ∷ drop (suc j) t
drop-set [] j g h = absurd (not-suc-le-zero h)
drop-set (x ∷ xs) zero g h = refl
drop-set (x ∷ xs) (suc j) g h = drop-set xs j g (le_of_suc-le-suc h)

-- a turn moves the last of the digits that are still to write to the front of those that are written
digits_step : (i k rest : ℕ) (out : List ℕ) → 0 < i → i ≤ k → k ≤ length out
    → last_digits (i - 1) (rest / 10) ++ slice (i - 1) k (set out (i - 1) (48 + rest % 10)) ≡ last_digits i rest ++ slice i k out
digits_step zero k rest out some h room = absurd (not-suc-le-zero some)
digits_step (suc j) k rest out some h room =
    let g = 48 + rest % 10 in
    let todo = last_digits j (rest / 10) in
    let done = slice (suc j) k out in
    let within : j < length (take k out) = subst (λ (n : ℕ). j < n) (sym (length-take-le k out room)) h in
    ap (λ (m : ℕ). last_digits m (rest / 10) ++ slice m k (set out m g)) (sub-one (suc j))
    ∙ ap (λ (l : List ℕ). todo ++ drop j l) (take-set-lt k out j g h)
    ∙ ap (λ (l : List ℕ). todo ++ l) (drop-set (take k out) j g within)
    ∙ sym (append_snoc todo g done)

pub loop-i-init : goal.loop-i-init
loop-i-init c =
    let e : c.args.k - 0 ≡ c.args.k = omega arith in
    let h : length (take c.args.k c.args.digits.now) ≤ c.args.k = omega (arith, length-take-le c.args.k c.args.digits.now c.requires) in
    rw (e, drop_of_length-le (take c.args.k c.args.digits.now) h) (append-nil _)

pub loop-i-preserved : goal.loop-i-preserved
loop-i-preserved c =
    let l = c.loop-i in
    let a = c.args in
    let p : a.k - (l.i + 1) ≡ a.k - l.i - 1 = omega arith in
    let q : a.k - 1 - l.i ≡ a.k - l.i - 1 = omega arith in
    rw (p, q) (digits_step (a.k - l.i) a.k l.rest l.digits (omega arith) (omega arith) (omega arith) ∙ l.invariant)

pub returns : goal.returns
returns c = let e : c.args.k - c.loop-i.i ≡ 0 = omega arith in rw e at c.loop-i.invariant
