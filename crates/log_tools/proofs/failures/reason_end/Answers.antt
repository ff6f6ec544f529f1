-- At each place the reason ends, or goes on by a character.
use Rattle.std.proofs.Common.{ℕ, ◌+◌, ◌-◌, ◌≡◌, ◌<◌, ◌≤◌, Bool, true, false, ◌||◌, List, [], ◌∷◌, ◌++◌, length, take, drop, get_or, eqb, arith, ap, sym, ◌∙◌, subst, drop-cons, append_assoc, add-one, drop_of_length-le, length-drop, suc, refl}
use Rattle.std.proofs.Math.Seq.{take-suc}
use lib.Seq.{take_all}
use mathlib.Core.List.{append-nil}
use borrow.Author.Tests.{eq-eqb, ne_eqb}
use Rattle.std.specs.List.{starts_with}
use Rattle.log_tools.specs.Failures.{number, reason_of}
use Rattle.log_tools.proofs.failures.reason_end.Goals as goal
use Rattle.log_tools.proofs.failures.reason_end.Goals.{then-text-i-eq0-via-then-text-i-eq0, then-text-i-eq0-via-else-text-i-eq0+then-starts_with}

-- what ends the reason
abbrev ends : ℕ → List ℕ → Bool
ends c t = eqb c 0 || starts_with eqb t number

stopped : (c : ℕ) (t : List ℕ) → ends c (c ∷ t) ≡ true → reason_of (c ∷ t) ≡ []
unfolding reason_of
stopped c t e = rw e

further : (c : ℕ) (t : List ℕ) → ends c (c ∷ t) ≡ false → reason_of (c ∷ t) ≡ c ∷ reason_of t
unfolding reason_of
further c t e = rw e

nothing-left : reason_of [] ≡ []
unfolding reason_of
nothing-left = refl

module _ (s : List ℕ) (i : ℕ) (before : reason_of s ≡ take i s ++ reason_of (drop i s)) where
  stops : i < length s → ends (get_or s i 0) (drop i s) ≡ true → take i s ≡ reason_of s
  stops h e =
      let d = drop-cons s i 0 h in
      let t = subst (λ (x : List ℕ). ends (get_or s i 0) x ≡ true) d e in
      sym (before ∙ ap (λ (x : List ℕ). take i s ++ reason_of x) d ∙ ap (λ (x : List ℕ). take i s ++ x) (stopped (get_or s i 0) (drop (suc i) s) t) ∙ append-nil (take i s))

  goes-on : i < length s → ends (get_or s i 0) (drop i s) ≡ false → reason_of s ≡ take (i + 1) s ++ reason_of (drop (i + 1) s)
  goes-on h e =
      let d = drop-cons s i 0 h in
      let t = subst (λ (x : List ℕ). ends (get_or s i 0) x ≡ false) d e in
      let c = get_or s i 0 in
      before ∙ ap (λ (x : List ℕ). take i s ++ reason_of x) d ∙ ap (λ (x : List ℕ). take i s ++ x) (further c (drop (suc i) s) t)
      ∙ sym (append_assoc (take i s) (c ∷ []) (reason_of (drop (suc i) s))) ∙ ap (λ (x : List ℕ). x ++ reason_of (drop (suc i) s)) (sym (take-suc s i 0 h))
      ∙ ap (λ (n : ℕ). take n s ++ reason_of (drop n s)) (sym (add-one i))

  over : length s ≤ i → take i s ≡ reason_of s
  over h = sym (before ∙ ap (λ (x : List ℕ). take i s ++ reason_of x) (drop_of_length-le s h) ∙ ap (λ (x : List ℕ). take i s ++ x) nothing-left ∙ append-nil (take i s))

-- all behind a place
rest-whole : (s : List ℕ) (i : ℕ) → take (length s - i) (drop i s) ≡ drop i s
rest-whole s i = let all : length (drop i s) ≤ length s - i = simp length-drop (omega arith) in take_all (length s - i) (drop i s) all

-- the two tests together
zero-ends : (c : ℕ) (t : List ℕ) → c ≡ 0 → ends c t ≡ true
zero-ends c t e = rw (eq-eqb c 0 e)

neither-ends : (c : ℕ) (t : List ℕ) (b : Bool) → (c ≡ 0 → ⊥) → b ≡ starts_with eqb t number → ends c t ≡ b
neither-ends c t b n e = rw (ne_eqb c 0 n) (sym e)

pub returns-then-text-i-eq0-clause-value : goal.returns-then-text-i-eq0-clause-value
returns-then-text-i-eq0-clause-value c =
    stops _ _ c.loop-i.invariant c.loop-i-test.true
    (elim c.then-text-i-eq0.branch [
      | then-text-i-eq0-via-then-text-i-eq0 w ↦ zero-ends (get_or c.args.text.now c.loop-i.i 0) (drop c.loop-i.i c.args.text.now) w.if-text-i-eq0.true
      | then-text-i-eq0-via-else-text-i-eq0+then-starts_with w ↦
          neither-ends (get_or c.args.text.now c.loop-i.i 0) (drop c.loop-i.i c.args.text.now) _ w.if-text-i-eq0.false
          (w.starts_with.ensures.value ∙ ap (λ (x : List ℕ). starts_with eqb x number) (rest-whole c.args.text.now c.loop-i.i)) ∙ w.if-starts_with.true
    ])

pub loop-i-preserved : goal.loop-i-preserved
loop-i-preserved c = goes-on _ _ c.loop-i.invariant c.loop-i-test.true (neither-ends (get_or c.args.text.now c.loop-i.i 0) (drop c.loop-i.i c.args.text.now) _ c.if-text-i-eq0.false (c.starts_with.ensures.value ∙ ap (λ (x : List ℕ). starts_with eqb x number) (rest-whole c.args.text.now c.loop-i.i)) ∙ c.if-starts_with.false)

pub returns-clause-value : goal.returns-clause-value
returns-clause-value c =
    let e : c.loop-i.i ≡ length c.args.text.now = omega arith in
    subst (λ (n : ℕ). take n c.args.text.now ≡ reason_of c.args.text.now) e (over _ _ c.loop-i.invariant c.loop-i-test.false)
