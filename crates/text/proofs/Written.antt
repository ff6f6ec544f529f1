-- What is written piece by piece is written as a whole.
--     none, past, then     no characters, no room, and one text behind another
--     joined, joined3, joined4     texts behind each other, by another name
--     more                 one element more of a list that is written piece by piece
--     worded, worded-one   a text or a character, by another name
use Prim.Native.Nat.{ℕ, suc, ◌+◌, ◌≤◌, ◌<◌}
use native.Mathlib.Numerals.{add-one}
use native.Mathlib.Omega.{arith}
use mathlib.Core.List.{List, [], ◌∷◌, ◌++◌}
use mathlib.Core.Path.{◌≡◌, refl, sym, ap, ◌∙◌}
use lib.Dec.{leb}
use lib.ListN.{length, take, set, get_or, length-append}
use lib.Seq.{sets, length-sets, set_out, take-suc, take_all}
use borrow.Author.Tests.{leb-true, leb-false}
use Rattle.laws.proofs.Cases.{either}
use Rattle.text.specs.Written.{Writes, pair_of, pairs_of}

sets-append : (s t b : List ℕ) (at : ℕ) → sets b at (s ++ t) ≡ sets (sets b at s) (at + length s) t
sets-append [] t b at = let e : at + 0 ≡ at = omega arith in rw e
sets-append (a ∷ s) t b at = let e : at + suc (length s) ≡ suc at + length s = omega arith in rw e (sets-append s t (set b at a) (suc at))

sets-past : (s b : List ℕ) (at : ℕ) → length b ≤ at → sets b at s ≡ b
sets-past [] b at h = refl
sets-past (a ∷ s) b at h = rw (set_out b at a h) (sets-past s b (suc at) (omega arith))

pub none : (b : List ℕ) (at : ℕ) → Writes b at [] b at
none b at = record { text = refl; place = omega arith }

pub past : (b : List ℕ) (at : ℕ) (s : List ℕ) → length b ≤ at → Writes b at s b at
past b at s h = record { text = sym (sets-past s b at h); place = omega arith }

pub then : {b : List ℕ} {at : ℕ} {s t b' b'' : List ℕ} {n m : ℕ} → Writes b at s b' n → Writes b' n t b'' m → Writes b at (s ++ t) b'' m
then {b} {at} {s} {t} {b'} {b''} {n} {m} p q = record {
  text = q.text ∙ ap (λ (l : List ℕ). sets l n t) p.text ∙ both ∙ sym (sets-append s t b at);
  place = let l : length b' ≡ length b = ap length p.text ∙ length-sets b at s in
      let k : length (s ++ t) ≡ length s + length t = length-append s t in
      q.place ∙ rw (l, k) (omega (arith, p.place));
}
  where
    both : sets (sets b at s) n t ≡ sets (sets b at s) (at + length s) t
    both =
        let l : length (sets b at s) ≡ length b = length-sets b at s in
        either (leb (at + length s) (length b))
        (λ e. let h : at + length s ≤ length b = leb-true _ _ e in let k : n ≡ at + length s = omega (arith, p.place) in rw k)
        (λ e. let h : length b < at + length s = leb-false _ _ e in
        sets-past t (sets b at s) n (omega (arith, p.place)) ∙ sym (sets-past t (sets b at s) (at + length s) (omega arith)))

pub joined : (b : List ℕ) (at : ℕ) (s t u b' b'' : List ℕ) (n m : ℕ) → Writes b at s b' n → Writes b' n t b'' m → s ++ t ≡ u → Writes b at u b'' m
joined b at s t u b' b'' n m p q e = rw e at (then p q)

pub joined3 : (b : List ℕ) (at : ℕ) (s t u v b₁ b₂ b₃ : List ℕ) (n₁ n₂ n₃ : ℕ)
    → Writes b at s b₁ n₁ → Writes b₁ n₁ t b₂ n₂ → Writes b₂ n₂ u b₃ n₃ → s ++ t ++ u ≡ v → Writes b at v b₃ n₃
joined3 b at s t u v b₁ b₂ b₃ n₁ n₂ n₃ p q r e = rw e at (then (then p q) r)

pub joined4 : (b : List ℕ) (at : ℕ) (s t u v w b₁ b₂ b₃ b₄ : List ℕ) (n₁ n₂ n₃ n₄ : ℕ)
    → Writes b at s b₁ n₁ → Writes b₁ n₁ t b₂ n₂ → Writes b₂ n₂ u b₃ n₃ → Writes b₃ n₃ v b₄ n₄ → s ++ t ++ u ++ v ≡ w → Writes b at w b₄ n₄
joined4 b at s t u v w b₁ b₂ b₃ b₄ n₁ n₂ n₃ n₄ p q r o e = rw e at (then (then (then p q) r) o)

pub more : (s : List ℕ) (i : ℕ) → i < length s → take (i + 1) s ≡ take i s ++ (get_or s i 0 ∷ [])
more s i h = rw (add-one, take-suc s i 0)

pairs_of-append : (s t : List ℕ) → pairs_of (s ++ t) ≡ pairs_of s ++ pairs_of t
unfolding pairs_of
pairs_of-append [] t = refl
pairs_of-append (b ∷ s) t = rw (pairs_of-append s t)

pub more-pairs : (s : List ℕ) (i : ℕ) → i < length s → pairs_of (take (i + 1) s) ≡ pairs_of (take i s) ++ (32 ∷ pair_of (get_or s i 0))
unfolding pairs_of
more-pairs s i h = rw (more s i h) (pairs_of-append (take i s) (get_or s i 0 ∷ []))

pub keeps-length : (b : List ℕ) (at : ℕ) (s b' : List ℕ) (n : ℕ) → Writes b at s b' n → length b' ≡ length b
keeps-length b at s b' n w = ap length w.text ∙ length-sets b at s

pub whole : (b : List ℕ) (at : ℕ) (s b' : List ℕ) (n i : ℕ) → Writes b at (take i s) b' n → length s ≤ i → Writes b at s b' n
whole b at s b' n i w h = rw (take_all i s h) at w

pub one_more : (b : List ℕ) (at : ℕ) (s b' b'' : List ℕ) (n m i : ℕ) → Writes b at (take i s) b' n → i < length s → Writes b' n (get_or s i 0 ∷ []) b'' m → Writes b at (take (i + 1) s) b'' m
one_more b at s b' b'' n m i w h v = rw (more s i h) (then w v)

pub one-more-pair : (b : List ℕ) (at : ℕ) (s b' b'' : List ℕ) (n m i : ℕ) → Writes b at (pairs_of (take i s)) b' n → i < length s → Writes b' n (32 ∷ pair_of (get_or s i 0)) b'' m → Writes b at (pairs_of (take (i + 1) s)) b'' m
one-more-pair b at s b' b'' n m i w h v = rw (more-pairs s i h) (then w v)

pub worded : (b : List ℕ) (at : ℕ) (s t b' : List ℕ) (n : ℕ) → Writes b at s b' n → s ≡ t → Writes b at t b' n
worded b at s t b' n p e = rw e at p

pub worded-one : (b : List ℕ) (at v w : ℕ) (b' : List ℕ) (n : ℕ) → Writes b at (v ∷ []) b' n → v ≡ w → Writes b at (w ∷ []) b' n
worded-one b at v w b' n p e = rw e at p
