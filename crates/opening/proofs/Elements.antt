-- A list of known length, element by element: so a frame is known by its length and its bytes.
use Prim.Native.Nat.{ℕ, zero, suc}
use mathlib.Core.List.{List, [], ◌∷◌}
use mathlib.Core.Path.{◌≡◌, refl, sym, ap, ◌∙◌}
use lib.ListN.{length, get_or}

-- so many elements, from a place on
abbrev elements : (from count : ℕ) → List ℕ → List ℕ
elements from zero s = []
elements from (suc count) s = get_or s from 0 ∷ elements (suc from) count s

behind : (a : ℕ) (s : List ℕ) (from count : ℕ) → elements (suc from) count (a ∷ s) ≡ elements from count s
behind a s from zero = refl
behind a s from (suc count) = ap (λ (t : List ℕ). get_or s from 0 ∷ t) (behind a s (suc from) count)

all : (s : List ℕ) → s ≡ elements 0 (length s) s
all [] = refl
all (a ∷ s) = ap (λ (t : List ℕ). a ∷ t) (all s ∙ sym (behind a s 0 (length s)))

-- a list is its elements, as many as it is long
pub counted : {n : ℕ} (s : List ℕ) → length s ≡ n → s ≡ elements 0 n s
counted s l = all s ∙ ap (λ (n : ℕ). elements 0 n s) l
