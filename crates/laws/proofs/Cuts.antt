-- Lists that are cut piece by piece.
use Prim.Native.Nat.{ℕ, zero, suc, ◌≤◌}
use native.Mathlib.Nat.{le_refl, not-suc-le-zero}
use native.Mathlib.Omega.{arith}
use mathlib.Core.List.{List, [], ◌∷◌}
use lib.ListN.{length, drop, length-drop}

-- what holds of no elements, and of a list whenever it holds past its first n + 1, holds of every list
pub by-pieces {ℓ κ} : {A : Type ℓ} (n : ℕ) (P : List A → Type κ) → P [] → ((a : A) (s : List A) → P (drop n s) → P (a ∷ s)) → (s : List A) → P s
by-pieces {A = A} n P none more s = go (length s) s (le_refl (length s))
  where
    go : (fuel : ℕ) (s : List A) → length s ≤ fuel → P s
    go zero [] h = none
    go (suc f) [] h = none
    go zero (a ∷ s) h = absurd (not-suc-le-zero h)
    go (suc f) (a ∷ s) h = more a s (go f (drop n s) (simp length-drop (omega arith)))
