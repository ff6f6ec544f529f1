-- Elements of lists, zero past the end.
use Prim.Native.Nat.{ℕ}
use mathlib.Core.Path.{◌≡◌, refl}
use mathlib.Core.List.{List, [], ◌∷◌, ◌++◌}
use lib.ListN.{take, get_or, replicate}

-- the first seven elements and zeros behind them, one by one
pub take-padded : (s : List ℕ) → take 7 (take 7 s ++ replicate 8 0) ≡ get_or s 0 0 ∷ get_or s 1 0 ∷ get_or s 2 0 ∷ get_or s 3 0 ∷ get_or s 4 0 ∷ get_or s 5 0 ∷ get_or s 6 0 ∷ []
take-padded [] = refl
take-padded (a ∷ []) = refl
take-padded (a ∷ b ∷ []) = refl
take-padded (a ∷ b ∷ c ∷ []) = refl
take-padded (a ∷ b ∷ c ∷ d ∷ []) = refl
take-padded (a ∷ b ∷ c ∷ d ∷ e ∷ []) = refl
take-padded (a ∷ b ∷ c ∷ d ∷ e ∷ f ∷ []) = refl
take-padded (a ∷ b ∷ c ∷ d ∷ e ∷ f ∷ g ∷ s) = refl
