-- Characters that are written one by one, those that would spoil a line as `?`.
use Prim.Native.Nat.{ℕ, ◌+◌, ◌<◌}
use mathlib.Core.List.{List, [], ◌∷◌, ◌++◌}
use mathlib.Core.Path.{◌≡◌, refl}
use lib.ListN.{length, take, get_or}
use Rattle.text.specs.Written.{Writes}
use Rattle.text.proofs.Written.{then, more}
use Rattle.log_tools.specs.Complaints.{shown_as, plain_of}

plain_of-append : (s t : List ℕ) → plain_of (s ++ t) ≡ plain_of s ++ plain_of t
unfolding plain_of
plain_of-append [] t = refl
plain_of-append (c ∷ s) t = rw (plain_of-append s t)

more-plain : (s : List ℕ) (i : ℕ) → i < length s → plain_of (take (i + 1) s) ≡ plain_of (take i s) ++ (shown_as (get_or s i 0) ∷ [])
unfolding plain_of
more-plain s i h = rw (more s i h) (plain_of-append (take i s) (get_or s i 0 ∷ []))

pub one-more-plain : (b : List ℕ) (at : ℕ) (s b' b'' : List ℕ) (n m i c : ℕ)
    → Writes b at (plain_of (take i s)) b' n → i < length s → c ≡ shown_as (get_or s i 0) → Writes b' n (c ∷ []) b'' m → Writes b at (plain_of (take (i + 1) s)) b'' m
one-more-plain b at s b' b'' n m i c w h e v = rw (more-plain s i h) (then w (rw (← e) v))
