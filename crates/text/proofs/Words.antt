-- A run of blanks or of other characters, from a place on, character by character.
--     goes_on, breaks, is-over     the next character belongs to it, does not, or there is none
--     behind                       it starts at a place of a text
use Prim.Native.Nat.{ℕ, ◌+◌, ◌-◌, ◌≤◌, ◌<◌}
use native.Mathlib.Numerals.{add-one}
use native.Mathlib.Omega.{arith}
use mathlib.Core.Bool.{Bool, true, false}
use mathlib.Core.List.{List}
use mathlib.Core.Path.{◌≡◌}
use lib.ListN.{length, take, drop, get_or, drop_of_length-le, length-drop}
use lib.Seq.{drop-cons, take_all}
use Rattle.text.specs.Words.{belongs, run_of}

module _ (blank : Bool) (s : List ℕ) (i : ℕ) where
  one_more : i < length s → belongs blank (get_or s i 0) ≡ true → run_of blank (drop i s) ≡ run_of blank (drop (i + 1) s) + 1
  unfolding run_of
  one_more h t = rw (add-one i, drop-cons s i 0 h, t, add-one)

  no_more : i < length s → belongs blank (get_or s i 0) ≡ false → run_of blank (drop i s) ≡ 0
  unfolding run_of
  no_more h t = rw (drop-cons s i 0 h, t)

  none_left : length s ≤ i → run_of blank (drop i s) ≡ 0
  unfolding run_of
  none_left h = rw (drop_of_length-le s h)

  module _ (e : run_of blank s ≡ i + run_of blank (drop i s)) where
    pub goes_on : i < length s → belongs blank (get_or s i 0) ≡ true → run_of blank s ≡ i + 1 + run_of blank (drop (i + 1) s)
    goes_on h t = omega (arith, one_more h t)

    pub breaks : i < length s → belongs blank (get_or s i 0) ≡ false → i ≡ run_of blank s
    breaks h t = omega (arith, no_more h t)

    pub is-over : length s ≡ i → length s ≡ run_of blank s
    is-over h = omega (arith, none_left (omega arith))

-- how many stand at the start of the part from a place on, counted from there
pub behind : (blank : Bool) (s rest : List ℕ) (from n : ℕ) → rest ≡ take (length s - from) (drop from s) → n ≡ run_of blank rest → from + n ≡ from + run_of blank (drop from s)
behind blank s rest from n e h = rw (h, e, take_all (length s - from) (drop from s) (omega (arith, length-drop from s)))
