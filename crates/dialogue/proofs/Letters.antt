-- The letters of a word, one by one.
use Rattle.std.proofs.Common.{◌≡◌, ℕ, suc, ◌+◌, ◌*◌, ◌^◌, ◌<◌, ◌≤◌, List, length, get_or, drop, sym, ◌∙◌, lt_of_lt_of_le, pow-suc, add-one, arith, drop_of_length-le, drop-cons}
use native.Mathlib.Nat.{pow-le-pow_right}
use Rattle.dialogue.specs.Words.{letters_from}

-- what the first i letters make, and how large it is
abbrev pub Spelling : List ℕ → ℕ → ℕ → Type 0
Spelling s n i = (letters_from 0 s ≡ letters_from n (drop i s)) × (n < 256 ^ i)

module _ (s : List ℕ) (n i : ℕ) where
  -- a letter more has room
  pub has_room : Spelling s n i → i < length s → length s ≤ 8 → n < 72057594037927936
  has_room p h l = let small : 256 ^ i ≤ 256 ^ 7 = pow-le-pow_right {n = 256} (omega arith) {i = i} {j = 7} (omega arith) in lt_of_lt_of_le p.1 small

  pub spells : (v : ℕ) → Spelling s n i → i < length s → v ≡ get_or s i 0 → v ≤ 255 → Spelling s (256 * n + v) (i + 1)
  unfolding letters_from
  spells v p h e b =
      let q : 256 ^ suc i ≡ 256 ^ i * 256 = pow-suc _ _ in
      (p.0 ∙ rw (e, add-one i, drop-cons s i 0 h), rw (add-one i, q) (omega (arith, p.1)))

  pub spelt : Spelling s n i → length s ≤ i → n ≡ letters_from 0 s
  unfolding letters_from
  spelt p h = sym (p.0 ∙ rw (drop_of_length-le s h))
