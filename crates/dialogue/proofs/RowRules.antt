-- The rows of TP 1.6: which words name one, and what stands behind it.
use Rattle.std.proofs.Common.{◌≡◌, ℕ, ◌≢◌, List, [], ◌∷◌, map, length, refl, ne_eqb}
use Rattle.std.specs.Prelude.{Some, None}
use Rattle.profile.specs.Profile as profile
use Rattle.profile.specs.declared.Profile.{Profile}
use Rattle.settings.specs.Settings.{defaults16}
use Rattle.settings.specs.declared.Settings.{Settings}
use Rattle.dialogue.specs.Words.{word_at, behind_word, letters_of}
use Rattle.dialogue.specs.Numbers.{opening_with, opening_of}
use Rattle.dialogue.specs.Rows.{drive, comfort, high, low, row_of, opening_as, opening_in, opening16_of}

-- ---- the row

-- each name, and its row
pub row_of-names : map row_of (drive ∷ comfort ∷ high ∷ low ∷ []) ≡ map Some (profile.drive ∷ profile.comfort ∷ profile.high ∷ profile.low ∷ [])
unfolding row_of
row_of-names = refl

-- and no other
pub row_of-unknown : (n : ℕ) → n ≢ drive → n ≢ comfort → n ≢ high → n ≢ low → row_of n ≡ None
unfolding row_of
row_of-unknown n d c h l = rw (ne_eqb n drive d, ne_eqb n comfort c, ne_eqb n high h, ne_eqb n low l)

-- ---- what stands behind it

-- words behind it are read as those of an opening in TP 2.0
pub opening_with-words : (d : Settings) (s : List ℕ) → length s ≢ 0 → opening_with d s ≡ opening_of s
unfolding opening_with
opening_with-words d s h = rw (ne_eqb (length s) 0 h)

module _ (s : List ℕ) where
  pub opening16_of-unknown : row_of (letters_of (word_at s 0)) ≡ None → opening16_of s ≡ None
  unfolding opening16_of opening_in
  opening16_of-unknown e = rw e

  module _ (p : Profile) (e : row_of (letters_of (word_at s 0)) ≡ Some p) where
    -- none: the defaults of the row
    pub opening16_of-alone : behind_word s ≡ [] → opening16_of s ≡ Some (record { profile = p; settings = defaults16 p })
    unfolding opening16_of opening_in opening_as opening_with
    opening16_of-alone h = rw (e, h)

    -- words: the settings that `open` takes from them, or wrong as there
    pub opening16_of-numbers : (t : Settings) → length (behind_word s) ≢ 0 → opening_of (behind_word s) ≡ Some t → opening16_of s ≡ Some (record { profile = p; settings = t })
    unfolding opening16_of opening_in opening_as
    opening16_of-numbers t h g = rw (e, opening_with-words (defaults16 p) (behind_word s) h, g)

    pub opening16_of-wrong : length (behind_word s) ≢ 0 → opening_of (behind_word s) ≡ None → opening16_of s ≡ None
    unfolding opening16_of opening_in opening_as
    opening16_of-wrong h g = rw (e, opening_with-words (defaults16 p) (behind_word s) h, g)
