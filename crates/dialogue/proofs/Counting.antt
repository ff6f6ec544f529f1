-- Numbers, word by word.
--     all-given                eleven words that were cut out
--     fits_byte, fits_word     what was read fits its setting
--     is-refused               and what does not makes settings out of range
use Rattle.std.proofs.Common.{◌≡◌, ℕ, suc, ◌≤◌, true, false, List, [], ◌∷◌, map, get_or, replicate, refl, ◌∙◌, arith, w8, w16, Fits}
use Rattle.laws.proofs.Cases.{by-lt}
use Rattle.profile.specs.Profile.{within, tp20, drive, comfort, high, low}
use Rattle.profile.specs.declared.Profile.{Profile}
use Rattle.settings.specs.Settings.{allowed_by}
use Rattle.settings.specs.declared.Settings.{Settings}
use Rattle.std.specs.Prelude.{Result, Ok, Err}
use Rattle.text.specs.declared.reading.NumberError.{NumberError}
use Rattle.text.specs.declared.reading.NumberError.TheVariants.{TooLarge, Bad}
use Rattle.dialogue.specs.declared.numbers.Numbers.{Numbers}
use Rattle.dialogue.specs.Numbers.{no_numbers, with_number, next_number, largest, after_words, out_of_range_if, given_by}

holds : (n : Numbers) (at most : ℕ) (d : Result ℕ NumberError) → (with_number n at most d).value ≤ most
unfolding with_number
holds n at most (Ok v) = by-lt (λ (r : Numbers). r.value ≤ most) most v (λ l. omega arith) (λ l. l)
holds n at most (Err TooLarge) = omega arith
holds n at most (Err Bad) = omega arith

held : (n r : Numbers) (s : List ℕ) (most : ℕ) → r ≡ next_number n s most → r.value ≤ most
unfolding next_number
held n r s most e = rw e (holds n _ most _)

pub fits_byte : (n r : Numbers) (s : List ℕ) → r ≡ next_number n s 0xFF → Fits w8 r.value
fits_byte n r s e = record { fits = omega (arith, held n r s 0xFF e) }

pub fits_word : (n r : Numbers) (s : List ℕ) → r ≡ next_number n s 0xFFFF → Fits w16 r.value
fits_word n r s e = record { fits = omega (arith, held n r s 0xFFFF e) }

one_more : (k : ℕ) (n r : Numbers) (s : List ℕ) → n ≡ after_words k s → r ≡ next_number n s (get_or largest k 0) → r ≡ after_words (suc k) s
unfolding after_words
one_more k n r s e f = f ∙ rw e

none_yet : (n : Numbers) (s : List ℕ) → n ≡ no_numbers → n ≡ after_words 0 s
unfolding after_words
none_yet n s e = e

module _ (s : List ℕ) (n₀ n₁ n₂ n₃ n₄ n₅ n₆ n₇ n₈ n₉ n₁₀ n₁₁ : Numbers) (t : Settings) where
  pub all-given : n₁₁ ≡ next_number n₁₀ s 0xFF
      → n₁₀ ≡ next_number n₉ s 0xFFFF
      → n₉ ≡ next_number n₈ s 0xFFFF
      → n₈ ≡ next_number n₇ s 0xFF
      → n₇ ≡ next_number n₆ s 0xFF
      → n₆ ≡ next_number n₅ s 0xFFFF
      → n₅ ≡ next_number n₄ s 0xFF
      → n₄ ≡ next_number n₃ s 0xFF
      → n₃ ≡ next_number n₂ s 0xFF
      → n₂ ≡ next_number n₁ s 0xFF
      → n₁ ≡ next_number n₀ s 0xFFFF
      → n₀ ≡ no_numbers
      → t ≡ out_of_range_if n₁₁.beyond (record { receive = n₁.value; unit = n₂.value; block = n₃.value; t1 = n₄.value; t3 = n₅.value; t_e = n₆.value; mntc = n₇.value; mntb = n₈.value; t_wait = n₉.value; t_ct = n₁₀.value; mnct = n₁₁.value })
      → record { settings = t; numbers = n₁₁ } ≡ given_by s
  unfolding given_by
  all-given e₁₁ e₁₀ e₉ e₈ e₇ e₆ e₅ e₄ e₃ e₂ e₁ e₀ e =
      let a₀ = none_yet n₀ s e₀ in
      let a₁ = one_more 0 n₀ n₁ s a₀ e₁ in
      let a₂ = one_more 1 n₁ n₂ s a₁ e₂ in
      let a₃ = one_more 2 n₂ n₃ s a₂ e₃ in
      let a₄ = one_more 3 n₃ n₄ s a₃ e₄ in
      let a₅ = one_more 4 n₄ n₅ s a₄ e₅ in
      let a₆ = one_more 5 n₅ n₆ s a₅ e₆ in
      let a₇ = one_more 6 n₆ n₇ s a₆ e₇ in
      let a₈ = one_more 7 n₇ n₈ s a₇ e₈ in
      let a₉ = one_more 8 n₈ n₉ s a₈ e₉ in
      let a₁₀ = one_more 9 n₉ n₁₀ s a₉ e₁₀ in
      let a₁₁ = one_more 10 n₁₀ n₁₁ s a₁₀ e₁₁ in
      rw (e, a₁, a₂, a₃, a₄, a₅, a₆, a₇, a₈, a₉, a₁₀, a₁₁)

-- in every profile
pub is-refused : (s : Settings) → map (λ (p : Profile). allowed_by p (out_of_range_if true s)) (tp20 ∷ drive ∷ comfort ∷ high ∷ low ∷ []) ≡ replicate 5 false
unfolding allowed_by within
is-refused s = refl
