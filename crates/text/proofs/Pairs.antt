-- Bytes, pair by pair.
--     Reading                        what is read before the rest stands in the first n bytes
--     skips, takes                   the rest starts with a blank, or with a pair
--     ends, lone, bad, no_room       how it comes to an end; with -into what that leaves of the bytes
use Prim.Native.Nat.{ℕ, ◌+◌, ◌-◌, ◌≤◌, ◌<◌}
use native.Mathlib.Numerals.{sub-one}
use native.Mathlib.Omega.{arith}
use mathlib.Core.Bool.{true, false}
use mathlib.Core.List.{List, [], ◌∷◌}
use mathlib.Core.Path.{◌≡◌, refl, sym, ap, ◌∙◌}
use lib.ListN.{length, take, drop, get_or, set, length-set}
use lib.Seq.{take_all}
use borrow.Author.Tests.{le-leb, lt-leb}
use Rattle.std.specs.Prelude.{Ok, Err}
use Rattle.text.specs.Words.{is_blank}
use Rattle.text.specs.Pairs.{is_pair, byte_of, pairs_read, pairs_into}
use Rattle.text.specs.declared.reading.PairsError.TheVariants.{TooMany, Bad}

abbrev pub Reading : List ℕ → List ℕ → List ℕ → ℕ → List ℕ → Type 0
Reading s b₀ b n rest =
    (pairs_read (length b₀) 0 s ≡ pairs_read (length b₀) n rest)
    × (pairs_into b₀ 0 s ≡ pairs_into b n rest)
    × (length b ≡ length b₀)

skip_read : (room n c : ℕ) (t : List ℕ) → is_blank c ≡ true → pairs_read room n (c ∷ t) ≡ pairs_read room n t
unfolding pairs_read
skip_read room n c [] e = rw e
skip_read room n c (d ∷ t) e = rw e

skip-into : (b : List ℕ) (n c : ℕ) (t : List ℕ) → is_blank c ≡ true → pairs_into b n (c ∷ t) ≡ pairs_into b n t
unfolding pairs_into
skip-into b n c [] e = refl
skip-into b n c (d ∷ t) e = rw e

-- a text of one character or more, and of two or more, is those and what is behind them
pub first : (s : List ℕ) → 1 ≤ length s → s ≡ get_or s 0 0 ∷ take (length s - 1) (drop 1 s)
first [] h = absurd (omega arith)
first (c ∷ s) h = rw (sub-one, take_all (length s) s (omega arith))

pub second : (s t : List ℕ) → 1 ≤ length s → t ≡ take (length s - 1) (drop 1 s) → 1 ≤ length t → s ≡ get_or s 0 0 ∷ get_or t 0 0 ∷ take (length t - 1) (drop 1 t)
second s t h e k = first s h ∙ ap (λ (r : List ℕ). get_or s 0 0 ∷ r) (sym e ∙ first t k)

-- and one of fewer than two is the first alone
pub alone : (s t : List ℕ) → 1 ≤ length s → t ≡ take (length s - 1) (drop 1 s) → length t < 1 → s ≡ get_or s 0 0 ∷ []
alone s [] h e k = first s h ∙ ap (λ (r : List ℕ). get_or s 0 0 ∷ r) (sym e)
alone s (d ∷ t) h e k = absurd (omega arith)

pub none : (s : List ℕ) → length s < 1 → s ≡ []
none [] h = refl
none (c ∷ s) h = absurd (omega arith)

module _ (s b₀ b : List ℕ) (n : ℕ) (rest : List ℕ) (w : Reading s b₀ b n rest) where
  pub ends : rest ≡ [] → Ok n ≡ pairs_read (length b₀) 0 s
  unfolding pairs_read
  ends e = sym (w.0 ∙ rw e)

  pub ends-into : rest ≡ [] → b ≡ pairs_into b₀ 0 s
  unfolding pairs_into
  ends-into e = sym (w.1 ∙ rw e)

  pub lone : (c : ℕ) → rest ≡ c ∷ [] → is_blank c ≡ false → Err Bad ≡ pairs_read (length b₀) 0 s
  unfolding pairs_read
  lone c e k = sym (w.0 ∙ rw (e, k))

  pub lone-into : (c : ℕ) → rest ≡ c ∷ [] → b ≡ pairs_into b₀ 0 s
  unfolding pairs_into
  lone-into c e = sym (w.1 ∙ rw e)

  pub skips : (c : ℕ) (t : List ℕ) → rest ≡ c ∷ t → is_blank c ≡ true → Reading s b₀ b n t
  skips c t e k = (w.0 ∙ rw e (skip_read (length b₀) n c t k), w.1 ∙ rw e (skip-into b n c t k), w.2)

  module _ (c d : ℕ) (t : List ℕ) (e : rest ≡ c ∷ d ∷ t) (k : is_blank c ≡ false) where
    pub bad : is_pair c d ≡ false → Err Bad ≡ pairs_read (length b₀) 0 s
    unfolding pairs_read
    bad p = sym (w.0 ∙ rw (e, k, p))

    pub bad-into : is_pair c d ≡ false → b ≡ pairs_into b₀ 0 s
    unfolding pairs_into
    bad-into p = sym (w.1 ∙ rw (e, k, p))

    module _ (p : is_pair c d ≡ true) where
      pub no_room : length b ≤ n → Err TooMany ≡ pairs_read (length b₀) 0 s
      unfolding pairs_read
      no_room h = let l : length b₀ ≤ n = omega arith in sym (w.0 ∙ rw (e, k, p, le-leb (length b₀) n l))

      pub no-room-into : length b ≤ n → b ≡ pairs_into b₀ 0 s
      unfolding pairs_into
      no-room-into h = sym (w.1 ∙ rw (e, k, p, le-leb (length b) n h))

      goes_on : n < length b → pairs_read (length b₀) 0 s ≡ pairs_read (length b₀) (n + 1) t
      unfolding pairs_read
      goes_on h = let l : n < length b₀ = omega arith in w.0 ∙ rw (e, k, p, lt-leb (length b₀) n l)

      goes-on-into : n < length b → (v : ℕ) → v ≡ byte_of c d → pairs_into b₀ 0 s ≡ pairs_into (set b n v) (n + 1) t
      unfolding pairs_into
      goes-on-into h v f = w.1 ∙ rw (e, k, p, lt-leb (length b) n h, f)

      pub takes : n < length b → (v : ℕ) → v ≡ byte_of c d → Reading s b₀ (set b n v) (n + 1) t
      takes h v f = (goes_on h, goes-on-into h v f, length-set b n v ∙ w.2)
