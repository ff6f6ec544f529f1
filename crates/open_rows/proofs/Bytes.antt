-- How bytes are sorted: a telegram goes by the conditions of specs/Rows.antt, which shut one another out.
use Prim.Native.Nat.{ℕ, ◌≤◌}
use native.Mathlib.Omega.{arith}
use mathlib.Core.Bool.{Bool, true, false, ◌&&◌, ◌||◌, not, true≢false}
use mathlib.Core.List.{List}
use mathlib.Core.Path.{◌≡◌, refl, sym, ap, ◌∙◌}
use lib.ListN.{length, get_or}
use lib.Dec.{ltb, leb, eqb}
use borrow.Author.Tests.{ltb-true, lt-leb, eqb-true, ne_eqb}
use Rattle.laws.proofs.Branches.{and-off, and-off'}
use Rattle.laws.proofs.Cases.{by, either, and_first, and_second}
use Rattle.telegram.specs.Kinds.{fields, kind_of}
use Rattle.telegram.specs.declared.kinds.Telegram.{Telegram}
use Rattle.telegram.specs.declared.kinds.Telegram.TheVariants.{Data, Ack, Test, Break, Disconnect, Setup, Accept, Malformed}
use Rattle.open_rows.proofs.Same.{data-same, asks-same, last-same, ack-same, ready-same}
use Rattle.open_rows.specs.Rows.{is_data, asks_ack, is_last, number_in, is_ack, is_ready, is_test, is_break, is_disconnect, is_setup, is_accept, is_telegram, is_padded, own_or_eight}

-- which of the seven kinds the bytes are
pub record Kind (s : List ℕ) (d a t b x u p : Bool) : Type 0 where
  pub data' : is_data s ≡ d
  pub ack : is_ack s ≡ a
  pub test : is_test s ≡ t
  pub break : is_break s ≡ b
  pub disconnect : is_disconnect s ≡ x
  pub setup : is_setup s ≡ u
  pub accept : is_accept s ≡ p

-- the kind of this number alone: data, Ack, test, break, disconnect, A0, A1, or with 7 none
abbrev pub Only : List ℕ → ℕ → Type 0
Only s n = Kind s (eqb n 0) (eqb n 1) (eqb n 2) (eqb n 3) (eqb n 4) (eqb n 5) (eqb n 6)

-- then whether they are a telegram at all
pub telegram : {s : List ℕ} {d a t b x u p : Bool} → Kind s d a t b x u p → is_telegram s ≡ (d || a || t || b || x || u || p)
unfolding is_telegram
telegram k = rw (k.data', k.ack, k.test, k.break, k.disconnect, k.setup, k.accept)

-- two numbers that a test tells apart
apart : (f : ℕ → Bool) (n m : ℕ) → f n ≡ true → f m ≡ false → eqb n m ≡ false
apart f n m p q = ne_eqb n m (λ e. true≢false (sym p ∙ ap f e ∙ q))

-- an Ack's byte
abbrev is_ack_byte : ℕ → Bool
is_ack_byte b = leb 0x90 b && ltb b 0xA0 || leb 0xB0 b && ltb b 0xC0

-- it lies above data's
ack-above : (b : ℕ) → ltb b 0x40 ≡ true → is_ack_byte b ≡ false
ack-above b e = let l = ltb-true b 0x40 e in rw (lt-leb 0x90 b (omega arith), lt-leb 0xB0 b (omega arith))

module _ (s : List ℕ) where
  -- data is nothing else
  data-kind : is_data s ≡ true → Only s 0
  unfolding is_data is_ack is_test is_break is_disconnect is_setup is_accept
  data-kind d =
      let upper : ltb (get_or s 0 0) 0x40 ≡ true = search (and_first, and_second) in
      let no-ack = ack-above (get_or s 0 0) upper in
      let a3 = apart (λ n. ltb n 0x40) (get_or s 0 0) 0xA3 upper refl in
      let a4 = apart (λ n. ltb n 0x40) (get_or s 0 0) 0xA4 upper refl in
      let a8 = apart (λ n. ltb n 0x40) (get_or s 0 0) 0xA8 upper refl in
      let a0 = apart (λ n. ltb n 0x40) (get_or s 0 0) 0xA0 upper refl in
      let a1 = apart (λ n. ltb n 0x40) (get_or s 0 0) 0xA1 upper refl in
      search (and-off, and-off')

  -- nor is an Ack
  pub ack-kind : is_ack s ≡ true → Only s 1
  unfolding is_data is_ack is_test is_break is_disconnect is_setup is_accept
  ack-kind a =
      let lower : is_ack_byte (get_or s 0 0) ≡ true = and_second (own_or_eight 1 s) (is_ack_byte (get_or s 0 0)) a in
      let upper : ltb (get_or s 0 0) 0x40 ≡ false = either (ltb (get_or s 0 0) 0x40) (λ e. absurd (true≢false (sym lower ∙ ack-above (get_or s 0 0) e))) (λ e. e) in
      let a3 = apart is_ack_byte (get_or s 0 0) 0xA3 lower refl in
      let a4 = apart is_ack_byte (get_or s 0 0) 0xA4 lower refl in
      let a8 = apart is_ack_byte (get_or s 0 0) 0xA8 lower refl in
      let a0 = apart is_ack_byte (get_or s 0 0) 0xA0 lower refl in
      let a1 = apart is_ack_byte (get_or s 0 0) 0xA1 lower refl in
      search (and-off, and-off')

  -- the others are told by their length and first byte
  code-kind : (n x : ℕ) → length s ≡ n → get_or s 0 0 ≡ x
      → Kind s (ltb x 0x40 && ltb 1 n && ltb n 9) ((eqb n 1 || eqb n 8) && is_ack_byte x) ((eqb n 1 || eqb n 8) && eqb x 0xA3) ((eqb n 1 || eqb n 8) && eqb x 0xA4)
      ((eqb n 1 || eqb n 8) && eqb x 0xA8) (eqb n 6 && eqb x 0xA0) ((eqb n 6 || eqb n 8) && eqb x 0xA1)
  unfolding is_data is_ack is_test is_break is_disconnect is_setup is_accept
  code-kind n x l e = record { data' = rw (l, e); ack = rw (l, e); test = rw (l, e); break = rw (l, e); disconnect = rw (l, e); setup = rw (l, e); accept = rw (l, e) }

  -- at its own length or at eight bytes
  at-either : {P : Type 0} (n x : ℕ) → (own_or_eight n s && eqb (get_or s 0 0) x) ≡ true → (length s ≡ n → get_or s 0 0 ≡ x → P) → (length s ≡ 8 → get_or s 0 0 ≡ x → P) → P
  at-either n x h own eight =
      let e = eqb-true (get_or s 0 0) x (search and_second) in
      let l : own_or_eight n s ≡ true = search and_first in
      either (eqb (length s) n) (λ t. own (eqb-true (length s) n t) e) (λ t. eight (eqb-true (length s) 8 (rw t at l)) e)

  -- what holds of a telegram, by its kind
  pub by_kind : (P : Telegram → Type 0)
      → (Only s 0 → P (Data (asks_ack s) (is_last s) (number_in s)))
      → (Only s 1 → P (Ack (is_ready s) (number_in s)))
      → (Only s 2 → P Test)
      → (Only s 3 → P Break)
      → (Only s 4 → P Disconnect)
      → (Only s 5 → P (Setup (fields s)))
      → (Only s 6 → P (Accept (fields s)))
      → (Only s 7 → P Malformed)
      → P (kind_of s (get_or s 0 0))
  unfolding kind_of is_data is_ack is_test is_break is_disconnect is_setup is_accept
  by_kind P data' ack test break disconnect setup accept malformed =
      rw (← data-same s, ← ack-same s)
      (by P (is_data s) (λ d. rw (← asks-same s d, ← last-same s) (data' (data-kind d))) (λ d.
      by P (is_ack s) (λ a. rw (← ready-same s a) (ack (ack-kind a))) (λ a.
      by P (is_test s) (λ t. test (at-either 1 0xA3 t (code-kind 1 0xA3) (code-kind 8 0xA3))) (λ t.
      by P (is_break s) (λ b. break (at-either 1 0xA4 b (code-kind 1 0xA4) (code-kind 8 0xA4))) (λ b.
      by P (is_disconnect s) (λ x. disconnect (at-either 1 0xA8 x (code-kind 1 0xA8) (code-kind 8 0xA8))) (λ x.
      by P (is_setup s) (λ u. setup (code-kind 6 0xA0 (eqb-true (length s) 6 (search and_first)) (eqb-true (get_or s 0 0) 0xA0 (search and_second)))) (λ u.
      by P (is_accept s) (λ p. accept (at-either 6 0xA1 p (code-kind 6 0xA1) (code-kind 8 0xA1)))
      (λ p. malformed (record { data' = d; ack = a; test = t; break = b; disconnect = x; setup = u; accept = p })))))))))

-- data has two bytes or more
pub data-bytes : (s : List ℕ) → is_data s ≡ true → 2 ≤ length s
unfolding is_data
data-bytes s d = ltb-true 1 (length s) (search (and_first, and_second))

-- padded: no data, of eight bytes
pub data-unpadded : (s : List ℕ) → is_data s ≡ true → is_padded s ≡ false
unfolding is_padded
data-unpadded s d = rw d

pub padded-eight : (s : List ℕ) → is_data s ≡ false → is_padded s ≡ eqb (length s) 8
unfolding is_padded
padded-eight s d = rw d

-- an A0 has six
pub setup-unpadded : (s : List ℕ) → is_setup s ≡ true → is_padded s ≡ false
unfolding is_padded is_setup
setup-unpadded s u = let l = eqb-true (length s) 6 (search and_first) in rw (l, and-off' (not (is_data s)) false refl)
