-- The view of sorting: a telegram is of a kind, padded or not, exactly if it has the bytes of that kind, and malformed exactly if it has those of none.
--     taken                           for any reader
--     own-sorted, filled-sorted    a control telegram at its own length, and with any content up to 8 bytes
--     sorts                           for telegrams
use Rattle.std.specs.Prelude.{if◌then◌else◌}
use Prim.Native.Nat.{ℕ, ◌+◌, ◌*◌, ◌/◌, ◌%◌, ◌≤◌}
use native.Mathlib.Nat.{mod-lt, mod-eq_of_lt, div-add-mod}
use native.Mathlib.Omega.{arith}
use mathlib.Core.Bool.{Bool, true, false, ◌&&◌, or-false}
use mathlib.Core.List.{List, [], ◌∷◌, ◌++◌, append-nil}
use mathlib.Core.Logic.{◌↔◌, ◌⊎◌, inl, inr}
use mathlib.Core.Path.{◌≡◌, refl, sym, ap, subst, ◌∙◌}
use lib.Dec.{leb, eqb}
use lib.ListN.{length, drop, get_or, length-append, length-drop}
use borrow.Author.Tests.{leb-true, eqb-true, eqb-false}
use Rattle.laws.proofs.Cases.{by, either, and_first, and_second}
use Rattle.telegram.specs.Kinds.{kind_of, own_or_filled, fillable, sorted, fields, bit4, bit5}
use Rattle.telegram.specs.Forms.{Taken, formed, formless, first_byte, Fillable, ack, test, break, disconnect, accept, Filled, bare, filled, Form, as-data, as-fillable, as-setup, Formed, malformed}
use Rattle.telegram.specs.declared.kinds.Parameters.{Parameters}
use Rattle.telegram.specs.declared.kinds.Sorted.{Sorted}
use Rattle.telegram.specs.declared.kinds.Telegram.{Telegram}
use Rattle.telegram.specs.declared.kinds.Telegram.TheVariants.{Data, Ack, Test, Break, Disconnect, Setup, Accept}
use Rattle.telegram.proofs.RoundTrip.{upper-data, upper-ack}

-- any reader that gives what the form says, and else malformed, gives that exactly
pub taken : {A : Type 0} {F : A → Type 0} {malformed : A} (read : A) → F read ⊎ (read ≡ malformed) → ((a : A) → F a → read ≡ a) → (F malformed → ⊥)
    → (a : A) → read ≡ a ↔ Taken F malformed a
taken {A} {F} {malformed} read own back none a = (λ e. subst (Taken F malformed) e (here own), there own)
  where
    here : F read ⊎ (read ≡ malformed) → Taken F malformed read
    here (inl f) = formed f
    here (inr e) = subst (Taken F malformed) (sym e) (formless (λ b f. none (subst F (sym (back b f) ∙ e) f)))

    there : F read ⊎ (read ≡ malformed) → {b : A} → Taken F malformed b → read ≡ b
    there o (formed f) = back _ f
    there (inl f) (formless g) = absurd (g read f)
    there (inr e) (formless g) = e

-- lists by their length

-- the first element, the first six, and the others
front-one : (s : List ℕ) → 1 ≤ length s → s ≡ (get_or s 0 0 ∷ []) ++ drop 1 s
front-one [] h = absurd (omega arith)
front-one (a ∷ s) h = refl

front-six : (s : List ℕ) → 6 ≤ length s → s ≡ (get_or s 0 0 ∷ get_or s 1 0 ∷ get_or s 2 0 ∷ get_or s 3 0 ∷ get_or s 4 0 ∷ get_or s 5 0 ∷ []) ++ drop 6 s
front-six (a ∷ b ∷ c ∷ d ∷ e ∷ f ∷ s) h = refl
front-six [] h = absurd (omega arith)
front-six (a ∷ []) h = absurd (omega arith)
front-six (a ∷ b ∷ []) h = absurd (omega arith)
front-six (a ∷ b ∷ c ∷ []) h = absurd (omega arith)
front-six (a ∷ b ∷ c ∷ d ∷ []) h = absurd (omega arith)
front-six (a ∷ b ∷ c ∷ d ∷ e ∷ []) h = absurd (omega arith)

-- what is no longer than its front is its front
whole : (s own rest : List ℕ) → s ≡ own ++ rest → length s ≡ length own → s ≡ own
whole s own [] e l = e ∙ append-nil own
whole s own (a ∷ rest) e l = let n = ap length e ∙ length-append own (a ∷ rest) in absurd (omega arith)

-- at its own length, up to eight, or at eight it has its own bytes at least
pub some_bytes : (own : ℕ) (s : List ℕ) → own ≤ 8 → own_or_filled own s ≡ true → own ≤ length s
some_bytes own s few t =
    either (eqb (length s) own) (λ e. let l = eqb-true (length s) own e in omega arith) (λ e. let l = eqb-true (length s) 8 (rw e at t) in omega arith)

-- at its front's length or at eight, a list is bare or filled
filled-by : (s own rest : List ℕ) → s ≡ own ++ rest → own_or_filled (length own) s ≡ true → Filled s own (eqb (length s) 8)
filled-by s own rest e t = go (eqb (length s) 8) refl
  where
    go : (b : Bool) → eqb (length s) 8 ≡ b → Filled s own b
    go true g = filled rest e (eqb-true (length s) 8 g)
    go false g = bare (whole s own rest e (eqb-true (length s) (length own) (sym (or-false _) ∙ rw g at t)))

-- first bytes

-- a bit that is not 1 is 0, and one that is not 0 is 1
bit-off : (n : ℕ) → eqb (n % 2) 1 ≡ false → n % 2 ≡ 0
bit-off n e = let f = eqb-false (n % 2) 1 e in let h = mod-lt n {m = 2} (omega arith) in omega arith

bit-on : (n : ℕ) → eqb (n % 2) 0 ≡ false → n % 2 ≡ 1
bit-on n e = let f = eqb-false (n % 2) 0 e in let h = mod-lt n {m = 2} (omega arith) in omega arith

-- a byte from its bits, with bits 7 and 6 clear
by_bits : (b : ℕ) → b / 64 ≡ 0 → b ≡ 32 * bit5 b + 16 * bit4 b + b % 16
by_bits b h = let e : b / 32 % 2 ≡ b / 32 = mod-eq_of_lt (omega arith) in omega arith

-- it is the first byte of data that those bits say
data-byte : (b : ℕ) → b / 64 ≡ 0 → b ≡ first_byte (eqb (bit5 b) 0) (eqb (bit4 b) 1) (b % 16)
data-byte b h = by_bits b h ∙ go _ _ refl refl
  where
    go : (x y : Bool) → eqb (bit5 b) 0 ≡ x → eqb (bit4 b) 1 ≡ y → 32 * bit5 b + 16 * bit4 b + b % 16 ≡ first_byte (eqb (bit5 b) 0) (eqb (bit4 b) 1) (b % 16)
    go true true p q = rw (p, q, eqb-true (bit5 b) 0 p, eqb-true (bit4 b) 1 q)
    go true false p q = rw (p, q, eqb-true (bit5 b) 0 p, bit-off (b / 16) q)
    go false true p q = rw (p, q, bit-on (b / 32) p, eqb-true (bit4 b) 1 q)
    go false false p q = rw (p, q, bit-on (b / 32) p, bit-off (b / 16) q)

-- the same with bits 7 and 6 1 0, and bit 4 set
ack-bits : (b : ℕ) → b / 64 ≡ 2 → bit4 b ≡ 1 → b ≡ 0x90 + 32 * bit5 b + b % 16
ack-bits b h f =
    let e : b / 32 / 2 ≡ 2 = omega arith in
    let g : b / 16 / 2 ≡ b / 32 = omega arith in
    let x = div-add-mod (b / 32) 2 in
    let y = div-add-mod (b / 16) 2 in
    let z = div-add-mod b 16 in
    omega arith

-- it is the byte of the Ack that bit 5 says
ack-byte : (b : ℕ) → b / 64 ≡ 2 → bit4 b ≡ 1 → b ≡ (if eqb (bit5 b) 1 then 0xB0 else 0x90) + b % 16
ack-byte b h f = ack-bits b h f ∙ go _ refl
  where
    go : (x : Bool) → eqb (bit5 b) 1 ≡ x → 0x90 + 32 * bit5 b + b % 16 ≡ (if eqb (bit5 b) 1 then 0xB0 else 0x90) + b % 16
    go true p = rw (p, eqb-true (bit5 b) 1 p)
    go false p = rw (p, bit-off (b / 32) p)

-- sorting

-- a control telegram at its own length
pub own-sorted : {own : List ℕ} {t : Telegram} → Fillable own t → sorted own ≡ record { kind = t; padded = false }
unfolding kind_of
own-sorted (ack true n h) = upper-ack 11 n [] refl refl h refl
own-sorted (ack false n h) = upper-ack 9 n [] refl refl h refl
own-sorted test = refl
own-sorted break = refl
own-sorted disconnect = refl
own-sorted (accept p t2 t4) = refl

-- the same with any content that fills it up to eight bytes
pub filled-sorted : {own : List ℕ} {t : Telegram} → Fillable own t → (content : List ℕ) → length (own ++ content) ≡ 8
    → sorted (own ++ content) ≡ record { kind = t; padded = true }
unfolding kind_of
filled-sorted (ack true n h) content l = let seven : length content ≡ 7 = omega arith in upper-ack 11 n content refl refl h (rw seven) ∙ rw seven
filled-sorted (ack false n h) content l = let seven : length content ≡ 7 = omega arith in upper-ack 9 n content refl refl h (rw seven) ∙ rw seven
filled-sorted test content l = let seven : length content ≡ 7 = omega arith in rw seven
filled-sorted break content l = let seven : length content ≡ 7 = omega arith in rw seven
filled-sorted disconnect content l = let seven : length content ≡ 7 = omega arith in rw seven
filled-sorted (accept p t2 t4) content l = let two : length content ≡ 2 = omega arith in rw two

-- an A0, whatever its T2 and T4
setup-any : (p : Parameters) (t2 t4 : ℕ) → sorted (0xA0 ∷ p.block ∷ p.t1 ∷ t2 ∷ p.t3 ∷ t4 ∷ []) ≡ record { kind = Setup p; padded = false }
unfolding kind_of
setup-any p t2 t4 = refl

module _ (s : List ℕ) where
  abbrev head : ℕ
  head = get_or s 0 0

  -- what passes the test of a kind has its form
  data-form : (eqb (head / 64) 0 && leb 2 (length s) && leb (length s) 8) ≡ true → Form s (Data (eqb (bit5 head) 0) (eqb (bit4 head) 1) (head % 16)) false
  data-form t =
      let top = eqb-true (head / 64) 0 (search (and_first, and_second)) in
      let two = leb-true 2 (length s) (search (and_first, and_second)) in
      let eight = leb-true (length s) 8 (search (and_first, and_second)) in
      let rest = length-drop 1 s in
      as-data _ _ _ (drop 1 s) (mod-lt head (omega arith)) (omega arith) (omega arith) (front-one s (omega arith) ∙ ap (λ (b : ℕ). b ∷ drop 1 s) (data-byte head top))

  -- one byte, or it and seven more
  single-form : (n : ℕ) → head ≡ n → own_or_filled 1 s ≡ true → Filled s (n ∷ []) (eqb (length s) 8)
  single-form n e t = filled-by s (n ∷ []) (drop 1 s) (front-one s (some_bytes 1 s (omega arith) t) ∙ ap (λ (b : ℕ). b ∷ drop 1 s) e) t

  ack-form : (own_or_filled 1 s && eqb (head / 64) 2 && eqb (bit4 head) 1) ≡ true → Form s (Ack (eqb (bit5 head) 1) (head % 16)) (eqb (length s) 8)
  ack-form t =
      let top = eqb-true (head / 64) 2 (search (and_first, and_second)) in
      let set = eqb-true (bit4 head) 1 (search (and_first, and_second)) in
      as-fillable _ _ _ (ack _ _ (mod-lt head (omega arith))) (single-form _ (ack-byte head top set) (search and_first))

  code-form : (n : ℕ) (t : Telegram) → Fillable (n ∷ []) t → (own_or_filled 1 s && eqb head n) ≡ true → Form s t (eqb (length s) 8)
  code-form n t c e = as-fillable _ _ _ c (single-form n (eqb-true head n (search and_second)) (search and_first))

  -- six bytes, and two more or none
  abbrev six : ℕ → List ℕ
  six n = n ∷ (fields s).block ∷ (fields s).t1 ∷ get_or s 3 0 ∷ (fields s).t3 ∷ get_or s 5 0 ∷ []

  six-front : (n : ℕ) → head ≡ n → 6 ≤ length s → s ≡ six n ++ drop 6 s
  six-front n e l = front-six s l ∙ ap (λ (b : ℕ). six b ++ drop 6 s) e

  setup-form : (eqb (length s) 6 && eqb head 0xA0) ≡ true → Form s (Setup (fields s)) false
  setup-form t =
      let l = eqb-true (length s) 6 (search and_first) in
      as-setup (fields s) _ _ (whole s (six 0xA0) (drop 6 s) (six-front 0xA0 (eqb-true head 0xA0 (search and_second)) (omega arith)) l)

  accept-form : (own_or_filled 6 s && eqb head 0xA1) ≡ true → Form s (Accept (fields s)) (eqb (length s) 8)
  accept-form t =
      let e = eqb-true head 0xA1 (search and_second) in
      let l : own_or_filled 6 s ≡ true = search and_first in
      as-fillable _ _ _ (accept (fields s) _ _) (filled-by s (six 0xA1) (drop 6 s) (six-front 0xA1 e (some_bytes 6 s (omega arith) l)) l)

  -- so a telegram has the form of its kind, or is malformed
  own-form : Formed s (sorted s) ⊎ (sorted s ≡ malformed)
  unfolding kind_of
  own-form =
      by Ok _ (λ t. inl (data-form t)) λ _.
      by Ok _ (λ t. inl (ack-form t)) λ _.
      by Ok _ (λ t. inl (code-form 0xA3 Test test t)) λ _.
      by Ok _ (λ t. inl (code-form 0xA4 Break break t)) λ _.
      by Ok _ (λ t. inl (code-form 0xA8 Disconnect disconnect t)) λ _.
      by Ok _ (λ t. inl (setup-form t)) λ _.
      by Ok _ (λ t. inl (accept-form t)) λ _. inr refl
    where
      sorting : Telegram → Sorted
      sorting t = record { kind = t; padded = fillable t && eqb (length s) 8 }

      Ok : Telegram → Type 0
      Ok t = Formed s (sorting t) ⊎ (sorting t ≡ malformed)

  -- what has the form of a kind is of that kind
  form-sorted : {t : Telegram} {b : Bool} → Form s t b → sorted s ≡ record { kind = t; padded = b }
  form-sorted (as-data true true n p small some few e) = rw e (upper-data 1 n p (omega arith) small some few)
  form-sorted (as-data true false n p small some few e) = rw e (upper-data 0 n p (omega arith) small some few)
  form-sorted (as-data false true n p small some few e) = rw e (upper-data 3 n p (omega arith) small some few)
  form-sorted (as-data false false n p small some few e) = rw e (upper-data 2 n p (omega arith) small some few)
  form-sorted (as-fillable own k b c (bare e)) = rw e (own-sorted c)
  form-sorted (as-fillable own k b c (filled content e l)) = rw e (filled-sorted c content (rw e at l))
  form-sorted (as-setup p t2 t4 e) = rw e (setup-any p t2 t4)

  -- what is malformed has no form
  none-form : Formed s malformed → ⊥
  none-form (as-fillable own k b c f) = elim c [ ]

  -- a telegram is of a kind, padded or not, exactly if it has the bytes of that kind, and malformed exactly if it has those of none
  pub sorts : (t : Sorted) → sorted s ≡ t ↔ Taken (Formed s) malformed t
  sorts = taken (sorted s) own-form (λ t f. form-sorted f) none-form
