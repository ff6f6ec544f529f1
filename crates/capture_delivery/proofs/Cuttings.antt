-- The frames of messages that are cut one after the other.
--     cuttings-first, cuttings-rest      the frames of the first message, and those of the others behind them
--     cuttings-numbered                  each is data with the number of its place
--     whole_in, whole-all, whole-inside   the messages whose frames all are seen
use Rattle.std.specs.Prelude.{if◌then◌else◌}
use Prim.Native.Nat.{ℕ, ◌+◌, ◌-◌, ◌%◌, ◌<◌, ◌≤◌}
use native.Mathlib.Omega.{arith}
use mathlib.Core.Bool.{Bool}
use mathlib.Core.List.{List, [], ◌∷◌, ◌++◌}
use mathlib.Core.Path.{◌≡◌, refl, sym, ap, ◌∙◌, subst₂}
use lib.ListN.{length, drop, get_or, length-append, get_or-append}
use lib.Seq.{drop_at, get_or-drop}
use lib.Dec.{ltb, leb}
use borrow.Author.Tests.{le-leb, lt-leb, ltb-true, ltb-false}
use Rattle.laws.proofs.Cases.{either}
use Rattle.telegram.specs.Outgoing.{bytes_of}
use Rattle.telegram.specs.Kinds.{sorted}
use Rattle.telegram.specs.Cutting.{cutting, frame_at, asks_at, last_at}
use Rattle.telegram.specs.declared.kinds.Sorted.{Sorted}
use Rattle.telegram.specs.declared.kinds.Telegram.TheVariants.{Data}
use Rattle.telegram.proofs.RoundTrip.{frame-sorted}
use Rattle.telegram.proofs.Cut.{cutting-at, cutting-length}
use Rattle.capture_delivery.specs.Sent.{Sent, count, cuttings}

module _ (number : ℕ) (m : Sent) (ms : List Sent) where
  -- the first message's frames, and those of the others
  abbrev own : List (List ℕ)
  own = cutting m.message m.block number

  abbrev others : List (List ℕ)
  others = cuttings ((number + count m) % 16) ms

  counted : length own ≡ count m
  counted = cutting-length m.message m.block number

  cuttings-both : cuttings number (m ∷ ms) ≡ own ++ others
  unfolding cuttings
  cuttings-both = ap (λ (n : ℕ). own ++ cuttings ((number + n) % 16) ms) counted

  -- the frame behind k others of the first message
  pub cuttings-first : (k : ℕ) → k < count m → get_or (cuttings number (m ∷ ms)) k [] ≡ bytes_of (frame_at m.message m.block number k)
  cuttings-first k h =
      let l = counted in
      ap (λ (fs : List (List ℕ)). get_or fs k []) cuttings-both ∙ get_or-append own others [] k (omega arith) ∙ cutting-at m.message m.block number k h

  -- those of the others stand behind its own
  pub cuttings-rest : drop (count m) (cuttings number (m ∷ ms)) ≡ cuttings ((number + count m) % 16) ms
  cuttings-rest = ap (drop (count m)) cuttings-both ∙ drop_at own others (count m) counted

  cuttings-length : length (cuttings number (m ∷ ms)) ≡ count m + length (cuttings ((number + count m) % 16) ms)
  cuttings-length = ap length cuttings-both ∙ length-append own others ∙ ap (λ (n : ℕ). n + length others) counted

-- data with a number
pub record Numbered (number : ℕ) (s : List ℕ) : Type 0 where
  pub asks : Bool
  pub last : Bool
  pub kind : (sorted s).kind ≡ Data asks last number

first-numbered : (number : ℕ) (m : Sent) (ms : List Sent) (k : ℕ) → k < count m → Numbered ((number + k) % 16) (get_or (cuttings number (m ∷ ms)) k [])
first-numbered number m ms k h =
    record {
      asks = asks_at m.block (length m.message) k;
      last = last_at (length m.message) k;
      kind = rw (cuttings-first number m ms k h) (ap (λ (t : Sorted). t.kind) (frame-sorted m.message m.block number k h));
    }

number-on : (number n j : ℕ) → n ≤ j → ((number + n) % 16 + (j - n)) % 16 ≡ (number + j) % 16
number-on number n j h = omega arith

rest-numbered : (number : ℕ) (m : Sent) (ms : List Sent) (j : ℕ) → count m ≤ j
    → Numbered (((number + count m) % 16 + (j - count m)) % 16) (get_or (cuttings ((number + count m) % 16) ms) (j - count m) [])
    → Numbered ((number + j) % 16) (get_or (cuttings number (m ∷ ms)) j [])
rest-numbered number m ms j past =
    let e : count m + (j - count m) ≡ j = omega arith in
    subst₂ Numbered (number-on number (count m) j past)
    (ap (λ (fs : List (List ℕ)). get_or fs (j - count m) []) (sym (cuttings-rest number m ms))
    ∙ get_or-drop (count m) (cuttings number (m ∷ ms)) (j - count m) []
    ∙ ap (λ (i : ℕ). get_or (cuttings number (m ∷ ms)) i []) e)

-- each frame is data with the number of its place
pub cuttings-numbered : (number : ℕ) (ms : List Sent) (j : ℕ) → j < length (cuttings number ms) → Numbered ((number + j) % 16) (get_or (cuttings number ms) j [])
unfolding cuttings
cuttings-numbered number [] j h = absurd (omega arith)
cuttings-numbered number (m ∷ ms) j h =
    let l = cuttings-length number m ms in
    either (ltb j (count m)) (λ t. first-numbered number m ms j (ltb-true j (count m) t))
    (λ t. let past = ltb-false j (count m) t in rest-numbered number m ms j past (cuttings-numbered ((number + count m) % 16) ms (j - count m) (omega arith)))

-- ---- the messages whose frames all are seen

-- those whose frames all are among the first so many
unfoldable pub whole_in : (frames : ℕ) → List Sent → List Sent
whole_in n [] = []
whole_in n (m ∷ ms) = if leb (count m) n then m ∷ whole_in (n - count m) ms else []

pub one-whole : (m : Sent) (ms : List Sent) (n : ℕ) → count m ≤ n → whole_in n (m ∷ ms) ≡ m ∷ whole_in (n - count m) ms
unfolding whole_in
one-whole m ms n h = rw (le-leb (count m) n h)

pub none-whole : (m : Sent) (ms : List Sent) (n : ℕ) → n < count m → whole_in n (m ∷ ms) ≡ []
unfolding whole_in
none-whole m ms n h = rw (lt-leb (count m) n h)

-- all frames have all messages
pub whole-all : (number : ℕ) (ms : List Sent) → whole_in (length (cuttings number ms)) ms ≡ ms
unfolding cuttings whole_in
whole-all number [] = refl
whole-all number (m ∷ ms) =
    let l = cuttings-length number m ms in
    let rest = length (cuttings ((number + count m) % 16) ms) in
    let e : length (cuttings number (m ∷ ms)) - count m ≡ rest = omega arith in
    one-whole m ms (length (cuttings number (m ∷ ms))) (omega arith)
    ∙ ap (λ (x : List Sent). m ∷ x) (ap (λ (n : ℕ). whole_in n ms) e ∙ whole-all ((number + count m) % 16) ms)

-- inside a message those before it
pub whole-inside : (number : ℕ) (ms : List Sent) (m : Sent) (n : ℕ) → length (cuttings number ms) ≤ n → n < length (cuttings number (ms ++ (m ∷ [])))
    → whole_in n (ms ++ (m ∷ [])) ≡ ms
unfolding cuttings
whole-inside number [] m n h g = let l = cuttings-length number m [] in none-whole m [] n (omega arith)
whole-inside number (d ∷ ms) m n h g =
    let l = cuttings-length number d ms in
    let k = cuttings-length number d (ms ++ (m ∷ [])) in
    one-whole d (ms ++ (m ∷ [])) n (omega arith)
    ∙ ap (λ (x : List Sent). d ∷ x) (whole-inside ((number + count d) % 16) ms m (n - count d) (omega arith) (omega arith))
