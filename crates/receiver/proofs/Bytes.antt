-- The lent buffer, byte by byte: a used frame's bytes stand behind those that were there, and nothing else in the buffer changes.
--     Written, data-writes     the buffer after a data telegram, by what became of it
--     shown-length, shown-at    what a take shows
use Prim.Native.Nat.{ℕ, ◌+◌, ◌-◌, ◌<◌, ◌≤◌}
use native.Mathlib.Omega.{arith}
use mathlib.Core.Bool.{Bool, true}
use mathlib.Core.Path.{◌≡◌, refl, sym, ◌∙◌, ap}
use mathlib.Core.List.{List, ◌++◌}
use lib.ListN.{length, take, drop, get_or, length-drop, get_or-append}
use lib.Seq.{length-take-le, get_or-append-add, get_or-take, get_or-drop}
use Rattle.receiver.specs.Receiving.{first, on_data, pasted, is_used, buffered, shown}
use Rattle.receiver.specs.declared.Receiver.{Receiver}
use Rattle.receiver.specs.declared.Receipt.{Receipt}
use Rattle.receiver.specs.declared.Receipt.TheVariants.{Used, Complete, ThrownAway, OutOfPlace, Untaken, ShortFirst, ShortLater, Broken, NoData}
use Rattle.receiver.proofs.Outcomes.{outcome}
use Rattle.receiver.proofs.Laws.{Fits, in_use, buffered-first, buffered-later, buffered-unused}
use Rattle.receiver.proofs.Rules.{first-none, first-begun}

-- ---- bytes put into a list

-- behind a list stands what follows it
get_or-behind : (s t : List ℕ) (n i : ℕ) → length s ≡ n → n ≤ i → get_or (s ++ t) i 0 ≡ get_or t (i - n) 0
get_or-behind s t n i e h = let j : i ≡ length s + (i - n) = omega arith in ap (λ (k : ℕ). get_or (s ++ t) k 0) j ∙ get_or-append-add s t (i - n) 0

module _ (b p : List ℕ) (at i : ℕ) (inside : at ≤ length b) where
  front : length (take at b) ≡ at
  front = length-take-le at b inside

  put-before : i < at → get_or (pasted b at p) i 0 ≡ get_or b i 0
  put-before h = get_or-append (take at b) _ 0 i (rw front h) ∙ get_or-take at b i 0 h

  put_in : at ≤ i → i < at + length p → get_or (pasted b at p) i 0 ≡ get_or p (i - at) 0
  put_in h k = get_or-behind (take at b) _ at i front h ∙ get_or-append p _ 0 (i - at) (omega arith)

  put-behind : at + length p ≤ i → get_or (pasted b at p) i 0 ≡ get_or b i 0
  put-behind h =
      let e : at + length p + (i - at - length p) ≡ i = omega arith in
      get_or-behind (take at b) _ at i front (omega arith)
      ∙ get_or-behind p _ (length p) (i - at) refl (omega arith)
      ∙ get_or-drop (at + length p) b (i - at - length p) 0 ∙ ap (λ (k : ℕ). get_or b k 0) e

-- ---- the buffer after a data telegram

-- "its payload is copied into the lent buffer behind what already stands there, length bytes left out, and nothing else in the buffer changes"
pub record Written (r : Receiver) (p b x : List ℕ) : Type 0 where
  -- of a first frame, at the front
  pub first-in : r.at.begun.length ≡ 0 → (i : ℕ) → i + 2 < length p → get_or x i 0 ≡ get_or p (i + 2) 0
  pub first-behind : r.at.begun.length ≡ 0 → (i : ℕ) → length p ≤ i + 2 → get_or x i 0 ≡ get_or b i 0
  -- of a later one, behind the bytes that the message has
  pub later-before : 1 ≤ r.at.begun.length → (i : ℕ) → i < r.at.fill → get_or x i 0 ≡ get_or b i 0
  pub later-in : 1 ≤ r.at.begun.length → (i : ℕ) → r.at.fill ≤ i → i < r.at.fill + length p → get_or x i 0 ≡ get_or p (i - r.at.fill) 0
  pub later-behind : 1 ≤ r.at.begun.length → (i : ℕ) → r.at.fill + length p ≤ i → get_or x i 0 ≡ get_or b i 0

-- only a used frame writes: "A refusal never writes to the buffer"
abbrev pub Writes : (r : Receiver) (p b : List ℕ) → Receipt → List ℕ → Type 0
Writes r p b Used x = Written r p b x
Writes r p b Complete x = Written r p b x
Writes r p b ThrownAway x = x ≡ b
Writes r p b (OutOfPlace e) x = x ≡ b
Writes r p b Untaken x = x ≡ b
Writes r p b ShortFirst x = x ≡ b
Writes r p b ShortLater x = x ≡ b
Writes r p b (Broken c) x = x ≡ b
Writes r p b NoData x = x ≡ b

-- the bytes of a first frame, its length bytes left out
carried : (p : List ℕ) (i : ℕ) → get_or (drop 2 p) (i - 0) 0 ≡ get_or p (i + 2) 0
carried p i = let e : 2 + (i - 0) ≡ i + 2 = omega arith in get_or-drop 2 p (i - 0) 0 ∙ ap (λ (k : ℕ). get_or p k 0) e

module _ (r : Receiver) (p b : List ℕ) (n : Receipt) (u : is_used n ≡ true) where
  used-written : Fits r p (length b) (first r) → Written r p b (buffered r n p b)
  used-written f =
      record {
        first-in = λ z i h. at_first z i (put_in b (drop 2 p) 0 i (omega arith) (omega arith) (simp length-drop (omega arith)) ∙ carried p i);
        first-behind = λ z i h. at_first z i (put-behind b (drop 2 p) 0 i (omega arith) (simp length-drop (omega arith)));
        later-before = λ s i h. at-later s i (put-before b p r.at.fill i (fits s) h);
        later-in = λ s i h k. at-later s i (put_in b p r.at.fill i (fits s) h k);
        later-behind = λ s i h. at-later s i (put-behind b p r.at.fill i (fits s) h);
      }
    where
      at_first : {v : ℕ} → r.at.begun.length ≡ 0 → (i : ℕ) → get_or (pasted b 0 (drop 2 p)) i 0 ≡ v → get_or (buffered r n p b) i 0 ≡ v
      at_first z i e = ap (λ (s : List ℕ). get_or s i 0) (buffered-first r n p b u (first-none r z)) ∙ e

      at-later : {v : ℕ} → 1 ≤ r.at.begun.length → (i : ℕ) → get_or (pasted b r.at.fill p) i 0 ≡ v → get_or (buffered r n p b) i 0 ≡ v
      at-later s i e = ap (λ (t : List ℕ). get_or t i 0) (buffered-later r n p b u (first-begun r s)) ∙ e

      fits : 1 ≤ r.at.begun.length → r.at.fill ≤ length b
      fits s = let g : r.at.fill + length p ≤ length b = rw (first-begun r s) at f in omega arith

-- the buffer that was lent for a data telegram, after it
pub data-writes : (limit : ℕ) (r : Receiver) (asks last : Bool) (number : ℕ) (p b : List ℕ)
    → Writes r p b (on_data limit r asks last number p (length b)).note (buffered r (on_data limit r asks last number p (length b)).note p b)
data-writes limit r asks last number p b = go _ refl
  where
    go : (n : Receipt) → n ≡ (on_data limit r asks last number p (length b)).note → Writes r p b n (buffered r n p b)
    go Used e = used-written r p b Used refl (in_use (outcome limit r asks last number p (length b)) (ap is_used (sym e))).fits
    go Complete e = used-written r p b Complete refl (in_use (outcome limit r asks last number p (length b)) (ap is_used (sym e))).fits
    go ThrownAway e = buffered-unused r ThrownAway p b refl
    go (OutOfPlace k) e = buffered-unused r (OutOfPlace k) p b refl
    go Untaken e = buffered-unused r Untaken p b refl
    go ShortFirst e = buffered-unused r ShortFirst p b refl
    go ShortLater e = buffered-unused r ShortLater p b refl
    go (Broken c) e = buffered-unused r (Broken c) p b refl
    go NoData e = buffered-unused r NoData p b refl

-- ---- a take

-- "the message is shown as the first part of the lent buffer": as many bytes as it has, and those of the buffer
module _ (r : Receiver) (b : List ℕ) where
  pub shown-length : r.complete.length ≤ length b → length (shown r b) ≡ r.complete.length
  shown-length h = length-take-le r.complete.length b h

  pub shown-at : (i : ℕ) → i < r.complete.length → get_or (shown r b) i 0 ≡ get_or b i 0
  shown-at i h = get_or-take r.complete.length b i 0 h
