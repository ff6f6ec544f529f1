-- Counting: the different turns among losses, and the frames of a message.
use Rattle.std.specs.Prelude.{if◌then◌else◌}
use Prim.Native.Nat.{ℕ, ◌+◌, ◌-◌, ◌*◌, ◌≤◌, ◌<◌}
use native.Mathlib.Nat.{mul-le-mul_right}
use native.Mathlib.Omega.{arith}
use mathlib.Core.Bool.{Bool, true, false, true≢false}
use mathlib.Core.List.{List, [], ◌∷◌}
use mathlib.Core.Path.{◌≡◌, refl, sym, subst, ◌∙◌}
use lib.Dec.{ltb, eqb}
use borrow.Author.Tests.{lt-ltb, eq-eqb, ne_eqb}
use Rattle.laws.proofs.Cases.{by, by-lt}
use Rattle.delivery.specs.System.{Try}
use Rattle.delivery.specs.Claim.{turns_of, member, different, FewLosses, frames_for}

-- ---- different numbers

-- those of a list below a number
abbrev pub below : ℕ → List ℕ → List ℕ
below t [] = []
below t (x ∷ xs) = if ltb x t then x ∷ below t xs else below t xs

different-more : (x : ℕ) (xs : List ℕ) → different xs ≤ different (x ∷ xs)
different-more x xs = by (λ d. different xs ≤ d) (member x xs) (λ _. omega arith) (λ _. omega arith)

-- a number below another is found among those below it
member_below : (x t : ℕ) → x < t → (xs : List ℕ) → member x (below t xs) ≡ member x xs
member_below x t h [] = refl
member_below x t h (y ∷ ys) =
    by-lt (λ l. member x l ≡ member x (y ∷ ys)) y t
    (λ _. rw (member_below x t h ys))
    (λ k. rw (ne_eqb x y (omega arith)) (member_below x t h ys))

-- one more in front of two lists that both have it or both have it not
different-both : (x : ℕ) (xs ys : List ℕ) → member x xs ≡ member x ys → (k : ℕ)
    → different xs + k ≤ different ys → different (x ∷ xs) + k ≤ different (x ∷ ys)
different-both x xs ys e k h = rw e (by' (member x ys))
  where
    by' : (b : Bool) → (if b then different xs else different xs + 1) + k ≤ (if b then different ys else different ys + 1)
    by' true = h
    by' false = omega arith

pub different-below : (t : ℕ) (xs : List ℕ) → different (below t xs) ≤ different xs
different-below t [] = omega arith
different-below t (x ∷ xs) =
    let d = different-below t xs in
    by-lt (λ l. different l ≤ different (x ∷ xs)) x t
    (λ h. let b = different-both x (below t xs) xs (member_below x t h xs) 0 (omega arith) in omega arith)
    (λ _. let m = different-more x xs in omega arith)

-- a number that is there is one more behind those below it; if it is not, they are as many
different-next : (t : ℕ) (xs : List ℕ) → different (below t xs) + (if member t xs then 1 else 0) ≤ different (below (t + 1) xs)
different-next t [] = omega arith
different-next t (x ∷ xs) =
    let d = different-next t xs in
    by-lt (λ l. different l + k (x ∷ xs) ≤ different (below (t + 1) (x ∷ xs))) x t
    (λ h. rw (lt-ltb x (t + 1) (omega arith), ne_eqb t x (omega arith))
    (different-both x (below t xs) (below (t + 1) xs) (member_below x t h xs ∙ sym (member_below x (t + 1) (omega arith) xs)) (k xs) d))
    (λ h. by-lt (λ l. different (below t xs) + k (x ∷ xs) ≤ different l) x (t + 1)
    (λ g. let e : x ≡ t = omega arith in
    rw (e, eq-eqb t t refl, member_below t (t + 1) (omega arith) xs)
    (by (λ n. different (below t xs) + 1 ≤ n) (member t xs) (λ m. rw m at d) (λ m. let d' = rw m at d in omega arith)))
    (λ g. rw (ne_eqb t x (omega arith)) d))
  where
    k : List ℕ → ℕ
    k l = if member t l then 1 else 0

pub different-member : (t : ℕ) (xs : List ℕ) → member t xs ≡ true → different (below t xs) + 1 ≤ different (below (t + 1) xs)
different-member t xs h = rw h at (different-next t xs)

-- ---- the losses of a block

-- a try lost nothing
abbrev pub Spared : Try → List Try → Type 0
Spared t ls = member t.turn (turns_of t.message t.block ls) ≡ false

-- how many tries of its block before it lost a frame
abbrev pub losers : Try → List Try → ℕ
losers t ls = different (below t.turn (turns_of t.message t.block ls))

-- the try behind it in the same block
abbrev pub next_try : Try → Try
next_try t = record { message = t.message; block = t.block; turn = t.turn + 1 }

-- one loss more is one turn more, or none
turns_more : (P : List ℕ → Type 0) (i b : ℕ) (l : Try) (ls : List Try) → P (l.turn ∷ turns_of i b ls) → P (turns_of i b ls) → P (turns_of i b (l ∷ ls))
turns_more P i b l ls p q = by P (eqb l.message i) (λ _. by P (eqb l.block b) (λ _. p) (λ _. q)) (λ _. q)

pub few-more : (repeats : ℕ) (l : Try) (ls : List Try) → FewLosses repeats (l ∷ ls) → FewLosses repeats ls
few-more repeats l ls few i b =
    let m = turns_more (λ xs. different (turns_of i b ls) ≤ different xs) i b l ls (different-more l.turn (turns_of i b ls)) (omega arith) in
    let f = few i b in
    omega arith

pub losers-more : (t l : Try) (ls : List Try) → losers t ls ≤ losers t (l ∷ ls)
losers-more t l ls =
    let xs = turns_of t.message t.block ls in
    turns_more (λ ys. different (below t.turn xs) ≤ different (below t.turn ys)) t.message t.block l ls
    (by (λ ys. different (below t.turn xs) ≤ different ys) (ltb l.turn t.turn) (λ _. different-more l.turn (below t.turn xs)) (λ _. omega arith))
    (omega arith)

pub losers-few : (repeats : ℕ) (t : Try) (ls : List Try) → FewLosses repeats ls → losers t ls ≤ repeats
losers-few repeats t ls few =
    let d = different-below t.turn (turns_of t.message t.block ls) in
    let f = few t.message t.block in
    omega arith

pub spared-more : (t l : Try) (ls : List Try) → Spared t (l ∷ ls) → Spared t ls
spared-more t l ls =
    turns_more (λ xs. member t.turn xs ≡ false → Spared t ls) t.message t.block l ls
    (by (λ b. b ≡ false → Spared t ls) (eqb t.turn l.turn) (λ _ e. absurd (true≢false e)) (λ _ e. e))
    (λ e. e)

-- a try that a frame is lost of is not spared
pub not_spared : (t : Try) (ls : List Try) → Spared t (t ∷ ls) → ⊥
not_spared t ls e =
    true≢false (rw (eq-eqb t.message t.message refl, eq-eqb t.block t.block refl, eq-eqb t.turn t.turn refl) at e)

-- a try that was not spared counts for those behind it
pub losers-next : (t : Try) (ls : List Try) → (Spared t ls → ⊥) → losers t ls + 1 ≤ losers (next_try t) ls
losers-next t ls h = go (member t.turn xs) refl
  where
    xs : List ℕ
    xs = turns_of t.message t.block ls

    go : (b : Bool) → member t.turn xs ≡ b → losers t ls + 1 ≤ losers (next_try t) ls
    go true e = different-member t.turn xs e
    go false e = absurd (h e)

-- ---- the frames of a message

pub frames-of : (t : Try) (ts : List Try) → frames_for t.message (t ∷ ts) ≡ frames_for t.message ts + 1
frames-of t ts = rw (eq-eqb t.message t.message refl)

pub frames-other : (i : ℕ) (t : Try) (ts : List Try) → (t.message ≡ i → ⊥) → frames_for i (t ∷ ts) ≡ frames_for i ts
frames-other i t ts h = rw (ne_eqb t.message i h)

-- a block behind base others, sent as a whole once and again for each of so many repeats
pub block-frames : (allowed repeats base end n : ℕ) → base ≤ end → repeats ≤ allowed
    → n + repeats * base + base ≤ (allowed + 1) * base + repeats * end + end → n ≤ (allowed + 1) * end
block-frames allowed repeats base end n h r b =
    let c = subst (λ e. n + repeats * base + base ≤ (allowed + 1) * base + repeats * e + e) (sym e) b in
    subst (λ e. n ≤ (allowed + 1) * e) e (omega (arith, mul-le-mul_right (end - base) r))
  where
    e : base + (end - base) ≡ end
    e = omega arith
