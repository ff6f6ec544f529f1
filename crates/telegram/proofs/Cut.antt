-- The cutting of a message as it is published: how many frames, each of them, and all of them joined.
use Prim.Native.Nat.{ℕ, zero, suc, ◌+◌, ◌*◌, ◌/◌, ◌%◌, ◌≤◌, ◌<◌}
use native.Mathlib.Nat.{not-suc-le-zero, mod-add-mod, add-zero, add_comm}
use native.Mathlib.Numerals.{add-one}
use native.Mathlib.Omega.{arith}
use mathlib.Core.Bool.{Bool, ◌||◌, or-true, or-false}
use mathlib.Core.List.{List, [], ◌∷◌, map, flatten}
use mathlib.Core.Path.{◌≡◌, refl, sym, ap, ◌∙◌}
use lib.Dec.{eqb, eqb-suc-suc}
use lib.ListN.{length, take, drop, get_or, length-drop, length-map, take-append-drop}
use lib.Seq.{drop-nil, drop-drop}
use borrow.Author.Tests.{ne_eqb}
use Rattle.laws.proofs.Cuts.{by-pieces}
use Rattle.telegram.specs.Outgoing.{bytes_of}
use Rattle.telegram.specs.Cutting.{stream_of, frames_of, header_of, frame_at, sevens, headed, cutting}
use Rattle.telegram.specs.Published.{Published}
use Rattle.telegram.proofs.RoundTrip.{frame_back, frame-length, frame-size, frame-full, frame-sorted, stream-declares, stream-carries}

-- sevens

-- the first seven, then the rest cut likewise
sevens-step : (a : ℕ) (s : List ℕ) → sevens (a ∷ s) ≡ take 7 (a ∷ s) ∷ sevens (drop 6 s)
unfolding sevens
sevens-step a [] = refl
sevens-step a (b ∷ []) = refl
sevens-step a (b ∷ c ∷ []) = refl
sevens-step a (b ∷ c ∷ d ∷ []) = refl
sevens-step a (b ∷ c ∷ d ∷ e ∷ []) = refl
sevens-step a (b ∷ c ∷ d ∷ e ∷ f ∷ []) = refl
sevens-step a (b ∷ c ∷ d ∷ e ∷ f ∷ g ∷ s) = refl

-- the piece behind k others
sevens-at : (s : List ℕ) (k : ℕ) → get_or (sevens s) k [] ≡ take 7 (drop (7 * k) s)
unfolding sevens
sevens-at = by-pieces 6 _ (λ k. rw drop-nil) more
  where
    more : (a : ℕ) (s : List ℕ) → ((k : ℕ) → get_or (sevens (drop 6 s)) k [] ≡ take 7 (drop (7 * k) (drop 6 s)))
        → (k : ℕ) → get_or (sevens (a ∷ s)) k [] ≡ take 7 (drop (7 * k) (a ∷ s))
    more a s h zero = rw sevens-step
    more a s h (suc k) = let e : 7 * suc k ≡ suc (6 + 7 * k) = omega arith in rw (sevens-step, e, h k, drop-drop)

-- as many pieces as sevens, begun or full
sevens-length : (s : List ℕ) → length (sevens s) ≡ (length s + 6) / 7
unfolding sevens
sevens-length = by-pieces 6 _ refl (λ a s h. rw (sevens-step, h, length-drop) (omega arith))

-- joined again
sevens-joined : (s : List ℕ) → flatten (sevens s) ≡ s
unfolding sevens flatten
sevens-joined = by-pieces 6 _ refl (λ a s h. rw (sevens-step, h) (take-append-drop 7 (a ∷ s)))

-- headed

-- the first bytes taken off again
headed-joined : (block place number : ℕ) (ps : List (List ℕ)) → map (drop 1) (headed block place number ps) ≡ ps
unfolding headed
headed-joined block place number [] = refl
headed-joined block place number (p ∷ []) = refl
headed-joined block place number (p ∷ q ∷ rest) = rw (headed-joined block (place + 1) ((number + 1) % 16) (q ∷ rest))

-- one place further on
next : (n k : ℕ) → n + 1 + k ≡ n + suc k
next n k = omega arith

-- the same for the number, of which a first byte has the remainder only
header-next : (a l : Bool) (n k : ℕ) → header_of a l ((n + 1) % 16 + k) ≡ header_of a l (n + suc k)
unfolding header_of
header-next a l n k = rw (mod-add-mod, next)

-- the frame behind k others: EOM on the last alone, AR there and by the place, the number counted on
headed-at : (block place number : ℕ) (ps : List (List ℕ)) (k : ℕ) → k < length ps
    → get_or (headed block place number ps) k []
    ≡ header_of (eqb ((place + k) % block) 0 || eqb (suc k) (length ps)) (eqb (suc k) (length ps)) (number + k) ∷ get_or ps k []
unfolding headed
headed-at block place number [] k h = absurd (not-suc-le-zero h)
headed-at block place number (p ∷ []) zero h = simp (or-true, add-zero)
headed-at block place number (p ∷ []) (suc k) h = absurd (omega arith)
headed-at block place number (p ∷ q ∷ rest) zero h = simp (ne_eqb 1 (suc (suc (length rest))) (omega arith), or-false, add-zero)
headed-at block place number (p ∷ q ∷ rest) (suc k) h =
    rw (headed-at block (place + 1) ((number + 1) % 16) (q ∷ rest) k (omega arith), header-next, next, eqb-suc-suc (suc k))

-- cutting

-- a message's pieces, counted
pieces-length : (m : List ℕ) → length (sevens (stream_of m)) ≡ frames_of (length m)
unfolding frames_of stream_of
pieces-length m = sevens-length (stream_of m) ∙ omega arith

-- the cutting has as many frames as the count says
pub cutting-length : (m : List ℕ) (block first : ℕ) → length (cutting m block first) ≡ frames_of (length m)
cutting-length m block first =
    sym (length-map (cutting m block first) (drop 1)) ∙ ap length (headed-joined block 1 first (sevens (stream_of m))) ∙ pieces-length m

-- the cutting has at each place the frame of that place
pub cutting-at : (m : List ℕ) (block first k : ℕ) → k < frames_of (length m) → get_or (cutting m block first) k [] ≡ bytes_of (frame_at m block first k)
cutting-at m block first k h =
    let e = pieces-length m in
    rw (frame_back, headed-at block 1 first (sevens (stream_of m)) k (omega arith), e, sevens-at, add_comm 1 k, ← add-one k)

-- the frames of the cutting without their first bytes, joined, are the length bytes and the message
pub cutting-joined : (m : List ℕ) (block first : ℕ) → flatten (map (drop 1) (cutting m block first)) ≡ stream_of m
cutting-joined m block first = rw headed-joined (sevens-joined (stream_of m))

-- a message of 1 to limit bytes, for any limit that twelve bits can tell, is cut as published, whatever its block size and first number
pub published : (limit : ℕ) → limit ≤ 4095 → (m : List ℕ) (block first : ℕ) → 0 < length m → length m ≤ limit → Published m block first
unfolding frames_of
published limit fits m block first nonempty within =
    record {
      declares = stream-declares m (omega arith);
      carries = stream-carries m;
      joined = cutting-joined m block first;
      count = cutting-length m block first;
      full = λ k h. rw (cutting-at m block first k (omega arith)) (frame-full m block first k h);
      size = λ k h. rw cutting-at (frame-size m block first k h);
      begins = rw (cutting-at m block first 0 (omega arith), frame-length) (omega arith);
      kinds = λ k h. rw cutting-at (frame-sorted m block first k h);
      frames = cutting-at m block first;
    }
