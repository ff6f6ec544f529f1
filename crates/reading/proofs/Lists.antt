-- Lists of data frames are read frame by frame: what their bytes say, and lists that follow one another.
--     frame-kind, inner-frame    a data frame's bytes, sorted
--     frame-arrives              it arrives as data
--     reads_both                 two lists, one after the other
use Prim.Native.Nat.{ℕ, ◌+◌, ◌*◌, ◌/◌, ◌%◌, ◌<◌, ◌≤◌}
use native.Mathlib.Omega.{arith}
use mathlib.Core.Bool.{Bool, true, false}
use mathlib.Core.Path.{◌≡◌, refl, ◌∙◌, ap}
use mathlib.Core.List.{List, [], ◌∷◌, ◌++◌}
use lib.ListN.{length, drop, get_or}
use lib.Dec.{eqb}
use borrow.Author.Tests.{le-leb}
use Rattle.telegram.specs.Kinds.{sorted, kind_of}
use Rattle.telegram.specs.declared.kinds.Telegram.{Telegram}
use Rattle.telegram.specs.declared.kinds.Telegram.TheVariants.{Data}
use Rattle.receiver.specs.Receiving.{on_data}
use Rattle.reading.specs.Reading.{Reading, after, arrives, reads}
use Rattle.reading.specs.Lists.{Frame, Inner}
use Rattle.reading.proofs.Frame.{arrives-data}

-- a first byte with the upper half 00, AR, EOM
upper-kind : (q number : ℕ) (s : List ℕ) → q < 4 → number < 16 → get_or s 0 0 ≡ 16 * q + number → 2 ≤ length s → length s ≤ 8
    → (sorted s).kind ≡ Data (eqb (q / 2 % 2) 0) (eqb (q % 2) 1) number
unfolding kind_of
upper-kind q number s f g e two eight =
    let top : (16 * q + number) / 64 ≡ 0 = omega arith in
    let five : (16 * q + number) / 32 ≡ q / 2 = omega arith in
    let four : (16 * q + number) / 16 ≡ q = omega arith in
    let low : (16 * q + number) % 16 ≡ number = omega arith in
    rw (e, top, le-leb 2 (length s) two, le-leb (length s) 8 eight, five, four, low)

-- a data frame is sorted as data that says the same
pub frame-kind : (asks last : Bool) (number : ℕ) (s : List ℕ) → Frame asks last number s → (sorted s).kind ≡ Data asks last number
frame-kind true true number s f = upper-kind 1 number s (omega arith) f.small f.head f.two f.eight
frame-kind true false number s f = upper-kind 0 number s (omega arith) f.small f.head f.two f.eight
frame-kind false true number s f = upper-kind 3 number s (omega arith) f.small f.head f.two f.eight
frame-kind false false number s f = upper-kind 2 number s (omega arith) f.small f.head f.two f.eight

-- the number of a frame with neither AR nor EOM is the lower half of its first byte
pub inner-frame : {s : List ℕ} → Inner s → Frame false false (get_or s 0 0 % 16) s
inner-frame {s} i = record { head = omega arith; small = omega arith; two = i.two; eight = i.eight }

module _ (limit : ℕ) where
  -- a data frame arrives as data
  pub frame-arrives : {asks last : Bool} {number : ℕ} {s : List ℕ} (h : Reading) → Frame asks last number s
      → arrives limit h (sorted s).kind (drop 1 s) ≡ after h (drop 1 s) (on_data limit h.receiver asks last number (drop 1 s) (length h.buffer))
  frame-arrives {s = s} h f = ap (λ (t : Telegram). arrives limit h t (drop 1 s)) (frame-kind _ _ _ s f) ∙ arrives-data limit h _ _ _ (drop 1 s)

  -- a list that follows another is read from where that leaves the reader
  pub reads_both : (h : Reading) (fs gs : List (List ℕ)) → reads limit h (fs ++ gs) ≡ reads limit (reads limit h fs) gs
  unfolding reads
  reads_both h [] gs = refl
  reads_both h (s ∷ fs) gs = reads_both (arrives limit h (sorted s).kind (drop 1 s)) fs gs
