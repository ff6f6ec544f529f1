-- What the links keep of a try: rows of frames, and Acks.
use Prim.Native.Nat.{ℕ, ◌+◌, ◌≤◌}
use native.Mathlib.Omega.{arith}
use mathlib.Core.Bool.{true}
use mathlib.Core.List.{List, [], ◌∷◌, ◌++◌}
use mathlib.Core.Path.{◌≡◌, refl}
use lib.ListN.{length}
use Rattle.delivery.specs.System.{Try, losing}
use Rattle.delivery.proofs.Core.{DataFrame, AckFrame, Direction, with_acks}
use Rattle.sender.specs.declared.Terms.{Terms}
use Rattle.delivery.proofs.Count.{Spared, spared-more, losers-more}
use Rattle.delivery.proofs.Tries.{Sends, Row, Leftover, Line, Says, Answers, Each, Rises, Ghosts, Block, PaceOf, Stage}
use Rattle.delivery.proofs.Tries.Pace.{sending, awaiting}
use Rattle.delivery.proofs.Tries.Stage.{vacant, on_its_way, answered}
use Rattle.delivery.proofs.Tries.Row.{over, frame}
use Rattle.delivery.proofs.Tries.Leftover.{none, one}
use Rattle.delivery.proofs.Tries.Line.{alone, behind}
use Rattle.delivery.proofs.Tries.Each.{none as no_acks, each}
use Rattle.delivery.proofs.Tries.Rises.{risen, rising}

-- ---- rows

module _ {start end : ℕ} {t : Try} where
  -- a row that fewer tries are held to, from an earlier place on
  pub row_loose : {spared spared' : Type 0} {next from from' : ℕ} {l : List DataFrame} → (spared' → spared) → (spared' → from' ≡ from) → from' ≤ from
      → Row start end t spared next from l → Row start end t spared' next from' l
  row_loose {from'} s e h (over a b) = over {from = from'} (omega arith) (λ p. let x = e p in let y = b (s p) in omega arith)
  row_loose {from'} s e h (frame i a b c d r) = frame {from = from'} i (omega arith) b (λ p. let x = e p in let y = c (s p) in omega arith) d (row_loose s (λ _. refl) (omega arith) r)

  row_from : {spared : Type 0} {from next : ℕ} {l : List DataFrame} → Row start end t spared next from l → from ≤ next
  row_from (over a b) = a
  row_from (frame i a b c d r) = omega arith

  -- from its end on a row has no frames
  pub row-end : {spared : Type 0} {from next : ℕ} {l : List DataFrame} → next ≤ from → Row start end t spared next from l → l ≡ []
  row-end h (over a b) = refl
  row-end h (frame i a b c d r) = absurd (omega arith)

  -- one frame more behind it
  row_more : {spared : Type 0} {next from : ℕ} {l : List DataFrame} {f : DataFrame} → Sends start end t next f → Row start end t spared next from l
      → Row start end t spared (next + 1) from (l ++ (f ∷ []))
  row_more {next} s (over a b) = frame next a (omega arith) (λ p. let x = b p in omega arith) s (over {from = next + 1} (omega arith) (λ _. refl))
  row_more s (frame i a b c d r) = frame i a (omega arith) c d (row_more s r)

  -- ---- lines

  module _ {next from used acked expected : ℕ} where
    pub line-loose : {spared spared' : Type 0} {l : List DataFrame} → (spared' → spared) → Line start end t spared next from used acked expected l
        → Line start end t spared' next from used acked expected l
    line-loose s (alone r) = alone (row_loose s (λ _. refl) (omega arith) r)
    line-loose s (behind e h r) = behind e h (row_loose s (λ _. refl) (omega arith) r)

    pub line-from : {spared : Type 0} {l : List DataFrame} → Line start end t spared next from used acked expected l → from ≤ next
    line-from (alone r) = row_from r
    line-from (behind e h r) = row_from r

    -- with the link empty the try has come to its end, if it was spared
    pub line-none : {spared : Type 0} → Line start end t spared next from used acked expected [] → spared → from ≡ next
    line-none (alone (over a b)) = b

    pub line-more : {spared : Type 0} {l : List DataFrame} {f : DataFrame} → Sends start end t next f → Line start end t spared next from used acked expected l
        → Line start end t spared (next + 1) from used acked expected (l ++ (f ∷ []))
    line-more s (alone r) = alone (row_more s r)
    line-more s (behind e h r) = behind e h (row_more s r)

  -- what is left stands before an empty row
  pub left-line : {spared : Type 0} {next x used acked : ℕ} {t' : Try} {l : List DataFrame} → used ≡ acked → Leftover x t' l
      → Line start end t spared next next used acked x l
  left-line {next} e none = alone (over {from = next} (omega arith) (λ _. refl))
  left-line {next} e (one a b) = behind e a (over {from = next} (omega arith) (λ _. refl))

-- ---- Acks

pub each_more : {P : AckFrame → Type 0} {l : List AckFrame} {f : AckFrame} → Each P l → P f → Each P (l ++ (f ∷ []))
each_more no_acks p = each p no_acks
each_more (each q e) p = each q (each_more e p)

pub each-says : {x : ℕ} {t : Try} {l : List AckFrame} → Each (Answers x t) l → Each (Says x) l
each-says no_acks = no_acks
each-says (each q e) = each q.says (each-says e)

module _ {x y : ℕ} {t : Try} where
  -- all show the old number still
  pub all_old : {l : List AckFrame} → Each (Says x) l → Rises x y t (length l) l
  all_old no_acks = risen no_acks
  all_old (each q e) = rising q (all_old e)

  pub rises-more : {n : ℕ} {l : List AckFrame} {f : AckFrame} → Rises x y t n l → Answers y t f → (n ≤ length l) × Rises x y t n (l ++ (f ∷ []))
  rises-more (risen e) a = (omega arith, risen (each_more e a))
  rises-more (rising q r) a = let m = rises-more r a in (omega arith, rising q m.1)

-- ---- one loss more

-- a block whose losses are one more
pub block-lost : {terms : Terms} {g : Ghosts} {length' acked next high oldest count expected done : ℕ} {accepted : List (List ℕ)} {frames losses : List Try}
    (l : Try) → Block terms g length' acked next high oldest count expected accepted done frames losses
    → Block terms g length' acked next high oldest count expected accepted done frames (l ∷ losses)
block-lost {g = g} {losses = losses} l b =
    let y = b.tally in
    let m = losers-more g.t l losses in
    record {
      current = b.current;
      window = b.window;
      oldest' = b.oldest';
      expected' = b.expected';
      tally = record { counts = y.counts; losing = omega arith; handed = y.handed };
    }

-- a stage whose losses are one more, with the links as they are
pub stage-lost : {d : Direction} (l : Try) → Stage d → Stage (with_acks d d.acks (losing d.history true l))
stage-lost l (vacant t q) = vacant t q
stage-lost {d} l (answered g old b a) =
    answered g old (block-lost l b)
    (record { over = a.over; link' = a.link'; acks' = a.acks'; due = a.due; asker = a.asker; whole = λ s. a.whole (spared-more g.t l d.history.losses s) })
stage-lost {d} l (on_its_way g from b o) =
    on_its_way g from (block-lost l b)
    (record { least = o.least; reached = o.reached; pace = pace o.pace; link' = line-loose less o.link'; acks' = o.acks'; due = o.due })
  where
    less : Spared g.t (l ∷ d.history.losses) → Spared g.t d.history.losses
    less = spared-more g.t l d.history.losses

    pace : PaceOf g from d → PaceOf g from (with_acks d d.acks (losing d.history true l))
    pace (sending p) = sending p
    pace (awaiting p h) = awaiting p (λ s. h (less s))
