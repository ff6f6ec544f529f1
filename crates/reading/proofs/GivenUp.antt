-- After a message that was given up: the frames up to and including the next EOM are thrown away, and the message behind them is read whole.
--     thrown-through       they are answered 0 and write nothing, and nothing is begun behind them
--     given-up-whole       the cutting behind them gives its message
--     ended-whole          so does the one behind a message that was given up at its EOM
use Prim.Native.Nat.{ℕ, suc, ◌+◌, ◌%◌, ◌<◌, ◌≤◌}
use native.Mathlib.Omega.{arith}
use mathlib.Core.Bool.{Bool, true, false, not}
use mathlib.Core.Path.{◌≡◌, refl, sym, ◌∙◌, ap, subst}
use mathlib.Core.List.{List, [], ◌∷◌, ◌++◌}
use lib.ListN.{length, drop, replicate}
use Rattle.telegram.specs.Cutting.{cutting}
use Rattle.telegram.specs.Kinds.{sorted}
use Rattle.receiver.specs.declared.Receiver.{Receiver}
use Rattle.receiver.specs.declared.Receipt.{Receipt}
use Rattle.receiver.specs.declared.Receipt.TheVariants.{Used, Complete, ThrownAway, OutOfPlace, Untaken, ShortFirst, ShortLater, Broken, NoData}
use Rattle.receiver.specs.declared.Received.{Received}
use Rattle.receiver.specs.Receiving.{on_data, is_used}
use Rattle.receiver.proofs.Rules.{Left, ThrownOff, is_numbered, data-left}
use Rattle.receiver.proofs.Given.{away, given-note, note-given, given-numbered}
use Rattle.receiver.proofs.Laws.{buffered-unused}
use Rattle.reading.specs.Reading.{Reading, Idle, Read, arrives, reads}
use Rattle.reading.specs.Lists.{Frame, UpToEnd, the_end, before, GivenUp, notes}
use Rattle.reading.proofs.Lists.{frame-arrives, reads_both}
use Rattle.reading.proofs.Whole.{reads-cutting}

-- a receiver with nothing begun, and none waiting, that expects a number; it throws away or not
pub record Bare (discarding : Bool) (number : ℕ) (b : List ℕ) (h : Reading) : Type 0 where
  pub expected : h.receiver.at.expected ≡ number
  pub discards : h.receiver.at.discarding ≡ discarding
  pub begun : h.receiver.at.begun.length ≡ 0
  pub none-waits : h.receiver.complete.length ≡ 0
  pub buffer : h.buffer ≡ b

-- what a frame whose message is thrown away leaves
thrown-bare : (r : Receiver) (asks last : Bool) (number : ℕ) (x : Receiver) (note : Receipt) (b c : List ℕ)
    → number ≡ r.at.expected → r.complete.length ≡ 0 → ThrownOff r asks last x → c ≡ b
    → Bare (not last) ((number + 1) % 16) b (record { receiver = x; buffer = c; note = note })
thrown-bare r asks last number x note b c k w e same =
    record {
      expected = ap (λ (y : Receiver). y.at.expected) e ∙ ap (λ (n : ℕ). (n + 1) % 16) (sym k);
      discards = ap (λ (y : Receiver). y.at.discarding) e;
      begun = ap (λ (y : Receiver). y.at.begun.length) e;
      none-waits = ap (λ (y : Receiver). y.complete.length) e ∙ w;
      buffer = same;
    }

-- a frame that is thrown away, or gives its message up
record Dropped (r : Receiver) (asks last : Bool) (x : Receiver) (n : Receipt) : Type 0 where
  unused : is_used n ≡ false
  numbered : is_numbered n ≡ true
  leaves : ThrownOff r asks last x

given-up-dropped : (r : Receiver) (asks last : Bool) (p : List ℕ) (n : Receipt) (x : Receiver) → GivenUp n → Left r asks last p n x → Dropped r asks last x n
given-up-dropped r asks last p (Broken c) x g l = record { unused = refl; numbered = refl; leaves = l }
given-up-dropped r asks last p ShortFirst x g l = record { unused = refl; numbered = refl; leaves = l }
given-up-dropped r asks last p Used x g l = absurd g
given-up-dropped r asks last p Complete x g l = absurd g
given-up-dropped r asks last p ThrownAway x g l = absurd g
given-up-dropped r asks last p (OutOfPlace e) x g l = absurd g
given-up-dropped r asks last p Untaken x g l = absurd g
given-up-dropped r asks last p ShortLater x g l = absurd g
given-up-dropped r asks last p NoData x g l = absurd g

module _ (limit : ℕ) (h : Reading) (asks last : Bool) (number : ℕ) (s : List ℕ) (f : Frame asks last number s) where
  abbrev answer : Received
  answer = on_data limit h.receiver asks last number (drop 1 s) (length h.buffer)

  dropped-arrives : Dropped h.receiver asks last answer.receiver answer.note → Bare (not last) ((number + 1) % 16) h.buffer (arrives limit h (sorted s).kind (drop 1 s))
  dropped-arrives d =
      let g = given-numbered (note-given limit h.receiver asks last number (drop 1 s) (length h.buffer)) d.numbered in
      rw (frame-arrives limit h f)
      (thrown-bare h.receiver asks last number answer.receiver answer.note h.buffer _ g.0 g.1 d.leaves
      (buffered-unused h.receiver answer.note (drop 1 s) h.buffer d.unused))

  -- one that gives its message up
  given-up-arrives : GivenUp (arrives limit h (sorted s).kind (drop 1 s)).note → Bare (not last) ((number + 1) % 16) h.buffer (arrives limit h (sorted s).kind (drop 1 s))
  given-up-arrives g = dropped-arrives (given-up-dropped h.receiver asks last (drop 1 s) answer.note answer.receiver (rw (frame-arrives limit h f) at g) (data-left limit h.receiver asks last number (drop 1 s) (length h.buffer)))

  -- one behind it, in order
  away-note : {b : List ℕ} → Bare true number b h → answer.note ≡ ThrownAway
  away-note q = given-note limit h.receiver asks last number (drop 1 s) (length h.buffer) (away (sym q.expected) q.none-waits q.discards)

  away-answered : {b : List ℕ} → Bare true number b h → (arrives limit h (sorted s).kind (drop 1 s)).note ≡ ThrownAway
  away-answered q = ap (λ (x : Reading). x.note) (frame-arrives limit h f) ∙ away-note q

  away-arrives : {b : List ℕ} → Bare true number b h → Bare (not last) ((number + 1) % 16) b (arrives limit h (sorted s).kind (drop 1 s))
  away-arrives q =
      let e = away-note q in
      let l = data-left limit h.receiver asks last number (drop 1 s) (length h.buffer) in
      subst (λ (b : List ℕ). Bare (not last) ((number + 1) % 16) b (arrives limit h (sorted s).kind (drop 1 s))) q.buffer
      (dropped-arrives
      (record { unused = ap is_used e; numbered = ap is_numbered e; leaves = subst (λ (n : Receipt). Left h.receiver asks last (drop 1 s) n answer.receiver) e l }))

-- ---- lists

-- all frames of a list were answered 0 and thrown away, nothing was written to the buffer b, and nothing is begun behind them
pub record ThrownThrough (limit number : ℕ) (b : List ℕ) (h : Reading) (fs : List (List ℕ)) : Type 0 where
  pub answers : notes limit h fs ≡ replicate (length fs) ThrownAway
  pub buffer : (reads limit h fs).buffer ≡ b
  pub idle : Idle ((number + length fs) % 16) (reads limit h fs).receiver

bare-idle : {number : ℕ} {b : List ℕ} {h : Reading} → Bare false number b h → Idle number h.receiver
bare-idle q = record { expected = q.expected; discarding = q.discards; begun = q.begun; complete = q.none-waits }

one_on : (number k : ℕ) → ((number + 1) % 16 + k) % 16 ≡ (number + suc k) % 16
one_on number k = omega arith

module _ (limit : ℕ) where
  -- "the following in-order frames are numbered, acknowledged and thrown away, answer 0, up to and including the next EOM"
  pub thrown-through : {number : ℕ} {fs : List (List ℕ)} {b : List ℕ} (h : Reading) → UpToEnd number fs → Bare true number b h → ThrownThrough limit number b h fs
  unfolding notes reads
  thrown-through h (the_end {s = s} f) q =
      let a = away-arrives limit h _ _ _ s f q in
      record { answers = ap (λ (n : Receipt). n ∷ []) (away-answered limit h _ _ _ s f q); buffer = a.buffer; idle = bare-idle a }
  thrown-through h (before {number = number} {s = s} {rest = rest} f more) q =
      let t = thrown-through (arrives limit h (sorted s).kind (drop 1 s)) more (away-arrives limit h _ _ _ s f q) in
      record {
        answers = (λ i. away-answered limit h _ _ _ s f q i ∷ t.answers i);
        buffer = t.buffer;
        idle = subst (λ (n : ℕ). Idle n (reads limit h (s ∷ rest)).receiver) (one_on number (length rest)) t.idle;
      }

  module _ (h : Reading) (m : List ℕ) (block : ℕ) (some : 0 < length m) (most : length m ≤ limit) (twelve : limit ≤ 4095) (roomy : length m ≤ length h.buffer) where
    -- the next message is read whole where nothing is begun
    idle-whole : {n : ℕ} (g : Reading) → n < 16 → Idle n g.receiver → g.buffer ≡ h.buffer → Read m 0 n h.buffer (reads limit g (cutting m block n))
    idle-whole {n} g small i e = reads-cutting limit m n h.buffer some most twelve roomy block small g i e

    -- "That frame is numbered and writes nothing; if it had no EOM, the following in-order frames are numbered, acknowledged and thrown away, answer 0, up to and including the next EOM";
    -- behind them the cutting of a message, numbered from there, gives the message
    pub given-up-whole : {asks : Bool} {number : ℕ} {s : List ℕ} {fs : List (List ℕ)} → Frame asks false number s → GivenUp (arrives limit h (sorted s).kind (drop 1 s)).note → UpToEnd ((number + 1) % 16) fs
        → ThrownThrough limit ((number + 1) % 16) h.buffer (arrives limit h (sorted s).kind (drop 1 s)) fs
        × Read m 0 ((number + 1 + length fs) % 16) h.buffer (reads limit h (s ∷ (fs ++ cutting m block ((number + 1 + length fs) % 16))))
    unfolding reads
    given-up-whole {asks} {number} {s} {fs} f g u =
        let h' = arrives limit h (sorted s).kind (drop 1 s) in
        let t = thrown-through h' u (given-up-arrives limit h asks false number s f g) in
        let e : ((number + 1) % 16 + length fs) % 16 ≡ (number + 1 + length fs) % 16 = omega arith in
        (t, rw (reads_both limit h' fs (cutting m block ((number + 1 + length fs) % 16))) (idle-whole (reads limit h' fs) (omega arith) (rw e at t.idle) t.buffer))

    -- a message that is given up at its EOM frame has ended there: the next one is read whole at once
    pub ended-whole : {asks : Bool} {number : ℕ} {s : List ℕ} → Frame asks true number s → GivenUp (arrives limit h (sorted s).kind (drop 1 s)).note
        → Read m 0 ((number + 1) % 16) h.buffer (reads limit h (s ∷ cutting m block ((number + 1) % 16)))
    unfolding reads
    ended-whole {asks} {number} {s} f g =
        let a = given-up-arrives limit h asks true number s f g in
        idle-whole (arrives limit h (sorted s).kind (drop 1 s)) (omega arith) (bare-idle a) a.buffer
