-- What the moves at the receiving end keep of the tries: a data frame, a message taken, the due Ack handed over.
use Rattle.std.specs.Prelude.{if◌then◌else◌}
use Prim.Native.Nat.{ℕ, ◌+◌, min, ◌%◌, ◌≤◌, ◌<◌}
use native.Mathlib.Nat.{mod-mod, mod-eq_of_lt}
use native.Mathlib.Omega.{arith}
use mathlib.Core.Bool.{Bool, true, false, ◌||◌, true≢false, false≢true}
use mathlib.Core.List.{List, [], ◌∷◌}
use mathlib.Core.Logic.{◌⊎◌, inl, inr}
use mathlib.Core.Path.{◌≡◌, refl, sym, ap, subst, ◌∙◌}
use lib.Dec.{eqb}
use lib.ListN.{length, length-append}
use borrow.Author.Tests.{eqb-true, eqb-false, eq-eqb, ne_eqb}
use Rattle.laws.proofs.Cases.{by, either}
use Rattle.delivery.proofs.Mod16.{same-shown, on-shown}
use Rattle.sender.specs.declared.Terms.{Terms}
use Rattle.receiver.specs.Receiving.{waiting, following, ack_after, on_data, took}
use Rattle.telegram.specs.declared.cutting.Message.{Message}
use Rattle.receiver.specs.declared.Standing.{Standing}
use Rattle.receiver.specs.declared.Receiver.{Receiver}
use Rattle.receiver.specs.declared.Received.{Received}
use Rattle.receiver.specs.declared.Took.{Took}
use Rattle.receiver.proofs.Outcomes.{breaks, short-first, short-later, goes_on, ends, Outcome, out-of-place, untaken, thrown-away, in-order, outcome, TakeOutcome, none-complete, short-buffer, shows, take-outcome}
use Rattle.receiver.proofs.Laws.{Leaves, settled-leaves, numbered-leaves, kept-is}
use Rattle.receiver.proofs.Gaps.{gap-kept}
use Rattle.delivery.specs.System.{Try, ShownMessage, Fate, handing, losing}
use Rattle.delivery.specs.System.Fate.{goes, stays, lost}
use Rattle.delivery.proofs.Core.{DataFrame, AckFrame, Direction, with_frames, with_receiving, with_ack, asked_by, received_to, received, receiving, took_to}
use Rattle.delivery.proofs.Count.{Spared, not_spared}
use Rattle.delivery.proofs.ReceivingKeeps.{received-length, unused-received}
use Rattle.delivery.proofs.Tries.{Sends, Row, Leftover, Says, Answers, Due, Ghosts, VacantOf, BlockOf, OverOf, PaceOf, LineOf, OnItsWayOf, AnsweredOf, Stage, stage-as, Tried}
use Rattle.delivery.proofs.Tries.Row.{frame}
use Rattle.delivery.proofs.Tries.Leftover.{none, one}
use Rattle.delivery.proofs.Tries.Line.{alone, behind}
use Rattle.delivery.proofs.Tries.Pace.{sending, awaiting}
use Rattle.delivery.proofs.Tries.Stage.{vacant, on_its_way, answered}
use Rattle.delivery.proofs.TriesLinks.{row_loose, row-end, each_more, all_old, rises-more, block-lost, stage-lost}

-- ---- what a data frame leaves of the receiver, whatever it carries

-- the number expected then, the Ack, and a message begun that the buffer holds
record Seen (r : Receiver) (asks : Bool) (room expected : ℕ) (x : Receiver) : Type 0 where
  expected' : x.at.expected ≡ expected
  ack : x.ack ≡ ack_after r asks expected
  begun : x.at.begun.length ≤ room

leaves-seen : {r : Receiver} {asks last : Bool} {room : ℕ} {standing : Standing} {m : Message} {x : Receiver}
    → Leaves r asks last standing m x → standing.begun.length ≤ room → Seen r asks room standing.expected x
leaves-seen {room = room} l h =
    record { expected' = ap (λ (s : Standing). s.expected) l.at; ack = l.ack; begun = subst (λ (s : Standing). s.begun.length ≤ room) (sym l.at) h }

module _ (limit : ℕ) (r : Receiver) (asks last : Bool) (number : ℕ) (p : List ℕ) (room : ℕ) (held : r.at.begun.length ≤ room) where
  -- the expected frame, with no message waiting
  expected-seen : number ≡ r.at.expected → waiting r ≡ false → Seen r asks room (following r.at.expected) (on_data limit r asks last number p room).receiver
  expected-seen e w = go (outcome limit r asks last number p room)
    where
      go : {x : Received} → Outcome limit r asks last number p room x → Seen r asks room (following r.at.expected) x.receiver
      go (out-of-place n) = absurd (n e)
      go (untaken _ t) = absurd (true≢false (sym t ∙ w))
      go (thrown-away _ _ t) = leaves-seen (numbered-leaves r asks last _ _ _ _) (omega arith)
      go (in-order o (breaks c)) = leaves-seen (numbered-leaves r asks last _ _ _ _) (omega arith)
      go (in-order o (short-first b t s)) = leaves-seen (numbered-leaves r asks last _ _ _ _) (omega arith)
      go (in-order o (short-later f s)) = absurd (omega arith)
      go (in-order o (goes_on b l less roomy)) = leaves-seen (numbered-leaves r asks false _ _ _ _) roomy
      go (in-order o (ends b l all roomy)) = leaves-seen (numbered-leaves r asks true _ _ _ _) (omega arith)

  -- another frame
  other-seen : (number ≡ r.at.expected → ⊥) → Seen r asks room r.at.expected (on_data limit r asks last number p room).receiver
  other-seen n = rw (gap-kept limit r asks last number p room n) (leaves-seen (settled-leaves r asks false r.at r.complete) held)

-- the Ack due after a frame
due-after : (r : Receiver) (asks : Bool) (x : ℕ) → waiting r ≡ false → (asks ≡ false → Due x r.ack) → Due x (ack_after r asks x)
due-after r true x w h = λ _. (rw w, refl)
due-after r false x w h = h refl

module _ {terms : Terms} {d : Direction} (v : Tried terms d) (limit : ℕ) (f : DataFrame) (clear : waiting d.receiver ≡ false) where
  -- the direction with the frames that are left when one has gone or stayed
  abbrev resting : List DataFrame → Direction
  resting rest = with_frames d rest d.history

  -- what the frame leaves then
  abbrev after : List DataFrame → Direction
  after rest = received limit (resting rest) f

  abbrev answer : Received
  answer = on_data limit d.receiver f.asks f.last f.number f.bytes (length d.buffer)

  -- ---- a frame of the running try: the one behind i others

  module _ (g : Ghosts) (from : ℕ) (b : BlockOf g d) (o : OnItsWayOf g from d)
      (i : ℕ) (p : Sends g.start g.end g.t i f) (late : from ≤ i) (early : i < d.sender.next) (exact : Spared g.t d.history.losses → i ≡ from) where
    -- the try has lost no frame
    abbrev Unlost : Type 0
    Unlost = Spared g.t d.history.losses

    -- the number that the receiver expects when the frame has come
    abbrev SeenTo : ℕ → Type 0
    SeenTo n = Seen d.receiver f.asks (length d.buffer) n answer.receiver

    -- with the frame u frames are used, and it is not the expected one then
    record UsedTo (u : ℕ) : Type 0 where
      seen : SeenTo ((g.start + u) % 16)
      more : g.used ≤ u
      most : u ≤ d.sender.high
      past : Unlost → i + 1 ≤ u
      gone : i ≡ u → ⊥

    -- an index that shows the same number, of the block or just behind it
    same_place : (u : ℕ) → g.used ≤ u → u ≤ d.sender.high → (g.start + i) % 16 ≡ (g.start + u) % 16 → i ≡ u
    same_place u more most e =
        let w = b.window in
        let fair = v.steady.fair in
        let l = o.least in
        let m = same-shown (g.start + i) (g.start + u) e (omega arith) (omega arith) in
        omega arith

    -- the next one to use is used
    next-used : i ≡ g.used → UsedTo (g.used + 1)
    next-used e =
        let w = b.window in
        let in_place = p.number ∙ ap (λ (n : ℕ). (g.start + n) % 16) e ∙ sym b.expected' in
        record {
          seen =
              subst SeenTo (on-shown _ _ 1 b.expected' ∙ ap (λ (n : ℕ). n % 16) (omega arith))
              (expected-seen limit d.receiver f.asks f.last f.number f.bytes (length d.buffer) v.room in_place clear);
          more = omega arith;
          most = omega arith;
          past = λ _. omega arith;
          gone = λ z. omega arith;
        }

    -- another is not used
    other-used : (i ≡ g.used → ⊥) → UsedTo g.used
    other-used e =
        let w = b.window in
        let elsewhere : f.number ≡ d.receiver.at.expected → ⊥ =
        λ z. e (same_place g.used (omega arith) w.used_high (sym p.number ∙ z ∙ b.expected')) in
        record {
          seen =
              subst SeenTo b.expected'
              (other-seen limit d.receiver f.asks f.last f.number f.bytes (length d.buffer) v.room elsewhere);
          more = omega arith;
          most = w.used_high;
          past = λ s. let x = exact s in let y = o.reached in omega arith;
          gone = e;
        }

    used-to : (u : ℕ) × UsedTo u
    used-to =
        either (eqb i g.used) (λ t. (g.used + 1, next-used (eqb-true i g.used t))) λ t. (g.used, other-used (eqb-false i g.used t))

    module _ (rest : List DataFrame) (u : ℕ) (n : UsedTo u) where
      abbrev later : Ghosts
      later = record { start = g.start; used = u; end = g.end; repeats = g.repeats; t = g.t }

      brought : BlockOf later (after rest)
      brought =
          let w = b.window in
          let m = n.more in
          let h = n.most in
          record { current = b.current; window = omega arith; oldest' = b.oldest'; expected' = n.seen.expected'; tally = b.tally }

      -- the frames of the try that are still in the link, from a place on
      record Remains : Type 0 where
        from' : ℕ
        least : d.sender.acked ≤ from'
        reached : from' ≤ u
        inside : Unlost → from' < g.end
        row : Row g.start g.end g.t Unlost d.sender.next from' rest

      -- it asks for no Ack
      asks_none : (i + 1 ≡ g.end → ⊥) → Remains → Stage (after rest)
      asks_none h m =
          let silent : f.asks ≡ false = p.asks ∙ ne_eqb (i + 1) g.end h in
          on_its_way later m.from' brought
          (record {
            least = m.least;
            reached = m.reached;
            pace = pace o.pace;
            link' = alone m.row;
            acks' = o.acks';
            due = subst (Due d.sender.oldest) (sym (n.seen.ack ∙ ap (λ (a : Bool). ack_after d.receiver a ((g.start + u) % 16)) silent)) o.due;
          })
        where
          pace : PaceOf g from d → PaceOf g m.from' d
          pace (sending e) = sending e
          pace (awaiting e k) = awaiting e m.inside

      -- it asks for one: nothing of the try but it can be left in the link
      asks-one : i + 1 ≡ g.end → ((x : ℕ) → (f.number ≡ x → ⊥) → Leftover x g.t rest) → Stage (after rest)
      asks-one h leftover =
          answered later (length d.acks) brought
          (record {
            over = over o.pace;
            link' = leftover answer.receiver.at.expected (λ e. n.gone (same_place u n.more n.most (sym p.number ∙ e ∙ n.seen.expected')));
            acks' = all_old o.acks';
            due =
                subst (λ (e : ℕ). Due e answer.receiver.ack) (sym n.seen.expected')
                (subst (Due ((g.start + u) % 16)) (sym n.seen.ack) (due-after d.receiver f.asks _ clear (λ e. absurd (true≢false (sym asks ∙ e)))));
            asker = λ _. rw asks p.try;
            whole = λ s. let w = b.window in let m = n.past s in let k = n.most in (omega arith, inl (ap (λ a. a.due) n.seen.ack ∙ rw asks));
          })
        where
          asks : f.asks ≡ true
          asks = p.asks ∙ eq-eqb (i + 1) g.end h

          over : PaceOf g from d → OverOf g d
          over (sending e) = absurd (omega (arith, e.next'))
          over (awaiting e k) = e

      try-received : (i + 1 ≡ g.end → (x : ℕ) → (f.number ≡ x → ⊥) → Leftover x g.t rest) → ((i + 1 ≡ g.end → ⊥) → Remains) → Tried terms (after rest)
      try-received leftover remains =
          record {
            steady = v.steady;
            room = omega (arith, n.seen.begun, received-length limit (resting rest) f);
            bounded = v.bounded;
            stage =
                either (eqb (i + 1) g.end)
                (λ t. let h = eqb-true (i + 1) g.end t in asks-one h (leftover h))
                λ t. let h = eqb-false (i + 1) g.end t in asks_none h (remains h);
          }

  -- ---- a frame that is left, and is not the expected one

  -- it leaves the receiver as it was, but for the Ack
  abbrev asked : List DataFrame → Direction
  asked rest =
      with_receiving (resting rest)
      (record {
        at = d.receiver.at;
        back = if f.asks || false then d.receiver.at else d.receiver.back;
        complete = d.receiver.complete;
        ack = ack_after d.receiver f.asks d.receiver.at.expected;
      })
      d.buffer (asked_by d.history f.asks f.try)

  other-received : (rest : List DataFrame) → (f.number ≡ d.receiver.at.expected → ⊥) → after rest ≡ asked rest
  other-received rest h =
      ap (received_to (resting rest) f) (gap-kept limit d.receiver f.asks f.last f.number f.bytes (length d.buffer) h)
      ∙ unused-received (resting rest) f _ refl
      ∙ ap (λ (r : Receiver). with_receiving (resting rest) r d.buffer (asked_by d.history f.asks f.try)) (kept-is d.receiver f.asks)

  other-tried : (rest : List DataFrame) → (f.number ≡ d.receiver.at.expected → ⊥) → Stage (asked rest) → Tried terms (after rest)
  other-tried rest h stage = subst (Tried terms) (sym (other-received rest h)) (record { steady = v.steady; room = v.room; bounded = v.bounded; stage = stage })

  asked-vacant : (rest : List DataFrame) (t : Try) → VacantOf t d → Leftover d.receiver.at.expected t rest → Stage (asked rest)
  asked-vacant rest t q l = vacant t (record { nothing = q.nothing; link' = l; acks' = q.acks'; due = due-after d.receiver f.asks _ clear (λ _. q.due) })

  asked-way : (rest : List DataFrame) (g : Ghosts) (from : ℕ) → BlockOf g d → OnItsWayOf g from d → g.used ≡ d.sender.acked → LineOf g from d rest → Stage (asked rest)
  asked-way rest g from b o e l =
      let x : d.receiver.at.expected ≡ d.sender.oldest = b.expected' ∙ ap (λ n. (g.start + n) % 16) e ∙ sym b.oldest' in
      let u = due-after d.receiver f.asks d.receiver.at.expected clear (λ _. subst (λ n. Due n d.receiver.ack) (sym x) o.due) in
      on_its_way g from b
      (record {
        least = o.least;
        reached = o.reached;
        pace = o.pace;
        link' = l;
        acks' = o.acks';
        due = subst (λ n. Due n (ack_after d.receiver f.asks d.receiver.at.expected)) x u;
      })

  asked-answered : (rest : List DataFrame) (g : Ghosts) (old : ℕ) → BlockOf g d → AnsweredOf g old d → f.try ≡ g.t → Leftover d.receiver.at.expected g.t rest → Stage (asked rest)
  asked-answered rest g old b a e l =
      answered g old b
      (record {
        over = a.over;
        link' = l;
        acks' = a.acks';
        due = due-after d.receiver f.asks _ clear (λ _. a.due);
        asker = asker f.asks;
        whole = λ s. ((a.whole s).0, asked-for f.asks (a.whole s).1);
      })
    where
      x : ℕ
      x = d.receiver.at.expected

      asker : (asks : Bool) → (ack_after d.receiver asks x).due ≡ true → (if asks then f.try else d.history.ack_try) ≡ g.t
      asker true u = e
      asker false u = a.asker u

      asked-for : (asks : Bool) → (d.receiver.ack.due ≡ true) ⊎ (old < length d.acks) → ((ack_after d.receiver asks x).due ≡ true) ⊎ (old < length d.acks)
      asked-for true p = inl refl
      asked-for false p = p

  -- ---- the first frame of the link

  -- it goes or stays
  abbrev Rests : (l rest : List DataFrame) → Type 0
  Rests l rest = (rest ≡ l) ⊎ (rest ≡ f ∷ l)

  left-rests : {x : ℕ} {t : Try} {l rest : List DataFrame} → Leftover x t (f ∷ l) → Rests l rest → Leftover x t rest
  left-rests {x} {t} (one h e) (inl k) = subst (Leftover x t) (sym k) none
  left-rests {x} {t} (one h e) (inr k) = subst (Leftover x t) (sym k) (one h e)

  -- a frame of the running try that goes
  try-gone : (g : Ghosts) (from : ℕ) → BlockOf g d → OnItsWayOf g from d → {l : List DataFrame}
      → Row g.start g.end g.t (Spared g.t d.history.losses) d.sender.next from (f ∷ l) → Tried terms (after l)
  try-gone g from b o {l} (frame i late early exact p r) =
      let q = used-to g from b o i p late early exact in
      let w = b.window in
      let x = o.least in
      let more = q.1.more in
      try-received g from b o i p late early exact l q.0 q.1
      (λ h x _. subst (Leftover x g.t) (sym (row-end (omega arith) r)) none)
      λ h. record {
        from' = min (i + 1) q.0;
        least = omega arith;
        reached = omega arith;
        inside = λ s. let k = q.1.past s in omega arith;
        row = row_loose (λ s. s) (λ s. let k = q.1.past s in omega arith) (omega arith) r;
      }

  -- and one that stays
  try-stays : (g : Ghosts) (from : ℕ) → BlockOf g d → OnItsWayOf g from d → {l : List DataFrame}
      → Row g.start g.end g.t (Spared g.t d.history.losses) d.sender.next from (f ∷ l) → Tried terms (after (f ∷ l))
  try-stays g from b o {l} (frame i late early exact p r) =
      let q = used-to g from b o i p late early exact in
      let w = b.window in
      let y = o.reached in
      let more = q.1.more in
      try-received g from b o i p late early exact (f ∷ l) q.0 q.1
      (λ h x z. subst (λ m. Leftover x g.t (f ∷ m)) (sym (row-end (omega arith) r)) (one z p.try))
      λ h. record {
        from' = from;
        least = o.least;
        reached = omega arith;
        inside = λ s. let k = q.1.past s in let j = exact s in omega arith;
        row = frame i late early exact p r;
      }

  row-arrives : (g : Ghosts) (from : ℕ) → BlockOf g d → OnItsWayOf g from d → {l rest : List DataFrame} → Rests l rest
      → Row g.start g.end g.t (Spared g.t d.history.losses) d.sender.next from (f ∷ l) → Tried terms (after rest)
  row-arrives g from b o (inl k) row = subst (λ (m : List DataFrame). Tried terms (after m)) (sym k) (try-gone g from b o row)
  row-arrives g from b o (inr k) row = subst (λ (m : List DataFrame). Tried terms (after m)) (sym k) (try-stays g from b o row)

  frame-arrives : {l rest : List DataFrame} → d.frames ≡ f ∷ l → Rests l rest → Stage d → Tried terms (after rest)
  frame-arrives {rest = rest} e k (vacant t q) = go (subst (Leftover d.receiver.at.expected t) e q.link') k
    where
      go : {l : List DataFrame} → Leftover d.receiver.at.expected t (f ∷ l) → Rests l rest → Tried terms (after rest)
      go (one h x) k = other-tried rest h (asked-vacant rest t q (left-rests (one h x) k))
  frame-arrives {rest = rest} e k (answered g old b a) = go (subst (Leftover d.receiver.at.expected g.t) e a.link') k
    where
      go : {l : List DataFrame} → Leftover d.receiver.at.expected g.t (f ∷ l) → Rests l rest → Tried terms (after rest)
      go (one h x) k = other-tried rest h (asked-answered rest g old b a x (left-rests (one h x) k))
  frame-arrives {rest = rest} e k (on_its_way g from b o) = go (subst (LineOf g from d) e o.link') k
    where
      go : {l : List DataFrame} → LineOf g from d (f ∷ l) → Rests l rest → Tried terms (after rest)
      go (alone r) k = row-arrives g from b o k r
      go (behind z h r) (inl k) = other-tried rest h (asked-way rest g from b o z (subst (LineOf g from d) (sym k) (alone r)))
      go (behind z h r) (inr k) = other-tried rest h (asked-way rest g from b o z (subst (LineOf g from d) (sym k) (behind z h r)))

-- ---- the moves

-- with a data frame in the link no message waits
abbrev pub Clear : Receiver → List DataFrame → Type 0
Clear r [] = Unit {0}
Clear r (f ∷ l) = waiting r ≡ false

-- no data frame arrives while a message waits
abbrev pub TakenBefore : Receiver → List DataFrame → Fate → Type 0
TakenBefore r l goes = Clear r l
TakenBefore r l stays = Clear r l
TakenBefore r l lost = Unit {0}

module _ {terms : Terms} {d : Direction} (v : Tried terms d) where
  -- the first frame is lost: one that is left of a try before, or one of the running try
  frame-lost : (f : DataFrame) (l : List DataFrame) → d.frames ≡ f ∷ l → Stage d → Stage (with_frames d l (losing d.history true f.try))
  frame-lost f l e (vacant t q) = go (subst (Leftover d.receiver.at.expected t) e q.link')
    where
      go : {l : List DataFrame} → Leftover d.receiver.at.expected t (f ∷ l) → Stage (with_frames d l (losing d.history true f.try))
      go (one h x) = vacant t (record { nothing = q.nothing; link' = none; acks' = q.acks'; due = q.due })
  frame-lost f l e (answered g old b a) = go (subst (Leftover d.receiver.at.expected g.t) e a.link')
    where
      go : {l : List DataFrame} → Leftover d.receiver.at.expected g.t (f ∷ l) → Stage (with_frames d l (losing d.history true f.try))
      go (one h x) =
          stage-lost {d = with_frames d [] d.history} f.try
          (answered g old b (record { over = a.over; link' = none; acks' = a.acks'; due = a.due; asker = a.asker; whole = a.whole }))
  frame-lost f l e (on_its_way g from b o) = go (subst (LineOf g from d) e o.link')
    where
      gone : f.try ≡ g.t → Spared g.t (f.try ∷ d.history.losses) → ⊥
      gone x s = not_spared g.t d.history.losses (subst (λ y. Spared g.t (y ∷ d.history.losses)) x s)

      pace : f.try ≡ g.t → PaceOf g from d → PaceOf g from (with_frames d l (losing d.history true f.try))
      pace x (sending y) = sending y
      pace x (awaiting y h) = awaiting y (λ s. absurd (gone x s))

      go : {l : List DataFrame} → LineOf g from d (f ∷ l) → Stage (with_frames d l (losing d.history true f.try))
      go {l} (behind z h r) =
          stage-lost {d = with_frames d l d.history} f.try
          (on_its_way g from b (record { least = o.least; reached = o.reached; pace = o.pace; link' = alone r; acks' = o.acks'; due = o.due }))
      go {l} (alone (frame i late early exact p r)) =
          on_its_way g from (block-lost f.try b)
          (record {
            least = o.least;
            reached = o.reached;
            pace = pace p.try o.pace;
            link' = alone (row_loose (λ s. absurd (gone p.try s)) (λ s. absurd (gone p.try s)) (omega arith) r);
            acks' = o.acks';
            due = o.due;
          })

  pub receive-tried : (limit : ℕ) (fate : Fate) → TakenBefore d.receiver d.frames fate → Tried terms (receiving limit fate d.frames d)
  receive-tried limit fate = go fate d.frames refl
    where
      deaf : {x : Direction} → d.listens ≡ false → Tried terms x
      deaf e = absurd (true≢false (sym v.steady.listens' ∙ e))

      go : (fate : Fate) (l : List DataFrame) → d.frames ≡ l → TakenBefore d.receiver l fate → Tried terms (receiving limit fate l d)
      go fate [] e c = v
      go goes (f ∷ l) e c = by (Tried terms) d.listens (λ _. frame-arrives v limit f c e (inl refl) v.stage) deaf
      go stays (f ∷ l) e c = by (Tried terms) d.listens (λ _. frame-arrives v limit f c e (inr e) v.stage) deaf
      go lost (f ∷ l) e c = record { steady = v.steady; room = v.room; bounded = v.bounded; stage = frame-lost f l e v.stage }

  pub take-tried : Tried terms (took_to d (took d.receiver (length d.buffer)))
  take-tried = go (take-outcome d.receiver (length d.buffer))
    where
      same : (c : Message) (h : List ShownMessage)
          → Tried terms (with_receiving d (record { at = d.receiver.at; back = d.receiver.back; complete = c; ack = d.receiver.ack }) d.buffer (handing d.history h))
      same c h = record { steady = v.steady; room = v.room; bounded = v.bounded; stage = stage-as (λ _ q. q) (λ _ b. b) (λ _ _ o. o) (λ _ _ a. a) v.stage }

      go : {x : Took} → TakeOutcome d.receiver (length d.buffer) x → Tried terms (took_to d x)
      go (none-complete w) = same d.receiver.complete _
      go (short-buffer w short) = same d.receiver.complete _
      go (shows w fits) = same _ _

  pub acknowledge-tried : d.receiver.ack.due ≡ true → Tried terms (with_ack d)
  acknowledge-tried due = record { steady = v.steady; room = v.room; bounded = v.bounded; stage = go v.stage }
    where
      f : AckFrame
      f = record { ready = d.receiver.ack.ready; number = d.receiver.ack.number % 16; try = d.history.ack_try }

      says : {x : ℕ} → x % 16 ≡ x → Due x d.receiver.ack → Says x f
      says e u = let p = u due in record { ready = p.0; number' = ap (λ n. n % 16) p.1 ∙ e }

      shown : (n : ℕ) {x : ℕ} → x ≡ n % 16 → x % 16 ≡ x
      shown n e = ap (λ m. m % 16) e ∙ mod-mod n 16 ∙ sym e

      go : Stage d → Stage (with_ack d)
      go (vacant t q) =
          vacant t (record { nothing = q.nothing; link' = q.link'; acks' = each_more q.acks' (says (mod-eq_of_lt q.nothing.small) q.due); due = λ e. absurd (false≢true e) })
      go (on_its_way g from b o) =
          on_its_way g from b
          (record {
            least = o.least;
            reached = o.reached;
            pace = o.pace;
            link' = o.link';
            acks' = each_more o.acks' (says (shown (g.start + d.sender.acked) b.oldest') o.due);
            due = λ e. absurd (false≢true e);
          })
      go (answered g old b a) =
          let p : Answers d.receiver.at.expected g.t f = record { says = says (shown (g.start + g.used) b.expected') a.due; try = a.asker due } in
          let r = rises-more a.acks' p in
          answered g old b
          (record {
            over = a.over;
            link' = a.link';
            acks' = r.1;
            due = λ e. absurd (false≢true e);
            asker = λ e. absurd (false≢true e);
            whole = λ s. ((a.whole s).0, inr (omega (arith, r.0, length-append d.acks (f ∷ []))));
          })
