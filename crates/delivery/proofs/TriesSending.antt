-- What the moves at the sending end keep of the tries: time passed, a frame handed over, a message offered.
use Rattle.std.specs.Prelude.{if◌then◌else◌}
use Prim.Native.Nat.{ℕ, suc, ◌+◌, ◌-◌, ◌*◌, min, ◌/◌, ◌%◌, ◌≤◌, ◌<◌}
use native.Mathlib.Nat.{mod-eq_of_lt, mul-mod_left, mul-add-mod_self_right, div-eq_of_lt-le}
use native.Mathlib.Omega.{arith}
use mathlib.Core.Bool.{Bool, true, false, ◌||◌, true≢false}
use mathlib.Core.List.{List, [], ◌∷◌}
use mathlib.Core.Logic.{◌⊎◌, inl, inr}
use mathlib.Core.Path.{◌≡◌, refl, sym, ap, subst, ◌∙◌}
use lib.Dec.{eqb}
use lib.ListN.{length, length-append, get_or-append}
use lib.Seq.{get_or_at}
use borrow.Author.Tests.{eqb-true, eqb-false, eq-eqb, ne_eqb}
use Rattle.laws.proofs.Branches.{or-on, or-on', or_off}
use Rattle.laws.proofs.Cases.{by_le, by-eq}
use Rattle.telegram.specs.Cutting.{frames_of, asks_at}
use Rattle.sender.specs.Sending.{accepted, offered, again, later, advanced, passed, handed}
use Rattle.sender.specs.declared.Terms.{Terms}
use Rattle.sender.specs.declared.Sender.{Sender}
use Rattle.sender.specs.declared.Offered.{Offered}
use Rattle.sender.specs.declared.Passed.{Passed}
use Rattle.sender.specs.declared.Handed.{Handed}
use Rattle.sender.proofs.Numbers.{number-true}
use Rattle.sender.proofs.Offers.{OfferCase, unfinished, no_bytes, too_long, accepts, offer_case}
use Rattle.sender.proofs.Time.{TimeCase, no-wait, runs_on, wait-used-up, sends-again, time_case, passed-quiet}
use Rattle.sender.proofs.Frames.{FrameCase, none-due, other_length, frame-out, frame_case}
use Rattle.channel.specs.declared.Answer.TheVariants.{Good}
use Rattle.delivery.specs.System.{Try, lent}
use Rattle.delivery.specs.Claim.{FewLosses, frames_for}
use Rattle.delivery.proofs.Core.{Direction, with_sending, with_frame, offered_to, passed_to, handed_to, frame_now, try_now, accepting, answer_noted}
use Rattle.delivery.proofs.Count.{Spared, next_try, losers-few, losers-next, frames-of, frames-other}
use Rattle.delivery.proofs.Tries.{Sends, Row, Says, Each, Due, Ghosts, Tally, Early, Pace, VacantOf, BlockOf, OverOf, PaceOf, LineOf, OnItsWayOf, AnsweredOf, Stage, Steady, Tried}
use Rattle.delivery.proofs.Tries.Row.{over}
use Rattle.delivery.proofs.Tries.Line.{alone}
use Rattle.delivery.proofs.Tries.Each.{none}
use Rattle.delivery.proofs.Tries.Pace.{sending, awaiting}
use Rattle.delivery.proofs.Tries.Stage.{vacant, on_its_way, answered}
use Rattle.delivery.proofs.TriesLinks.{line-from, line-none, line-more, left-line}

-- ---- numbers

-- in a block the last frame asks, and no other
asks-end : (size total block end n : ℕ) → 1 ≤ size → end ≡ min (block * size + size) total → block * size ≤ n → n < end
    → (eqb ((n + 1) % size) 0 || eqb (n + 1) total) ≡ eqb (n + 1) end
asks-end size total block end n least e h k =
    by-eq (λ (_ : ℕ). asks ≡ eqb (n + 1) end) (n + 1) end {x = 0} {y = 0}
    (λ a. by_le (λ (_ : ℕ). asks ≡ true) (block * size + size) total {x = 0} {y = 0}
    (λ b. or-on _ _ (eq-eqb _ _ (ap (λ m. m % size) (let s : n + 1 ≡ suc block * size = omega arith in s) ∙ mul-mod_left (suc block) size)))
    (λ b. or-on' (eqb ((n + 1) % size) 0) _ (eq-eqb (n + 1) total (omega arith)))
    ∙ sym (eq-eqb (n + 1) end a))
    λ a. or_off _ _ (ne_eqb ((n + 1) % size) 0 (λ z. let m = sym (inside a) ∙ z in omega arith)) (ne_eqb (n + 1) total (omega arith)) ∙ sym (ne_eqb (n + 1) end a)
  where
    asks : Bool
    asks = eqb ((n + 1) % size) 0 || eqb (n + 1) total

    inside : (n + 1 ≡ end → ⊥) → (n + 1) % size ≡ n + 1 - block * size
    inside a =
        let r : n + 1 ≡ block * size + (n + 1 - block * size) = omega arith in
        ap (λ m. m % size) r ∙ mul-add-mod_self_right block size (n + 1 - block * size) ∙ mod-eq_of_lt (omega arith)

-- one more try of the block, from what is acknowledged on
pub tally-again : {allowed base end repeats count count' next acked : ℕ} {t : Try} {frames losses : List Try} → Tally allowed base end repeats t count next frames losses
    → (Spared t losses → ⊥) → count' ≤ repeats + 1 → next ≤ end → base ≤ acked → Tally allowed base end (repeats + 1) (next_try t) count' acked frames losses
tally-again {t = t} {losses = losses} y lost c n b =
    let l = losers-next t losses lost in
    let h = y.handed in
    record { counts = c; losing = omega (arith, y.losing); handed = omega arith }

-- the try behind this one, of the same block
abbrev pub again_tried : Ghosts → Ghosts
again_tried g = record { start = g.start; used = g.used; end = g.end; repeats = g.repeats + 1; t = next_try g.t }

module _ {terms : Terms} {d : Direction} (v : Tried terms d) where
  -- another sender that holds nothing back, at the end that is open
  pub steady-with : (hold : ℕ) → hold ≡ 0 → Steady terms d.terms true d.listens hold
  steady-with hold e = let s = v.steady in record { same = s.same; fair = s.fair; live' = refl; listens' = s.listens'; hold' = e }

  -- ---- time

  -- the sender changed, with nothing said that the history counts
  sender-tried : (s : Sender) → s.hold ≡ 0 → Stage (with_sending d s true (answer_noted d.history Good)) → Tried terms (with_sending d s true (answer_noted d.history Good))
  sender-tried s hold stage = record { steady = steady-with s.hold hold; room = v.room; bounded = v.bounded; stage = stage }

  -- with the links empty and no Ack due, the try has lost a frame: one on its way, or the Ack
  lost-on-its-way : (g : Ghosts) (from : ℕ) → OnItsWayOf g from d → OverOf g d → (Spared g.t d.history.losses → from < g.end)
      → d.frames ≡ [] → Spared g.t d.history.losses → ⊥
  lost-on-its-way g from o w more e s = omega (arith, line-none (subst (LineOf g from d) e o.link') s, more s, w.next')

  lost-answer : (g : Ghosts) (old : ℕ) → AnsweredOf g old d → d.acks ≡ [] → d.receiver.ack.due ≡ false → Spared g.t d.history.losses → ⊥
  lost-answer g old a e f s = go (a.whole s).1
    where
      go : (d.receiver.ack.due ≡ true) ⊎ (old < length d.acks) → ⊥
      go (inl u) = true≢false (sym u ∙ f)
      go (inr h) = omega (arith, ap length e)

  -- then the block is sent again
  again-tried : (g : Ghosts) (pause gap : ℕ) → pause ≡ 0 → BlockOf g d → OverOf g d → (Spared g.t d.history.losses → ⊥)
      → d.frames ≡ [] → d.acks ≡ [] → d.receiver.ack.due ≡ false
      → Tried terms (with_sending d (again d.sender pause gap) true (answer_noted d.history Good))
  again-tried g pause gap p b o lost f a u =
      let w = b.window in
      let n = d.sender.acked in
      let empty : Row g.start g.end (next_try g.t) (Spared (next_try g.t) d.history.losses) n n [] = over {from = n} (omega arith) (λ _. refl) in
      sender-tried (again d.sender pause gap) p
      (on_its_way (again_tried g) n
      (record {
        current = b.current;
        window = omega arith;
        oldest' = b.oldest';
        expected' = b.expected';
        tally = tally-again b.tally lost (omega (arith, b.tally.counts)) (omega arith) w.base;
      })
      (record {
        least = omega arith;
        reached = w.acked-used;
        pace = sending (record { wait' = refl; next' = w.acked-end; turn = o.turn });
        link' = alone (subst (Row g.start g.end (next_try g.t) (Spared (next_try g.t) d.history.losses) n n) (sym f) empty);
        acks' = subst (Each (Says d.sender.oldest)) (sym a) none;
        due = λ e. absurd (true≢false (sym e ∙ u));
      }))

  module _ (few : FewLosses d.terms.repeats d.history.losses) (n : ℕ)
      (in_time : 1 ≤ d.sender.wait → d.sender.wait ≤ n → (d.frames ≡ []) × (d.acks ≡ []) × (d.receiver.ack.due ≡ false)) where
    -- the timers with less
    abbrev less : Direction
    less = with_sending d (later d.sender n) true (answer_noted d.history Good)

    less-tried : Stage less → Tried terms less
    less-tried = sender-tried (later d.sender n) (let h = v.steady.hold' in omega arith)

    -- no Ack is awaited
    unawaited : d.sender.wait ≡ 0 → Stage less → Tried terms (passed_to d (passed d.terms d.sender n))
    unawaited w stage = rw (passed-quiet d.terms d.sender n (λ r. omega arith)) (less-tried stage)

    -- an Ack is awaited: the timers with less, or the try lost a frame
    awaited : (g : Ghosts) → BlockOf g d → OverOf g d → (d.frames ≡ [] → d.acks ≡ [] → d.receiver.ack.due ≡ false → Spared g.t d.history.losses → ⊥)
        → (OverOf g less → Stage less) → Tried terms (passed_to d (passed d.terms d.sender n))
    awaited g b o lost stage = go (time_case d.terms d.sender n)
      where
        -- a wait that runs out finds the links empty, and the try has lost a frame
        empty : d.sender.wait ≤ n → (d.frames ≡ []) × (d.acks ≡ []) × (d.receiver.ack.due ≡ false)
        empty out = in_time o.wait' out

        loses : d.sender.wait ≤ n → Spared g.t d.history.losses → ⊥
        loses out = let e = empty out in lost e.0 e.1 e.2

        go : {x : Passed} → TimeCase d.terms d.sender n x → Tried terms (passed_to d x)
        go (no-wait w) = absurd (omega (arith, o.wait'))
        go (runs_on h) = less-tried (stage (record { wait' = omega arith; next' = o.next'; turn = o.turn }))
        go (wait-used-up r h) =
            let lose = losers-next g.t d.history.losses (loses r.over) in
            let most = losers-few d.terms.repeats (next_try g.t) d.history.losses few in
            absurd (omega (arith, b.tally.counts, b.tally.losing))
        go (sends-again r h) =
            let e = empty r.over in
            let hold = v.steady.hold' in
            again-tried g (d.sender.hold - n) (d.sender.gap - n) (omega arith) b o (loses r.over) e.0 e.1 e.2

    pub pass-tried : Tried terms (passed_to d (passed d.terms d.sender n))
    pass-tried = go v.stage
      where
        paced : (g : Ghosts) (from : ℕ) → BlockOf g d → OnItsWayOf g from d → PaceOf g from less → Stage less
        paced g from b o p = on_its_way g from b (record { least = o.least; reached = o.reached; pace = p; link' = o.link'; acks' = o.acks'; due = o.due })

        go : Stage d → Tried terms (passed_to d (passed d.terms d.sender n))
        go (vacant t q) =
            let o = q.nothing in
            unawaited o.wait'
            (vacant t (record {
              nothing = record { counted = o.counted; none' = o.none'; wait' = omega (arith, o.wait'); oldest' = o.oldest'; small = o.small; frames' = o.frames' };
              link' = q.link';
              acks' = q.acks';
              due = q.due;
            }))
        go (answered g old b a) =
            awaited g b a.over (λ _ e f. lost-answer g old a e f)
            λ p. answered g old b (record { over = p; link' = a.link'; acks' = a.acks'; due = a.due; asker = a.asker; whole = a.whole })
        go (on_its_way g from b o) = by-pace o.pace
          where
            by-pace : PaceOf g from d → Tried terms (passed_to d (passed d.terms d.sender n))
            by-pace (sending p) = unawaited p.wait' (paced g from b o (sending (record { wait' = omega (arith, p.wait'); next' = p.next'; turn = p.turn })))
            by-pace (awaiting p h) = awaited g b p (λ e _ _. lost-on-its-way g from o p h e) λ p'. paced g from b o (awaiting p' h)

  -- ---- a frame handed over

  module _ (g : Ghosts) (from : ℕ) (b : BlockOf g d) (o : OnItsWayOf g from d)
      (p : Early g.end d.history.turns g.t d.sender.wait d.sender.next) (same : length (lent d.history) ≡ d.sender.length) where
    -- it belongs to the running try
    next-try : try_now d ≡ g.t
    next-try = λ i. record { message = m i; block = q i; turn = sym p.turn i }
      where
        m : length d.history.accepted - 1 ≡ g.t.message
        m = omega (arith, b.current.counted, b.current.message')

        q : d.sender.next / d.terms.block ≡ g.t.block
        q = let w = b.window in div-eq_of_lt-le d.terms.block (omega arith) (omega (arith, p.next'))

    -- it asks if it is the block's last
    next-asks : asks_at d.terms.block d.sender.length d.sender.next ≡ eqb (d.sender.next + 1) g.end
    next-asks =
        let w = b.window in
        asks-end d.terms.block (frames_of d.sender.length) g.t.block g.end d.sender.next v.steady.fair.least w.ends (omega arith) p.next'

    next-sends : Sends g.start g.end g.t d.sender.next (frame_now d)
    next-sends =
        record {
          number = number-true d.sender g.start b.oldest' d.sender.next;
          asks = ap (λ n. asks_at d.terms.block n d.sender.next) same ∙ next-asks;
          try = next-try;
        }

    next-pace : (last : Bool) → eqb (d.sender.next + 1) g.end ≡ last
        → Pace g.end from (if last then d.history.turns + 1 else d.history.turns) g.t (if last then d.terms.t1 else 0) (d.sender.next + 1) d.history.losses
    next-pace true e =
        awaiting (record { wait' = v.steady.fair.t1; next' = eqb-true _ _ e; turn = ap (λ n. n + 1) p.turn })
        λ _. omega (arith, line-from o.link', p.next')
    next-pace false e =
        let n = eqb-false (d.sender.next + 1) g.end e in
        let h = p.next' in
        sending (record { wait' = refl; next' = omega arith; turn = p.turn })

    -- it counts for its message alone
    next-other : (i : ℕ) → (d.history.done ≡ i → ⊥) → frames_for i (try_now d ∷ d.history.frames) ≡ frames_for i d.history.frames
    next-other i h = frames-other i (try_now d) d.history.frames (λ e. h (omega (arith, b.current.counted)))

    handed-tried : Tried terms (with_frame d (advanced d.terms d.sender))
    handed-tried =
        let w = b.window in
        let y = b.tally in
        let n = p.next' in
        let m = g.t.message in
        let c = subst (λ x. frames_for m (x ∷ d.history.frames) ≡ frames_for m d.history.frames + 1) (sym next-try) (frames-of g.t d.history.frames) in
        record {
          steady = v.steady;
          room = v.room;
          bounded = record { before = λ i h. rw (next-other i (omega arith)) (v.bounded.before i h); after = λ i h. next-other i (omega arith) ∙ v.bounded.after i h };
          stage =
              on_its_way g from
              (record {
                current = b.current;
                window = omega arith;
                oldest' = b.oldest';
                expected' = b.expected';
                tally = record { counts = y.counts; losing = y.losing; handed = omega (arith, y.handed, c) };
              })
              (record {
                least = o.least;
                reached = o.reached;
                pace = rw (next-sends.asks, next-asks) (next-pace (eqb (d.sender.next + 1) g.end) refl);
                link' = line-more next-sends o.link';
                acks' = o.acks';
                due = o.due;
              });
        }

  pub hand-tried : Tried terms (handed_to d (handed d.terms d.sender (lent d.history)))
  hand-tried = go (frame_case d.terms d.sender (lent d.history))
    where
      -- a frame is due only of a block on its way, with no Ack awaited
      due-tried : length (lent d.history) ≡ d.sender.length → 0 < d.sender.length → d.sender.wait ≡ 0 → Stage d
          → Tried terms (with_frame d (advanced d.terms d.sender))
      due-tried same some unawaited (vacant t q) = absurd (omega (arith, q.nothing.none'))
      due-tried same some unawaited (answered g old b a) = absurd (omega (arith, a.over.wait'))
      due-tried same some unawaited (on_its_way g from b o) = by-pace o.pace
        where
          by-pace : PaceOf g from d → Tried terms (with_frame d (advanced d.terms d.sender))
          by-pace (sending p) = handed-tried g from b o p same
          by-pace (awaiting p h) = absurd (omega (arith, p.wait'))

      go : {x : Handed} → FrameCase d.terms d.sender (lent d.history) x → Tried terms (handed_to d x)
      go (none-due _) = v
      go (other_length _ _) = v
      go (frame-out due same) = due-tried same due.sending due.waited v.stage

  -- ---- a message offered

  accepted-tried : (m : List ℕ) → 1 ≤ length m → (t : Try) → VacantOf t d → Tried terms (with_sending d (accepted d.sender (length m)) d.live (accepting d.history m))
  unfolding frames_of
  accepted-tried m some t q =
      let f = v.steady.fair in
      let o = q.nothing in
      let size = d.terms.block in
      let x = d.receiver.at.expected in
      let l = d.history.accepted in
      let g : Ghosts = record { start = x; used = 0; end = min (0 * size + size) (frames_of (length m)); repeats = 0; t = record { message = d.history.done; block = 0; turn = d.history.turns } } in
      let shown : x ≡ (x + 0) % 16 = sym (mod-eq_of_lt (omega (arith, o.small))) ∙ ap (λ n. n % 16) (omega arith) in
      record {
        steady = v.steady;
        room = v.room;
        bounded = record { before = λ i h. rw (get_or-append l (m ∷ []) [] i (omega (arith, o.counted))) (v.bounded.before i h); after = v.bounded.after };
        stage =
            on_its_way g 0
            (record {
              current = record { counted = length-append l (m ∷ []) ∙ omega (arith, o.counted); message' = refl; same = sym (ap length (get_or_at l m [] [] d.history.done o.counted)); some = some };
              window = omega arith;
              oldest' = o.oldest' ∙ shown;
              expected' = shown;
              tally = omega (arith, o.frames');
            })
            (record {
              least = omega arith;
              reached = omega arith;
              pace = sending (record { wait' = refl; next' = omega arith; turn = refl });
              link' = left-line refl q.link';
              acks' = subst (λ n. Each (Says n) d.acks) (sym o.oldest') q.acks';
              due = subst (λ n. Due n d.receiver.ack) (sym o.oldest') q.due;
            });
      }

  pub offer-tried : (limit : ℕ) (m : List ℕ) → Tried terms (offered_to d m (offered limit d.sender (length m)))
  offer-tried limit m = go (offer_case limit d.sender (length m))
    where
      -- no message is in sending only between two of them
      begun-tried : d.sender.length ≡ 0 → 0 < length m → Stage d → Tried terms (with_sending d (accepted d.sender (length m)) d.live (accepting d.history m))
      begun-tried unsent some (vacant t q) = accepted-tried m some t q
      begun-tried unsent some (on_its_way g from b o) = absurd (omega (arith, b.current.some))
      begun-tried unsent some (answered g old b a) = absurd (omega (arith, b.current.some))

      go : {x : Offered} → OfferCase limit d.sender (length m) x → Tried terms (offered_to d m x)
      go (unfinished _) = v
      go (no_bytes _ _) = v
      go (too_long _ _) = v
      go (accepts t) = begun-tried t.free t.some v.stage
