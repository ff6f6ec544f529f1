-- What the moves at the receiving end keep: a data frame received, a message taken, the due Ack handed over.
use Prim.Native.Nat.{ℕ, ◌+◌, ◌-◌, ◌*◌, max, ◌%◌, ◌≤◌, ◌<◌}
use native.Mathlib.Numerals.{add-one}
use native.Mathlib.Omega.{arith}
use mathlib.Core.Bool.{Bool, true, false, true≢false}
use mathlib.Core.List.{List, [], ◌∷◌, ◌++◌, append-nil, map, map-append}
use mathlib.Core.Logic.{◌⊎◌, inl, inr}
use mathlib.Core.Path.{◌≡◌, refl, sym, ap, ap₂, subst, ◌∙◌}
use lib.Dec.{ltb}
use lib.ListN.{length, take, drop, get_or, length-append, take-append-drop}
use lib.Seq.{take-suc}
use borrow.Author.Tests.{ltb-true, ltb-false}
use Rattle.laws.proofs.Cases.{by, either}
use Rattle.delivery.proofs.Mod16.{same-shown}
use Rattle.telegram.specs.Cutting.{none, frames_of}
use Rattle.telegram.specs.declared.kinds.Telegram.TheVariants.{Data}
use Rattle.sender.specs.declared.Sender.{Sender}
use Rattle.receiver.specs.Receiving.{ack_after, kept, on_data, is_used, took}
use Rattle.telegram.specs.declared.cutting.Message.{Message}
use Rattle.receiver.specs.declared.Standing.{Standing}
use Rattle.receiver.specs.declared.AckDue.{AckDue}
use Rattle.receiver.specs.declared.Receiver.{Receiver}
use Rattle.receiver.specs.declared.Receipt.{Receipt}
use Rattle.receiver.specs.declared.Receipt.TheVariants.{NoData}
use Rattle.receiver.specs.declared.Received.{Received}
use Rattle.receiver.specs.declared.Took.{Took}
use Rattle.receiver.proofs.Outcomes.{Outcome, out-of-place, untaken, thrown-away, in-order, outcome, TakeOutcome, none-complete, short-buffer, shows, take-outcome}
use Rattle.receiver.proofs.Laws.{kept-is, outcome-ack, received-data, buffered-unused, buffered-length}
use Rattle.reading.specs.Reading.{Reading, after}
use Rattle.reading.proofs.Frame.{unflagged, Behind, Reads, within, whole, behind-front, reads-used, reads-expected, arrives-data, reads-frame}
use Rattle.reading.proofs.Whole.{read-shown}
use Rattle.delivery.specs.System.{Try, ShownMessage, shown_of, plain, handing}
use Rattle.delivery.proofs.Core.{DataFrame, Direction, with_receiving, with_handed_out, asked_by, received_to, received, took_to, with_ack, move}
use Rattle.delivery.proofs.Core.Move.{taken}
use Rattle.delivery.proofs.Invariant.{current, Half, Sending, Carries, Placed, Forward, Backward, Out, Waits, Complete, Content, Holds, Invariant, Kept}
use Rattle.delivery.proofs.Links.{forward-bounds, backward-bounds, backward-due, backward-hand}
use Rattle.delivery.proofs.SendingKeeps.{in-sending}

-- ---- messages as they are to arrive

-- one more of those accepted
pub one_more : (ms : List (List ℕ)) (n : ℕ) → n < length ms → map plain (take n ms) ++ (plain (get_or ms n []) ∷ []) ≡ map plain (take (n + 1) ms)
one_more ms n below = sym (map-append plain (take n ms) (get_or ms n [] ∷ [])) ∙ ap (map plain) (sym (take-suc ms n [] below) ∙ ap (λ (i : ℕ). take i ms) (sym (add-one n)))

shown-plain : {bytes m : List ℕ} {flags : ℕ} → bytes ≡ m → flags ≡ 0 → record { bytes = bytes; flags = flags } ≡ plain m
shown-plain e f = rw (e, f)

-- ---- what the receiver holds

-- with none waiting, all that were complete are handed out
all-out : {count : ℕ} {waits : Message} {accepted : List (List ℕ)} {handed_out : List ShownMessage} {buffer : List ℕ} → Complete count accepted handed_out waits buffer → waits.length ≡ 0
    → Out count handed_out waits
all-out (inl o) h = o
all-out (inr w) h = absurd (omega (arith, w.some))

one-waits : {count : ℕ} {waits : Message} {accepted : List (List ℕ)} {handed_out : List ShownMessage} {buffer : List ℕ} → Complete count accepted handed_out waits buffer → 1 ≤ waits.length
    → Waits count accepted handed_out waits buffer
one-waits (inl o) h = absurd (omega (arith, o.none))
one-waits (inr w) h = w

-- the one that waits is taken
taken_out : {count : ℕ} {waits : Message} {accepted : List (List ℕ)} {handed_out : List ShownMessage} {buffer : List ℕ} (x : ShownMessage) → 1 ≤ waits.length
    → Complete count accepted handed_out waits buffer → Complete count accepted (handed_out ++ (x ∷ [])) none buffer
taken_out {handed_out = handed_out} x some c = let w = one-waits c some in inl (record { none = refl; all = length-append handed_out (x ∷ []) ∙ w.all })

module _ {used done : ℕ} {waits : Message} {m buffer : List ℕ} {accepted : List (List ℕ)} {handed_out : List ShownMessage} {at : Standing} where
  -- nothing is being thrown away
  not-discarding : Holds used done m accepted handed_out at waits buffer
      → at.discarding ≡ false
  not-discarding (inl c) = c.between.discarding
  not-discarding (inr (inl c)) = c.inside.discarding
  not-discarding (inr (inr c)) = c.between.discarding

  -- the message that waits is the next one accepted
  next-waits : {limit size block : ℕ} {s : Sender} → 1 ≤ waits.length
      → Holds used done m accepted handed_out at waits buffer
      → Half limit accepted done size used block m s
      → (shown_of waits buffer ≡ plain (get_or accepted (length handed_out) [])) × (length handed_out < length accepted)
  next-waits some (inl c) (inl i) = let w = one-waits c.complete some in (w.front, omega (arith, w.all, i.counted))
  next-waits some (inl c) (inr b) = let w = one-waits c.complete some in (w.front, omega (arith, w.all, b.counted))
  next-waits some (inr (inl c)) s = absurd (omega (arith, c.complete.none))
  next-waits some (inr (inr c)) s = let w = one-waits c.complete some in (w.front, omega (arith, w.all, c.counted))

  -- what the receiver holds when the message that waits is taken
  content-taken : (x : ShownMessage) → 1 ≤ waits.length
      → Holds used done m accepted handed_out at waits buffer
      → Holds used done m accepted (handed_out ++ (x ∷ [])) at none buffer
  content-taken x some (inl c) = inl (record { none = c.none; between = c.between; complete = taken_out x some c.complete })
  content-taken x some (inr (inl c)) = absurd (omega (arith, c.complete.none))
  content-taken x some (inr (inr c)) = inr (inr (record { counted = c.counted; all = c.all; between = c.between; complete = taken_out x some c.complete }))

  -- a message done is handed out or waits
  done-of : {i : ℕ} → i < done
      → Holds used done m accepted handed_out at waits buffer
      → (i < length handed_out) ⊎ ((length handed_out ≡ i) × (1 ≤ waits.length) × (waits.length ≤ length buffer) × (shown_of waits buffer ≡ plain (get_or accepted i [])))
  done-of {i} h (inl c) = go c.complete
    where
      go : Complete done accepted handed_out waits buffer
          → (i < length handed_out) ⊎ ((length handed_out ≡ i) × (1 ≤ waits.length) × (waits.length ≤ length buffer) × (shown_of waits buffer ≡ plain (get_or accepted i [])))
      go (inl o) = inl (omega (arith, o.all))
      go (inr w) =
          either (ltb i (length handed_out))
          (λ b. inl (ltb-true _ _ b))
          λ b. let past = ltb-false i (length handed_out) b in
          let e : length handed_out ≡ i = omega (arith, w.all) in
          inr (e, w.some, w.fits, w.front ∙ ap (λ (n : ℕ). plain (get_or accepted n [])) e)
  done-of h (inr (inl c)) = inl (omega (arith, c.complete.all))
  done-of {i} h (inr (inr c)) = inl (go c.complete)
    where
      go : Complete (done + 1) accepted handed_out waits buffer → i < length handed_out
      go (inl o) = omega (arith, o.all)
      go (inr w) = omega (arith, w.all)

-- ---- the receiver as a reader of the message in sending

-- the receiver and its buffer, before a frame
abbrev reading_of : Direction → Reading
reading_of d = record { receiver = d.receiver; buffer = d.buffer; note = NoData }

module _ {start used done : ℕ} {m : List ℕ} {accepted : List (List ℕ)} {handed_out : List ShownMessage} where
  -- with frames of the message left to use and none waiting, it stands behind those used, and all complete before are handed out
  holds-behind : (d : Direction) → Holds used done m accepted handed_out d.receiver.at d.receiver.complete d.buffer
      → used < frames_of (length m) → d.receiver.complete.length ≡ 0 → d.receiver.at.expected ≡ (start + used) % 16
      → Behind m 0 start d.buffer used (reading_of d) × (length handed_out ≡ done)
  holds-behind d (inl c) more none' e = (
    record {
      expected = e;
      discarding = c.between.discarding;
      complete = none';
      starts = λ _. c.between.begun;
      begun = λ z. absurd (omega (arith, c.none));
      fill = λ z. absurd (omega (arith, c.none));
      buffer = rw c.none;
    },
    (all-out c.complete none').all,
  )
  holds-behind d (inr (inl c)) more none' e = (
    record {
      expected = e;
      discarding = c.inside.discarding;
      complete = none';
      starts = λ z. absurd (omega (arith, c.inside.least));
      begun = λ _. c.inside.begun;
      fill = λ _. c.inside.fill;
      buffer = sym (take-append-drop (7 * used - 2) d.buffer) ∙ ap (λ (x : List ℕ). x ++ drop (7 * used - 2) d.buffer) c.inside.front;
    },
    c.complete.all,
  )
  holds-behind d (inr (inr c)) more none' e = absurd (omega (arith, c.all))

  -- what it holds when it has read the next one
  reads-holds : {b : List ℕ} {h : Reading} → Reads m 0 start b used h → length handed_out ≡ done
      → length accepted ≡ done + 1 → m ≡ get_or accepted done [] → 1 ≤ length m
      → Holds (used + 1) done m accepted handed_out h.receiver.at h.receiver.complete h.buffer
  reads-holds (within u n s) out counted same some =
      inr (inl (record {
        inside = record {
          begun = s.begun (omega arith);
          discarding = s.discarding;
          fill = s.fill (omega arith);
          least = omega arith;
          most = u;
          front = behind-front (used + 1) u s;
        };
        complete = record { none = s.complete; all = out };
      }))
  reads-holds {b} {h} (whole e t) out counted same some =
      let w = ap (λ (x : Message). x.length) t.complete in
      let l = simp length-append at (ap length t.buffer) in
      inr (inr (record {
        counted = counted;
        all = e;
        between = record { begun = ap (λ (x : Message). x.length) t.begun; discarding = t.discarding };
        complete =
            inr
            (record {
              some = omega arith;
              fits = omega arith;
              all = omega arith;
              front = shown-plain (read-shown m 0 start b h t ∙ same ∙ ap (λ (n : ℕ). get_or accepted n []) (sym out)) (ap (λ (x : Message). x.flags) t.complete);
            });
      }))

-- ---- the sending half behind a frame

-- the highest index lies at most 15 ahead of what is expected
high-close : {limit done size used block : ℕ} {accepted : List (List ℕ)} {m : List ℕ} {s : Sender} → size ≤ 15
    → Half limit accepted done size used block m s → s.high ≤ used + 15
high-close h (inl i) = omega arith
high-close h (inr b) = omega arith

-- something handed over is of a message in sending
high-busy : {limit done size used block : ℕ} {accepted : List (List ℕ)} {m : List ℕ} {s : Sender}
    → Half limit accepted done size used block m s → used < s.high → 1 ≤ s.length
high-busy (inl i) h = absurd (omega arith)
high-busy (inr b) h = omega arith

-- ---- a data frame arrives

-- no frame changes the length of the buffer
pub received-length : (limit : ℕ) (d : Direction) (f : DataFrame) → length (received limit d f).buffer ≡ length d.buffer
received-length limit d f =
    rw received-data at (buffered-length limit d.receiver (Data f.asks f.last f.number) f.bytes d.buffer)

-- what a frame leaves that is not used
abbrev pub unused_by : Direction → DataFrame → Direction
unused_by d f = with_receiving d (kept d.receiver f.asks) d.buffer (asked_by d.history f.asks f.try)

pub unused-received : (d : Direction) (f : DataFrame) (note : Receipt) → is_used note ≡ false
    → received_to d f (record { note = note; receiver = kept d.receiver f.asks }) ≡ unused_by d f
unused-received d f note u =
    ap (λ (b : List ℕ). with_receiving d (kept d.receiver f.asks) b (asked_by d.history f.asks f.try)) (buffered-unused d.receiver note f.bytes d.buffer u)

module _ {limit room start used block : ℕ} {places : List ℕ} {d : Direction} (v : Invariant limit room start used block places d) where
  -- the Ack due after a frame, and those in the link
  due-keeps : (more : ℕ) (asks : Bool) (number : ℕ) → number ≡ (start + (used + more)) % 16 → start + d.sender.acked ≤ start + used
      → Backward (start + d.sender.acked) (start + (used + more)) (ack_after d.receiver asks number) d.acks
  due-keeps more asks number e h =
      by (λ (k : AckDue). Backward (start + d.sender.acked) (start + (used + more)) k d.acks) asks
      (λ _. backward-due (start + d.sender.acked) (start + used) (start + (used + more)) d.receiver.ack _ number h (omega arith) e d.acks v.backward)
      λ _. backward-bounds (start + d.sender.acked) (start + d.sender.acked) (start + used) (start + (used + more)) d.receiver.ack (omega arith) (omega arith)
      d.acks v.backward

  pub acked-used : start + d.sender.acked ≤ start + used
  acked-used = go v.sending
    where
      go : Sending limit d.history d.terms.block used block d.sender → start + d.sender.acked ≤ start + used
      go (inl i) = omega arith
      go (inr b) = omega arith

  -- a frame that is not used: only an Ack may become due
  pub unused-keeps : (asks : Bool) (t : Try)
      → Invariant limit room start used block places (with_receiving d (kept d.receiver asks) d.buffer (asked_by d.history asks t))
  unused-keeps asks t =
      rw (kept-is d.receiver asks)
      (record {
        fair = v.fair;
        room' = v.room';
        sending = v.sending;
        oldest = v.oldest;
        expected = v.expected;
        forward = v.forward;
        backward =
            backward-bounds _ _ (start + (used + 0)) (start + used) _ (omega arith) (omega arith) d.acks
            (due-keeps 0 asks _ (v.expected ∙ ap (λ (n : ℕ). n % 16) (omega arith)) acked-used);
        content = v.content;
        in_order = v.in_order;
        eight = v.eight;
      })

  -- a frame that is used leaves a receiver and a buffer
  used-keeps : used < d.sender.high → (asks : Bool) (t : Try) (r : Receiver) (buffer : List ℕ)
      → r.at.expected ≡ (start + (used + 1)) % 16 → r.ack ≡ ack_after d.receiver asks r.at.expected → length buffer ≡ room
      → Content (used + 1) d.history r buffer
      → Forward start (start + d.sender.high) (current d.history) d.terms.block (start + (used + 1)) places d.frames
      → Invariant limit room start (used + 1) block places (with_receiving d r buffer (asked_by d.history asks t))
  used-keeps more asks t r buffer e ack l content forward =
      let b = in-sending v (high-busy v.sending more) in
      record {
        fair = v.fair;
        room' = l;
        sending =
            inr
            (record {
              counted = b.counted;
              length' = b.length';
              some = b.some;
              within = b.within;
              acked-used = omega arith;
              used_high = omega arith;
              acked-next = b.acked-next;
              next-high = b.next-high;
              high-all = b.high-all;
              acked-all = b.acked-all;
              block-acked = b.block-acked;
              acked-block = b.acked-block;
              high-block = b.high-block;
              inside = b.inside;
            });
        oldest = v.oldest;
        expected = e;
        forward = forward;
        backward =
            subst (λ (k : AckDue). Backward (start + d.sender.acked) (start + (used + 1)) k d.acks) (sym ack)
            (due-keeps 1 asks r.at.expected e acked-used);
        content = content;
        in_order = v.in_order;
        eight = v.eight;
      }

  module _ (small : limit ≤ 4095) (roomy : length (current d.history) ≤ room) (f : DataFrame) where
    -- what becomes of the frame
    abbrev answer : Received
    answer = on_data limit d.receiver f.asks f.last f.number f.bytes (length d.buffer)

    -- the expected frame, with none waiting, is read as the next one of the message in sending
    expected-reads : used < d.sender.high → f.number ≡ (start + used) % 16 → Carries (current d.history) d.terms.block used f
        → Behind (current d.history) 0 start d.buffer used (reading_of d)
        → Reads (current d.history) 0 start d.buffer used (after (reading_of d) f.bytes answer)
    expected-reads more number carries behind =
        let b = in-sending v (high-busy v.sending more) in
        let r = v.room' in
        let bytes = carries.bytes ∙ ap (λ (s : List ℕ). take 7 (drop (7 * used) s)) (unflagged (current d.history)) in
        subst (Reads (current d.history) 0 start d.buffer used)
        (arrives-data limit (reading_of d) f.asks _ _ _
        ∙ λ i. after (reading_of d) (sym bytes i)
        (on_data limit d.receiver f.asks (sym carries.last i) (sym number i) (sym bytes i) (length d.buffer)))
        (reads-frame limit (current d.history) 0 start d.buffer b.some b.within small (omega arith) (omega arith) used (reading_of d) f.asks (omega arith) behind)

    expected-keeps : used < d.sender.high → f.number ≡ (start + used) % 16 → Carries (current d.history) d.terms.block used f
        → d.receiver.complete.length ≡ 0
        → Forward start (start + d.sender.high) (current d.history) d.terms.block (start + (used + 1)) places d.frames
        → Invariant limit room start (used + 1) block places (received limit d f)
    expected-keeps more number carries none' forward =
        let b = in-sending v (high-busy v.sending more) in
        let c = holds-behind d v.content (omega arith) none' v.expected in
        let q = expected-reads more number carries c.0 in
        let a = outcome-ack (outcome limit d.receiver f.asks f.last f.number f.bytes (length d.buffer))
        (λ e. absurd (true≢false (sym (reads-used q) ∙ ap is_used e))) in
        used-keeps more f.asks f.try answer.receiver _ (reads-expected q) a.ack (received-length limit d f ∙ v.room')
        (reads-holds q c.1 b.counted refl b.some) forward

    -- a frame is used exactly where its index is the expected one and none waits; those behind it may be used after it
    pub data-keeps : (i : ℕ)
        → Placed start (start + d.sender.high) (current d.history) d.terms.block (start + used) i f
        → Forward start (start + d.sender.high) (current d.history) d.terms.block (max (start + used) (i + 1)) places d.frames
        → Kept limit room (received limit d f)
    data-keeps i placed behind = go refl (outcome limit d.receiver f.asks f.last f.number f.bytes (length d.buffer))
      where
        same_index : f.number ≡ d.receiver.at.expected → i ≡ start + used
        same_index e =
            let h = high-close v.fair.most v.sending in
            let below = placed.below in
            let close = placed.close in
            same-shown i (start + used) (sym placed.number ∙ e ∙ v.expected) (omega arith) (omega arith)

        expected' : f.number ≡ d.receiver.at.expected → d.receiver.complete.length ≡ 0 → Kept limit room (received limit d f)
        expected' e none' =
            let same = same_index e in
            let below = placed.below in
            let top = start + d.sender.high in
            let forward = forward-bounds start top top (current d.history) d.terms.block (max (start + used) (i + 1)) (start + (used + 1)) (omega arith) (omega arith)
            places d.frames behind in
            (start, used + 1, block, places, expected-keeps (omega arith) (e ∙ v.expected) (placed.carries used same) none' forward)

        unused : (note : Receipt) → is_used note ≡ false → Kept limit room (received_to d f (record { note = note; receiver = kept d.receiver f.asks }))
        unused note u = rw (unused-received d f note u) (start, used, block, places, unused-keeps f.asks f.try)

        go : {x : Received} → answer ≡ x → Outcome limit d.receiver f.asks f.last f.number f.bytes (length d.buffer) x → Kept limit room (received limit d f)
        go e (out-of-place n) = subst (λ (x : Received). Kept limit room (received_to d f x)) (sym e) (unused _ refl)
        go e (untaken n w) = subst (λ (x : Received). Kept limit room (received_to d f x)) (sym e) (unused _ refl)
        go e (thrown-away n w t) = absurd (true≢false (sym t ∙ not-discarding v.content))
        go e (in-order o j) = expected' o.expected (omega (arith, ltb-false 0 d.receiver.complete.length o.none-waits))

  -- ---- a message is taken

  -- nothing shown changes nothing
  pub shown-none : Kept limit room (with_receiving d d.receiver d.buffer (handing d.history []))
  shown-none = (
    start,
    used,
    block,
    places,
    subst (λ (l : List ShownMessage). Invariant limit room start used block places (with_receiving d d.receiver d.buffer (with_handed_out d.history l)))
        (sym (append-nil d.history.handed_out)) v,
  )

  -- the message that waits is the next one accepted
  pub taken-keeps : 1 ≤ d.receiver.complete.length
      → Invariant limit room start used block places
      (with_receiving d (record { at = d.receiver.at; back = d.receiver.back; complete = none; ack = d.receiver.ack }) d.buffer
      (handing d.history (shown_of d.receiver.complete d.buffer ∷ [])))
  taken-keeps some =
      record {
        fair = v.fair;
        room' = v.room';
        sending = v.sending;
        oldest = v.oldest;
        expected = v.expected;
        forward = v.forward;
        backward = v.backward;
        content = content-taken (shown_of d.receiver.complete d.buffer) some v.content;
        in_order = in_order (next-waits some v.content v.sending);
        eight = v.eight;
      }
    where
      more : List ShownMessage
      more = d.history.handed_out ++ (shown_of d.receiver.complete d.buffer ∷ [])

      in_order : (shown_of d.receiver.complete d.buffer ≡ plain (get_or d.history.accepted (length d.history.handed_out) []))
          × (length d.history.handed_out < length d.history.accepted)
          → more ≡ map plain (take (length more) d.history.accepted)
      in_order (front, below) =
          ap₂ (λ (a : List ShownMessage) (b : ShownMessage). a ++ (b ∷ [])) v.in_order front
          ∙ one_more d.history.accepted (length d.history.handed_out) below
          ∙ ap (λ (n : ℕ). map plain (take n d.history.accepted)) (sym (length-append d.history.handed_out _))

  pub take-keeps : Kept limit room (took_to d (took d.receiver (length d.buffer)))
  take-keeps = go (take-outcome d.receiver (length d.buffer))
    where
      go : {x : Took} → TakeOutcome d.receiver (length d.buffer) x → Kept limit room (took_to d x)
      go (none-complete w) = shown-none
      go (short-buffer w short) = shown-none
      go (shows w fits) = (start, used, block, places, taken-keeps (ltb-true _ _ w))

  -- ---- the due Ack is handed over

  pub acknowledge-keeps : d.receiver.ack.due ≡ true → Invariant limit room start used block places (with_ack d)
  acknowledge-keeps due =
      record {
        fair = v.fair;
        room' = v.room';
        sending = v.sending;
        oldest = v.oldest;
        expected = v.expected;
        forward = v.forward;
        backward = backward-hand (start + d.sender.acked) (start + used) d.receiver.ack _ due refl d.acks v.backward;
        content = v.content;
        in_order = v.in_order;
        eight = v.eight;
      }

  -- ---- what was reported done

  -- it is handed out, or it waits complete and a take shows it
  pub done-complete : (i : ℕ) → i < d.history.done
      → (i < length d.history.handed_out)
      ⊎ ((length d.history.handed_out ≡ i) × (1 ≤ d.receiver.complete.length) × (d.receiver.complete.length ≤ length d.buffer)
      × (shown_of d.receiver.complete d.buffer ≡ plain (get_or d.history.accepted i [])))
  done-complete i h = done-of h v.content

-- a take shows the message that waits
module _ (limit : ℕ) (d : Direction) (open' : d.listens ≡ true)
    (some : 1 ≤ d.receiver.complete.length) (fits : d.receiver.complete.length ≤ length d.buffer) where
  pub take-shows : (move limit d taken).history.handed_out ≡ d.history.handed_out ++ (shown_of d.receiver.complete d.buffer ∷ [])
  take-shows =
      by (λ (x : Direction). x.history.handed_out ≡ more) d.listens (λ _. go (take-outcome d.receiver (length d.buffer))) λ e. absurd (true≢false (sym open' ∙ e))
    where
      more : List ShownMessage
      more = d.history.handed_out ++ (shown_of d.receiver.complete d.buffer ∷ [])

      go : {x : Took} → TakeOutcome d.receiver (length d.buffer) x → (took_to d x).history.handed_out ≡ more
      go (none-complete w) = absurd (omega (arith, ltb-false 0 d.receiver.complete.length w))
      go (short-buffer w short) = absurd (omega arith)
      go (shows w fits') = refl
