-- What the moves at the sending end keep: a message offered, an Ack heard, time passed, a frame handed over.
use Rattle.std.specs.Prelude.{if◌then◌else◌}
use Prim.Native.Nat.{ℕ, suc, ◌+◌, ◌-◌, ◌*◌, max, ◌%◌, ◌≤◌, ◌<◌}
use native.Mathlib.Nat.{mul-mod_left}
use native.Mathlib.Omega.{arith}
use mathlib.Core.Bool.{Bool, true, false, ◌||◌, or-true}
use mathlib.Core.List.{List, [], ◌∷◌, ◌++◌, map}
use mathlib.Core.Logic.{inl, inr}
use mathlib.Core.Path.{◌≡◌, refl, sym, ap, subst₂, ◌∙◌}
use lib.Dec.{eqb}
use borrow.Author.Tests.{eq-eqb, not-true}
use lib.ListN.{length, take, drop, get_or, length-append, length-map, length-take, get_or-append}
use lib.Seq.{get_or_at, take-append-le}
use Rattle.laws.proofs.Cases.{by-lt}
use Rattle.telegram.specs.Cutting.{stream_of, frames_of, asks_at, last_at}
use Rattle.sender.specs.Sending.{accepted, offered, distance, acknowledged, finished, held_for, again, later, advanced, on_ack, passed, handed}
use Rattle.sender.specs.declared.Sender.{Sender}
use Rattle.sender.specs.declared.Offered.{Offered}
use Rattle.sender.specs.declared.Heard.{Heard}
use Rattle.sender.specs.declared.Passed.{Passed}
use Rattle.sender.specs.declared.Handed.{Handed}
use Rattle.sender.proofs.Numbers.{distance-reaches, oldest-ahead, number-true}
use Rattle.sender.proofs.Offers.{Takes, OfferCase, unfinished, no_bytes, too_long, accepts, offer_case}
use Rattle.sender.proofs.Acks.{AckCase, no-message, in-hold, repeated, beyond, ack-used-up, held_back, all-acked, part-acked, ack_case}
use Rattle.sender.proofs.Time.{TimeCase, no-wait, runs_on, wait-used-up, sends-again, time_case}
use Rattle.sender.proofs.Frames.{Due, FrameCase, none-due, other_length, frame-out, frame_case}
use Rattle.telegram.specs.declared.cutting.Message.{Message}
use Rattle.receiver.specs.declared.Standing.{Standing}
use Rattle.channel.specs.declared.Answer.TheVariants.{Good, Done, UsedUp}
use Rattle.delivery.specs.System.{Try, ShownMessage, plain, lent}
use Rattle.delivery.proofs.Core.{DataFrame, Direction, with_sending, with_frame, offered_to, heard_to, passed_to, handed_to, frame_now, accepting, answer_noted}
use Rattle.delivery.proofs.Invariant.{current, Idle, Busy, Half, Sending, Carries, Placed, Forward, Shows, Backward, Begin, Complete, Content, Holds, Invariant, Kept}
use Rattle.delivery.proofs.Links.{forward-bounds, forward-old, forward-more, backward-bounds}

-- a message in sending makes the sending half busy
busy-of : {limit done size used block : ℕ} {accepted : List (List ℕ)} {m : List ℕ} {s : Sender}
    → Half limit accepted done size used block m s → 1 ≤ s.length → Busy limit accepted done size used block m s
busy-of (inl i) h = absurd (omega (arith, i.length'))
busy-of (inr b) h = b

-- no message in sending leaves it idle
idle-of : {limit done size used block : ℕ} {accepted : List (List ℕ)} {m : List ℕ} {s : Sender}
    → Half limit accepted done size used block m s → s.length ≡ 0 → Idle accepted done used s
idle-of (inl i) h = i
idle-of (inr b) h = absurd (omega (arith, b.length', b.some))

-- the block that goes on from what is acknowledged, or the next one
next-block : (size block acked high : ℕ) → 1 ≤ size → block * size ≤ acked → acked ≤ high → high ≤ block * size + size
    → (q : ℕ) × (q * size ≤ acked) × (acked < q * size + size) × (high ≤ q * size + size)
next-block size block acked high a b c d =
    by-lt (λ (q : ℕ). (q : ℕ) × (q * size ≤ acked) × (acked < q * size + size) × (high ≤ q * size + size)) acked (block * size + size)
    {x = block} {y = block}
    (λ h. (block, b, h, d))
    (λ h. (block + 1, omega arith, omega arith, omega arith))

-- an Ack is awaited only for a message in sending
pub waits-busy : {limit done size used block : ℕ} {accepted : List (List ℕ)} {m : List ℕ} {s : Sender}
    → Half limit accepted done size used block m s → 0 < s.wait → 1 ≤ s.length
waits-busy (inl i) h = absurd (omega (arith, i.wait))
waits-busy (inr b) h = omega (arith, b.length', b.some)

-- time passes while no Ack is awaited
unawaited : {limit done size used block : ℕ} {accepted : List (List ℕ)} {m : List ℕ} {s : Sender} (n : ℕ) → s.wait ≡ 0
    → Half limit accepted done size used block m s
    → Half limit accepted done size used block m (later s n)
unawaited n w (inl i) = inl (omega arith)
unawaited n w (inr b) = let i = b.inside w in inr (omega arith)

-- less time passes than an Ack is awaited
still-awaited : {limit done size used block : ℕ} {accepted : List (List ℕ)} {m : List ℕ} {s : Sender} (n : ℕ) → n < s.wait
    → Half limit accepted done size used block m s
    → Half limit accepted done size used block m (later s n)
still-awaited n w (inl i) = absurd (omega arith)
still-awaited n w (inr b) = inr (omega arith)

-- after a frame with no AR the next one lies in the block still
block-end : (size block next t1 : ℕ) (last : Bool) → 1 ≤ t1 → next < block * size + size
    → (if eqb ((next + 1) % size) 0 || last then t1 else 0) ≡ 0 → next + 1 < block * size + size
block-end size block next t1 last a b =
    by-lt (λ (n : ℕ). (if eqb ((next + 1) % size) 0 || last then t1 else 0) ≡ 0 → next + 1 < block * size + size) (next + 1) (block * size + size)
    {x = 0} {y = 0}
    (λ h _. h)
    λ h e.
    let r : (next + 1) % size ≡ 0 = ap (λ (n : ℕ). n % size) (let s : next + 1 ≡ suc block * size = omega arith in s) ∙ mul-mod_left (suc block) size in
    absurd (omega (arith, rw (eq-eqb _ _ r) at e))

-- the frame of a place of a message
abbrev framed : (m : List ℕ) (size n number : ℕ) (t : Try) → DataFrame
framed m size n number t =
    record {
      asks = asks_at size (length m) n;
      last = last_at (length m) n;
      number = number;
      bytes = take 7 (drop (7 * n) (stream_of m));
      try = t;
    }

carried : (m m' : List ℕ) (size n k number : ℕ) (t : Try) → m ≡ m' → n ≡ k → Carries m' size k (framed m size n number t)
carried m m' size n k number t e f =
    subst₂ (λ (a : List ℕ) (b : ℕ). Carries a size b (framed m size n number t)) e f (record { asks = refl; last = refl; bytes = refl })

-- a message just accepted is in sending
begun-busy : (limit : ℕ) (accepted' : List (List ℕ)) (done size used : ℕ) (m m' : List ℕ) (s : Sender) → length m' ≡ length m
    → 1 ≤ length m → length m ≤ limit → 1 ≤ size → Idle accepted' done used s
    → Busy limit (accepted' ++ (m ∷ [])) done size used 0 m' (accepted s (length m))
unfolding frames_of
begun-busy limit accepted' done size used m m' s e some within least i =
    let c = length-append accepted' (m ∷ []) in
    omega arith

-- what the receiver holds, with one message more accepted and nothing of it used
content-more : {used done : ℕ} {waits : Message} {accepted' : List (List ℕ)} {handed_out : List ShownMessage} {m' buffer : List ℕ} {at : Standing} {s : Sender} (m : List ℕ)
    → Idle accepted' done used s
    → Holds used done m' accepted' handed_out at waits buffer
    → Begin used done (accepted' ++ (m ∷ [])) handed_out at waits buffer
content-more {used} {done} {waits} {accepted'} {handed_out} {buffer = buffer} m i (inl c) =
    record { none = c.none; between = c.between; complete = go c.complete }
  where
    go : Complete done accepted' handed_out waits buffer → Complete done (accepted' ++ (m ∷ [])) handed_out waits buffer
    go (inl o) = inl o
    go (inr w) =
        inr
        (record {
          some = w.some;
          fits = w.fits;
          all = w.all;
          front = w.front ∙ ap plain (sym (get_or-append accepted' (m ∷ []) [] (length handed_out) (omega (arith, w.all, i.counted))));
        })
content-more m i (inr (inl c)) = absurd (omega (arith, c.inside.least, i.none))
content-more m i (inr (inr c)) = absurd (omega (arith, c.counted, i.counted))

module _ {limit room start used block : ℕ} {places : List ℕ} {d : Direction} (v : Invariant limit room start used block places d) where
  -- while the sending end is open, 8 was not answered
  pub no-eight : d.live ≡ true → d.history.eight ≡ false
  no-eight live = not-true d.history.eight (sym v.eight ∙ live)

  -- the link, with more handed over
  wider : (high : ℕ) → d.sender.high ≤ high
      → Forward start (start + high) (current d.history) d.terms.block (start + used) places d.frames
  wider high h =
      forward-bounds start (start + d.sender.high) (start + high) (current d.history) d.terms.block (start + used) (start + used) (omega arith) (omega arith)
      places d.frames v.forward

  -- with the ghosts as they were
  as_before : {x : Direction} → Invariant limit room start used block places x → Kept limit room x
  as_before w = (start, used, block, places, w)

  -- the sender changed, with nothing said; the message, its start and what the receiver used are as before
  sender-keeps : d.live ≡ true → (q : ℕ) (s : Sender) → Sending limit d.history d.terms.block used q s
      → s.oldest ≡ (start + s.acked) % 16 → d.sender.high ≤ s.high
      → Backward (start + s.acked) (start + used) d.receiver.ack d.acks
      → Invariant limit room start used q places (with_sending d s true (answer_noted d.history Good))
  sender-keeps live q s sending oldest high backward =
      record {
        fair = v.fair;
        room' = v.room';
        sending = sending;
        oldest = oldest;
        expected = v.expected;
        forward = wider s.high high;
        backward = backward;
        content = v.content;
        in_order = v.in_order;
        eight = rw (no-eight live);
      }

  pub in-sending : 1 ≤ d.sender.length → Busy limit d.history.accepted d.history.done d.terms.block used block (current d.history) d.sender
  in-sending some = busy-of v.sending some

  -- at most 15 frames used are not acknowledged
  window : 1 ≤ d.sender.length → used ≤ d.sender.acked + 15
  window some = let b = in-sending some in let f = v.fair in omega arith

  -- one more repeat
  again-keeps : d.live ≡ true → 1 ≤ d.sender.length → (pause gap : ℕ)
      → Invariant limit room start used block places (with_sending d (again d.sender pause gap) true (answer_noted d.history Good))
  again-keeps live some pause gap =
      let b = in-sending some in
      sender-keeps live block (again d.sender pause gap) (inr (omega arith)) v.oldest (omega arith) v.backward

  -- 8: the half is as it was, and the end is closed
  pub given-up-keeps : Invariant limit room start used block places (with_sending d d.sender false (answer_noted d.history UsedUp))
  given-up-keeps =
      record {
        fair = v.fair;
        room' = v.room';
        sending = v.sending;
        oldest = v.oldest;
        expected = v.expected;
        forward = v.forward;
        backward = v.backward;
        content = v.content;
        in_order = v.in_order;
        eight = rw (or-true d.history.eight);
      }

  -- ---- an Ack

  -- a part of the message acknowledged, in the same block or up to the next
  acknowledged-keeps : d.live ≡ true → 1 ≤ d.sender.length → (x pause : ℕ) → d.sender.acked + x ≤ used
      → (d.sender.acked + x ≡ frames_of d.sender.length → ⊥)
      → Backward (start + (d.sender.acked + x)) (start + used) d.receiver.ack d.acks
      → (q : ℕ) × Invariant limit room start used q places (with_sending d (acknowledged d.sender x pause) true (answer_noted d.history Good))
  acknowledged-keeps live some x pause most more backward =
      let b = in-sending some in
      let f = v.fair in
      let same = ap frames_of b.length' in
      let g = next-block d.terms.block block (d.sender.acked + x) d.sender.high f.least (omega arith) (omega arith) b.high-block in
      (g.0, sender-keeps live g.0 (acknowledged d.sender x pause) (inr (omega arith)) (oldest-ahead d.sender start v.oldest x) (omega arith) backward)

  -- the last frames acknowledged: the next message will start behind what is used
  finished-keeps : d.live ≡ true → 1 ≤ d.sender.length → (x pause : ℕ) → d.sender.acked + x ≤ used
      → d.sender.acked + x ≡ frames_of d.sender.length
      → Backward (start + (d.sender.acked + x)) (start + used) d.receiver.ack d.acks
      → Invariant limit room (start + used) 0 0 places (with_sending d (finished d.sender x pause) true (answer_noted d.history Done))
  finished-keeps live some x pause most all backward =
      let b = in-sending some in
      let same = ap frames_of b.length' in
      record {
        fair = v.fair;
        room' = v.room';
        sending = inl (omega arith);
        oldest = oldest-ahead d.sender start v.oldest x ∙ ap (λ (n : ℕ). n % 16) (omega arith);
        expected = v.expected ∙ ap (λ (n : ℕ). n % 16) (omega arith);
        forward =
            forward-old start (start + d.sender.high) (start + used) (start + used + 0) _ _ _ (start + used) (start + used + 0)
            (omega arith) (omega arith) (omega arith) places d.frames v.forward;
        backward =
            backward-bounds (start + (d.sender.acked + x)) (start + used + 0) (start + used) (start + used + 0) d.receiver.ack (omega arith) (omega arith) d.acks backward;
        content = inl (begun v.content);
        in_order = v.in_order;
        eight = rw (no-eight live);
      }
    where
      begun : Content used d.history d.receiver d.buffer
          → Begin 0 (d.history.done + 1) d.history.accepted d.history.handed_out d.receiver.at d.receiver.complete d.buffer
      begun (inl c) = let b = in-sending some in absurd (omega (arith, c.none, ap frames_of b.length'))
      begun (inr (inl c)) = absurd (omega (arith, c.inside.most, ap frames_of (in-sending some).length'))
      begun (inr (inr c)) = record { none = refl; between = c.between; complete = c.complete }

  -- a number in range leads to the frame whose index it shows
  shown-reached : 1 ≤ d.sender.length → (number j : ℕ) → Shows (start + d.sender.acked) (start + used) number j
      → start + (d.sender.acked + distance d.sender number) ≡ j
  shown-reached some number j p =
      let w = window some in
      let least = p.least in
      let most = p.most in
      let shown : number ≡ (start + (j - start)) % 16 = p.number ∙ ap (λ (n : ℕ). n % 16) (omega arith) in
      let e = distance-reaches d.sender start v.oldest number (j - start) shown (omega arith) (omega arith) in
      omega arith

  -- an Ack arrives; all that follow it show as much or more
  pub ack-keeps : d.live ≡ true → (ready : Bool) (number j : ℕ) → Shows (start + d.sender.acked) (start + used) number j
      → Backward j (start + used) d.receiver.ack d.acks
      → Kept limit room (heard_to d (on_ack d.terms d.sender ready number))
  ack-keeps live ready number j p backward = go (ack_case d.terms d.sender ready number)
    where
      x : ℕ
      x = distance d.sender number

      nothing : Kept limit room (with_sending d d.sender true (answer_noted d.history Good))
      nothing = as_before (sender-keeps live block d.sender v.sending v.oldest (omega arith) v.backward)

      -- the Acks that follow, by the frame that this one reaches
      follow : 1 ≤ d.sender.length → Backward (start + (d.sender.acked + x)) (start + used) d.receiver.ack d.acks
      follow some = rw (shown-reached some number j p) backward

      reached-used : 1 ≤ d.sender.length → d.sender.acked + x ≤ used
      reached-used some = let e = shown-reached some number j p in let most = p.most in omega arith

      go : {h : Heard} → AckCase d.terms d.sender ready number h → Kept limit room (heard_to d h)
      go (no-message _) = nothing
      go (in-hold _ _) = nothing
      go (repeated _ _ _) = nothing
      go (beyond _ _ _) = nothing
      go (ack-used-up _ _) = as_before given-up-keeps
      go (held_back a _) = as_before (again-keeps live a.counts.sending d.terms.t_wait d.sender.gap)
      go (all-acked a all) =
          let some = a.counts.sending in
          (start + used, 0, 0, places, finished-keeps live some x (held_for d.terms ready) (reached-used some) all (follow some))
      go (part-acked a more) =
          let some = a.counts.sending in
          let k = acknowledged-keeps live some x (held_for d.terms ready) (reached-used some) more (follow some) in
          (start, used, k.0, places, k.1)

  -- ---- time

  -- no wait ran out
  later-keeps : d.live ≡ true → (n : ℕ) → Sending limit d.history d.terms.block used block (later d.sender n)
      → Kept limit room (with_sending d (later d.sender n) true (answer_noted d.history Good))
  later-keeps live n sending = as_before (sender-keeps live block (later d.sender n) sending v.oldest (omega arith) v.backward)

  pub pass-keeps : d.live ≡ true → (n : ℕ) → Kept limit room (passed_to d (passed d.terms d.sender n))
  pass-keeps live n = go (time_case d.terms d.sender n)
    where
      go : {g : Passed} → TimeCase d.terms d.sender n g → Kept limit room (passed_to d g)
      go (no-wait w) = later-keeps live n (unawaited n w v.sending)
      go (runs_on l) = later-keeps live n (still-awaited n l v.sending)
      go (wait-used-up _ _) = as_before given-up-keeps
      go (sends-again r _) = as_before (again-keeps live (waits-busy v.sending r.runs) (d.sender.hold - n) (d.sender.gap - n))

  -- ---- a frame handed over

  -- the message lent is the one in sending
  lent-current : 1 ≤ d.sender.length → lent d.history ≡ current d.history
  lent-current some = let b = in-sending some in ap (λ (n : ℕ). get_or d.history.accepted n []) (omega arith)

  -- the next frame has the index of its place
  next-placed : 1 ≤ d.sender.length
      → Placed start (start + max d.sender.high (d.sender.next + 1)) (current d.history) d.terms.block
      (start + max d.sender.high (d.sender.next + 1)) (start + d.sender.next) (frame_now d)
  next-placed some =
      let b = in-sending some in
      let f = v.fair in
      record {
        number = number-true d.sender start v.oldest d.sender.next;
        close = omega arith;
        below = omega arith;
        carries = λ k e. carried (lent d.history) (current d.history) d.terms.block d.sender.next k _ _ (lent-current some) (omega arith);
      }

  -- with the next frame handed over the message is still in sending
  advanced-busy : Due d.sender → Sending limit d.history d.terms.block used block (advanced d.terms d.sender)
  advanced-busy due =
      let b = in-sending due.sending in
      let f = v.fair in
      let i = b.inside due.waited in
      let more : d.sender.next < frames_of (length (current d.history)) = rw (ap frames_of b.length') at due.more in
      inr
      (record {
        counted = b.counted;
        length' = b.length';
        some = b.some;
        within = b.within;
        acked-used = b.acked-used;
        used_high = omega arith;
        acked-next = omega arith;
        next-high = omega arith;
        high-all = omega arith;
        acked-all = b.acked-all;
        block-acked = b.block-acked;
        acked-block = b.acked-block;
        high-block = omega arith;
        inside = block-end d.terms.block block d.sender.next d.terms.t1 (last_at d.sender.length d.sender.next) f.t1 i;
      })

  frame-keeps : Due d.sender → Invariant limit room start used block (places ++ ((start + d.sender.next) ∷ [])) (with_frame d (advanced d.terms d.sender))
  frame-keeps due =
      let b = in-sending due.sending in
      let high = max d.sender.high (d.sender.next + 1) in
      record {
        fair = v.fair;
        room' = v.room';
        sending = advanced-busy due;
        oldest = v.oldest;
        expected = v.expected;
        forward =
            forward-more start (start + high) (current d.history) d.terms.block (start + used) (omega arith) places d.frames
            (wider high (omega arith)) (start + d.sender.next) (frame_now d) (next-placed due.sending);
        backward = v.backward;
        content = v.content;
        in_order = v.in_order;
        eight = v.eight;
      }

  pub hand-keeps : Kept limit room (handed_to d (handed d.terms d.sender (lent d.history)))
  hand-keeps = go (frame_case d.terms d.sender (lent d.history))
    where
      go : {g : Handed} → FrameCase d.terms d.sender (lent d.history) g → Kept limit room (handed_to d g)
      go (none-due _) = as_before v
      go (other_length _ _) = as_before v
      go (frame-out due _) = (start, used, block, places ++ ((start + d.sender.next) ∷ []), frame-keeps due)

  -- ---- a message offered

  -- no more messages were handed out than accepted
  handed-most : length d.history.handed_out ≤ length d.history.accepted
  handed-most = omega (arith, simp (length-map, length-take) at (ap length v.in_order))

  accepted-keeps : (m : List ℕ) → Takes limit d.sender (length m)
      → Invariant limit room start used 0 places (with_sending d (accepted d.sender (length m)) d.live (accepting d.history m))
  accepted-keeps m t =
      let i = idle-of v.sending t.free in
      let e = get_or_at d.history.accepted m [] [] d.history.done i.counted in
      let s = d.sender in
      record {
        fair = v.fair;
        room' = v.room';
        sending = inr (begun-busy limit d.history.accepted d.history.done d.terms.block used m _ s (ap length e) t.some t.within v.fair.least i);
        oldest = v.oldest ∙ ap (λ (n : ℕ). (start + n) % 16) i.acked;
        expected = v.expected;
        forward =
            forward-old start (start + s.high) start (start + 0) _ _ _ (start + used) (start + used) (omega arith) (omega arith) (omega arith) places d.frames
            v.forward;
        backward =
            backward-bounds (start + s.acked) (start + 0) (start + used) (start + used) d.receiver.ack (omega arith) (omega arith) d.acks v.backward;
        content = inl (content-more m i v.content);
        in_order = v.in_order ∙ ap (map plain) (sym (take-append-le _ d.history.accepted (m ∷ []) handed-most));
        eight = v.eight;
      }

  pub offer-keeps : (m : List ℕ) → Kept limit room (offered_to d m (offered limit d.sender (length m)))
  offer-keeps m = go (offer_case limit d.sender (length m))
    where
      go : {g : Offered} → OfferCase limit d.sender (length m) g → Kept limit room (offered_to d m g)
      go (unfinished _) = as_before v
      go (no_bytes _ _) = as_before v
      go (too_long _ _) = as_before v
      go (accepts t) = (start, used, 0, places, accepted-keeps m t)
