-- A frame that comes to the near end of a system, by its kind and its fate: what that is to each direction.
use Rattle.std.specs.Prelude.{if◌then◌else◌}
use Rattle.std.specs.Result.{result_unwrap_or}
use Prim.Native.Nat.{ℕ}
use mathlib.Core.Bool.{Bool, true, false, not, ◌&&◌, true≢false}
use mathlib.Core.List.{List, [], ◌∷◌, ◌++◌, append-nil}
use mathlib.Core.Path.{◌≡◌, refl, ap, subst, ◌∙◌, sym}
use lib.Dec.{eqb}
use lib.ListN.{length, drop}
use Rattle.telegram.specs.Kinds.{sorted}
use Rattle.telegram.specs.declared.kinds.Telegram.{Telegram}
use Rattle.telegram.specs.declared.kinds.Telegram.TheVariants.{Data, Ack, Test, Break, Disconnect, Setup, Accept, Malformed}
use Rattle.telegram.specs.declared.kinds.Parameters.{Parameters as Fields}
use Rattle.sender.specs.Sending.{on_ack}
use Rattle.sender.specs.declared.Sender.{Sender}
use Rattle.sender.specs.declared.Heard.{Heard}
use Rattle.sender.specs.declared.Hearing.{Hearing}
use Rattle.sender.specs.declared.Hearing.TheVariants.{Part, Done as LastAcknowledged, Held, Nothing, UsedUp as NotReadyTooOften, NoAck}
use Rattle.sender.proofs.Acks.{heard-ack}
use Rattle.telegram.specs.Cutting.{none as no_message}
use Rattle.receiver.specs.Receiving.{on_data, buffered}
use Rattle.receiver.specs.declared.Receiver.{Receiver}
use Rattle.receiver.specs.declared.Took.{Took}
use Rattle.receiver.proofs.Outcomes.{TakeOutcome, none-complete, short-buffer, shows, take-outcome}
use Rattle.receiver.specs.declared.Receipt.{Receipt}
use Rattle.receiver.specs.declared.Receipt.TheVariants.{Used, Complete, ThrownAway, OutOfPlace, Untaken, ShortFirst, ShortLater, Broken, NoData}
use Rattle.receiver.specs.declared.Received.{Received}
use Rattle.receiver.proofs.Laws.{NotData, received-data}
use Rattle.channel.specs.declared.Channel.{Channel}
use Rattle.channel.specs.declared.Tests.{Tests}
use Rattle.channel.specs.declared.Answer.{Answer}
use Rattle.channel.specs.declared.Answer.TheVariants.{NotDue}
use Rattle.channel.specs.declared.Answered.{Answered}
use Rattle.channel.specs.Numbers.{said, closes}
use Rattle.channel.specs.Opened.{with_sender, with_receiver}
use Rattle.arrival.specs.Arrived.{data_answer, ack_answer, arrived}
use Rattle.arrival.proofs.Arriving.{ArrivalOutcome, arrival-outcome, arrived-data, arrived-ack, data-goes-on, unwritten, answers as leaves}
use Rattle.arrival.proofs.Arriving.ArrivalOutcome.{test-came, accept-undue, accept-bad, accept-came}
use Rattle.delivery.specs.End.{End, Told, Taken}
use Rattle.delivery.specs.Line.{Line, line_after, unmoved, line_take, line_arrive, line_buffered, take_number}
use Rattle.delivery.specs.System.{Party, Flying, ShownMessage, shown_of, History, System, Fate, is_data, is_ack, asks_ack, noted, asked, completing, losing, newly, shown_at}
use Rattle.delivery.specs.System.Act.{arrive}
use Rattle.delivery.specs.System.Fate.{goes, stays, lost}
use Rattle.delivery.specs.Laws.{Tells, Shows, Carried}
use Rattle.delivery.proofs.Core.{DataFrame, AckFrame, Direction, Move, with_frames, with_acks, with_listens, shown_by, move}
use Rattle.delivery.proofs.Core.Move.{hear, receive, close_receiving, rest}
use Rattle.delivery.proofs.Directions.{data_by, data_of, ack_by, acks_of, cleared, between, Fits, held_in, Room, Counts, Moves, Acted, acts, noted-quiet}
use Rattle.delivery.proofs.Directions.Moves.{nothing, data-came, ack-came, acks-out}
use Rattle.delivery.proofs.Completes.{shown_in, newly-same, newly-none, data-counts}
use Rattle.delivery.proofs.Steps.{line}

-- ---- answers

-- data is never answered done or 8
data-noted : (h : History) (n : Receipt) → noted h (said (data_answer n)).done (said (data_answer n)).number ≡ h
data-noted h Used = noted-quiet h false 0 refl refl
data-noted h Complete = noted-quiet h false 0 refl refl
data-noted h ThrownAway = noted-quiet h false 0 refl refl
data-noted h (OutOfPlace e) = noted-quiet h false 12 refl refl
data-noted h Untaken = noted-quiet h false 5 refl refl
data-noted h ShortFirst = noted-quiet h false 7 refl refl
data-noted h ShortLater = noted-quiet h false 7 refl refl
data-noted h (Broken c) = noted-quiet h false 9 refl refl
data-noted h NoData = noted-quiet h false 4 refl refl

-- ---- what a take shows

-- of a channel: nothing if its end is closed
abbrev pub line_shown : Line → List ℕ → List ShownMessage
line_shown l b = if l.live then shown_in l.channel.receiver b else []

shown-noted : (r : Receiver) (b : List ℕ) {t : Took} → TakeOutcome r (length b) t
    → (if eqb (take_number t.message) 0 then shown_of (result_unwrap_or t.message no_message) b ∷ [] else []) ≡ shown_by t.message (shown_of r.complete b)
shown-noted r b (none-complete w) = refl
shown-noted r b (short-buffer w s) = refl
shown-noted r b (shows w s) = refl

pub shown-line : {State : Type 0} {R : State → Line → Type 0} (c : Channel) (live : Bool) (b : List ℕ) (r : Taken State) → Shows R r (line_take (line c live) (length b))
    → (if eqb r.number 0 then shown_of r.message b ∷ [] else []) ≡ line_shown (line c live) b
shown-line c false b r e = rw e.number
shown-line c true b r e = rw (e.number, e.message) (shown-noted c.receiver b (take-outcome c.receiver (length b)))

-- what a link is left with, if its first frame g arrives
pub data Left (g : Flying) (behind : List Flying) : Fate → List Flying → Type 0 where
  went : Left g behind goes behind
  stayed : Left g behind stays (g ∷ behind)

-- ---- the frame g comes, with others behind it

module _ (limit : ℕ) (carried : Telegram → Type 0) (N F : End) (R : N.State → Line → Type 0) (receives transmits : ℕ)
    (takes : (y : N.State) (l : Line) → R y l → (room : ℕ) → Shows R (N.take y room) (line_take l room))
    (x : N.State) (b : List ℕ) (far : Party F) (nc : Channel) (f : Line) (fw behind : List Flying) (g : Flying) (h k : History)
    (forward : Fits carried transmits fw) where
  abbrev sys : System N F
  sys = record { near = record { state = x; buffer = b }; far = far; forward = fw; backward = g ∷ behind; forth = h; back = k }

  -- the directions from the near end and to it, with the link as it is left
  abbrev going : Line → List Flying → History → Direction
  going n left h' = between n f far.buffer fw left h'

  abbrev coming : Line → List ℕ → List Flying → History → Direction
  coming n b' left k' = between f n b' left fw k'

  -- what an arrival leaves: y is the state, and b' the buffer
  abbrev with-arrived : (open' : Bool) (left : List Flying) (y : N.State) (b' : List ℕ) (h' : History) → System N F
  with-arrived o left y b' h' =
      (let after : Party N = record { state = y; buffer = b' } in
      record {
        near = after;
        far = far;
        forward = fw;
        backward = left;
        forth = h';
        back = completing (asked k o (sorted g.bytes).kind g.try) (newly (shown_at {E = N} (record { state = x; buffer = b })) (shown_at after));
      })

  arrived-of : (o : Bool) {n l : Line} {fate : Fate} {left : List Flying} {y : N.State} {b' : List ℕ} {h' : History} (out incoming : Move) → R y l
      → Fits carried receives left
      → going l left h' ≡ move limit (going n (g ∷ behind) h) out
      → coming l b' left (asked k o (sorted g.bytes).kind g.try) ≡ move limit (coming n b (g ∷ behind) k) incoming
      → Moves n (g ∷ behind) (arrive fate) out incoming l.live
      → (Room n.channel.receiver b → Room l.channel.receiver b' → Counts k n.channel.receiver b
      → k.complete ++ newly (shown_at {E = N} (record { state = x; buffer = b })) (shown_at {E = N} (record { state = y; buffer = b' })) ≡ k.handed_out ++ held_in l.channel.receiver b')
      → h'.complete ≡ h.complete → h'.handed_out ≡ h.handed_out
      → (n.channel.tests.wait ≡ 0 → l.channel.tests.wait ≡ 0)
      → Acted limit carried R receives transmits n f (arrive fate) sys (with-arrived o left y b' h')
  arrived-of o {l = l} out incoming tied backward forth back moves counts complete handed_out untested =
      acts l out incoming tied refl forward backward forth back moves counts complete handed_out (λ _. untested)

  -- the Acks, and the data frames, of a link that is left
  acks-left : {fate : Fate} {left : List Flying} → Left g behind fate left → ack_by (sorted g.bytes).kind g ≡ [] → acks_of left ≡ acks_of (g ∷ behind)
  acks-left went e = rw e
  acks-left stayed e = refl

  data-left : {fate : Fate} {left : List Flying} → Left g behind fate left → data_by (sorted g.bytes).kind g ≡ [] → data_of left ≡ data_of (g ∷ behind)
  data-left went e = rw e
  data-left stayed e = refl

  -- what a take showed before, if the end is open
  shown-before : R x (line nc true) → shown_at {E = N} (record { state = x; buffer = b }) ≡ shown_in nc.receiver b
  shown-before t = shown-line nc true b (N.take x (length b)) (takes x (line nc true) t (length b))

  -- data at an open end
  module _ (asks last : Bool) (number : ℕ) (kind : (sorted g.bytes).kind ≡ Data asks last number) where
    abbrev got : Received
    got = on_data limit nc.receiver asks last number (drop 1 g.bytes) (length b)

    data-line : line_arrive limit (line nc true) g.bytes (length b)
        ≡ record {
          number = (said (data_answer got.note)).number;
          done = (said (data_answer got.note)).done;
          state = line (leaves (data_answer got.note) (with_receiver nc got.receiver)).channel true;
        }
    data-line = rw (kind, arrived-data, received-data, data-goes-on)

    data-buffer : line_buffered limit (line nc true) g.bytes b ≡ buffered nc.receiver got.note (drop 1 g.bytes) b
    data-buffer = rw (kind, received-data)

    abbrev after : Line
    after = line (leaves (data_answer got.note) (with_receiver nc got.receiver)).channel true

    abbrev written : List ℕ
    written = buffered nc.receiver got.note (drop 1 g.bytes) b

    data-back : {fate : Fate} {left : List Flying} → Left g behind fate left
        → coming after written left (asked k true (sorted g.bytes).kind g.try) ≡ move limit (coming (line nc true) b (g ∷ behind) k) (receive fate)
    data-back went = rw kind
    data-back stayed = rw kind

    data-told : {fate : Fate} {left : List Flying} → Left g behind fate left → Fits carried receives left → R x (line nc true) → (r : Told N.State)
        → Tells R r (line_arrive limit (line nc true) g.bytes (length b))
        → Acted limit carried R receives transmits (line nc true) f (arrive fate) sys (with-arrived true left r.state written (noted h r.done r.number))
    data-told {left = left} w fits t r e' =
        let e = rw data-line at e' in
        let shown-after : shown_at {E = N} (record { state = r.state; buffer = written }) ≡ shown_in got.receiver written =
        shown-line after.channel true written (N.take r.state (length written)) (takes r.state after e.tied (length written)) in
        let quiet : noted h r.done r.number ≡ h = rw (e.number, e.done) (data-noted h got.note) in
        arrived-of true rest (receive _) e.tied fits
        (ap (λ (z : History). going after left z) quiet
        ∙ ap (λ (z : List AckFrame). with_acks (going (line nc true) (g ∷ behind) h) z (cleared h)) (acks-left w (ap (λ (y : Telegram). ack_by y g) kind)))
        (data-back w) (data-came g behind refl (ap is_data kind))
        (λ room room' c. rw (shown-before t, shown-after) (data-counts limit nc.receiver asks last number (drop 1 g.bytes) b k.complete k.handed_out room room' c))
        refl refl (λ z. z)

  -- ---- what leaves the receiver and the buffer as they were

  newly-live : (w : List ShownMessage) (v v' : Bool) → (v ≡ false → v' ≡ false) → newly (if v then w else []) (if v' then w else []) ≡ []
  newly-live w true true o = newly-same w
  newly-live w true false o = newly-none w
  newly-live w false true o = absurd (true≢false (o refl))
  newly-live w false false o = refl

  same-counts : (c : Channel) (v v' : Bool) (y : N.State) → c.receiver ≡ nc.receiver → (v ≡ false → v' ≡ false) → R x (line nc v) → R y (line c v')
      → Counts k nc.receiver b
      → k.complete ++ newly (shown_at {E = N} (record { state = x; buffer = b })) (shown_at {E = N} (record { state = y; buffer = b })) ≡ k.handed_out ++ held_in c.receiver b
  same-counts c v v' y same o t t' q =
      let before = shown-line nc v b (N.take x (length b)) (takes x (line nc v) t (length b)) in
      let after = shown-line c v' b (N.take y (length b)) (takes y (line c v') t' (length b)) in
      rw (before, after, same) (ap (λ (z : List ShownMessage). k.complete ++ z) (newly-live (shown_in nc.receiver b) v v' o) ∙ append-nil k.complete ∙ q)

  -- a frame without AR, or at a closed end, asks for nothing
  asked-none : (o : Bool) → (o && asks_ack (sorted g.bytes).kind) ≡ false → asked k o (sorted g.bytes).kind g.try ≡ k
  asked-none o e = rw e

  -- ---- an Ack at an open end

  module _ (ready : Bool) (number : ℕ) (kind : (sorted g.bytes).kind ≡ Ack ready number) where
    abbrev heard_ack : Heard
    heard_ack = on_ack nc.parameters.terms nc.sender ready number

    abbrev ack_line : Hearing → Sender → Line
    ack_line n s = line_after (leaves (ack_answer n) (with_sender nc s)).channel (ack_answer n)

    ack-line : line_arrive limit (line nc true) g.bytes (length b)
        ≡ record { number = (said (ack_answer heard_ack.note)).number; done = (said (ack_answer heard_ack.note)).done; state = ack_line heard_ack.note heard_ack.sender }
    ack-line = rw (kind, arrived-ack, heard-ack)

    ack-buffer : line_buffered limit (line nc true) g.bytes b ≡ b
    ack-buffer = rw kind (unwritten limit nc (Ack ready number) (drop 1 g.bytes) b tt)

    ack-forth : {fate : Fate} {left : List Flying} (n : Hearing) (s : Sender) → heard_ack ≡ record { note = n; sender = s } → Left g behind fate left
        → going (ack_line n s) left (noted h (said (ack_answer n)).done (said (ack_answer n)).number) ≡ move limit (going (line nc true) (g ∷ behind) h) (hear fate)
    ack-forth n s e went = rw (kind, e)
    ack-forth n s e stayed = rw (kind, e)

    -- the rest of the other direction, whether the end is open after it
    ack-back : {fate : Fate} {left : List Flying} (n : Hearing) (s : Sender) → Left g behind fate left
        → coming (ack_line n s) b left (asked k true (sorted g.bytes).kind g.try) ≡ with_listens (coming (line nc true) b (g ∷ behind) k) (not (closes (ack_answer n)))
    ack-back {left = left} n s w =
        ap (λ (z : History). coming (ack_line n s) b left z) (asked-none true (ap asks_ack kind))
        ∙ ap (λ (z : List DataFrame). with_frames (with_listens (coming (line nc true) b (g ∷ behind) k) (not (closes (ack_answer n)))) z (cleared k))
        (data-left w (ap (λ (y : Telegram). data_by y g) kind))

    ack-told : {fate : Fate} {left : List Flying} → Left g behind fate left → Fits carried receives left → R x (line nc true) → (r : Told N.State)
        → Tells R r (line_arrive limit (line nc true) g.bytes (length b))
        → Acted limit carried R receives transmits (line nc true) f (arrive fate) sys (with-arrived true left r.state b (noted h r.done r.number))
    ack-told {fate} {left} w fits t r e' = let e = rw ack-line at e' in rw (e.number, e.done) (go heard_ack.note heard_ack.sender refl e.tied)
      where
        by_move : (n : Hearing) (s : Sender) (incoming : Move) → heard_ack ≡ record { note = n; sender = s } → R r.state (ack_line n s)
            → with_listens (coming (line nc true) b (g ∷ behind) k) (not (closes (ack_answer n))) ≡ move limit (coming (line nc true) b (g ∷ behind) k) incoming
            → Moves (line nc true) (g ∷ behind) (arrive fate) (hear fate) incoming (ack_line n s).live
            → Acted limit carried R receives transmits (line nc true) f (arrive fate) sys
            (with-arrived true left r.state b (noted h (said (ack_answer n)).done (said (ack_answer n)).number))
        by_move n s incoming e t' listens moves =
            arrived-of true (hear fate) incoming t' fits (ack-forth n s e w) (ack-back n s w ∙ listens) moves
            (λ _ _ c. same-counts (ack_line n s).channel true (ack_line n s).live r.state refl (λ z. absurd (true≢false z)) t t' c)
            refl refl (λ z. z)

        go : (n : Hearing) (s : Sender) → heard_ack ≡ record { note = n; sender = s } → R r.state (ack_line n s)
            → Acted limit carried R receives transmits (line nc true) f (arrive fate) sys
            (with-arrived true left r.state b (noted h (said (ack_answer n)).done (said (ack_answer n)).number))
        go Part s e t' = by_move Part s rest e t' refl ack-came
        go LastAcknowledged s e t' = by_move LastAcknowledged s rest e t' refl ack-came
        go Held s e t' = by_move Held s rest e t' refl ack-came
        go Nothing s e t' = by_move Nothing s rest e t' refl ack-came
        go NotReadyTooOften s e t' = by_move NotReadyTooOften s close_receiving e t' refl (acks-out ready number (ap (λ (z : Heard). z.note) e))
        go NoAck s e t' = by_move NoAck s rest e t' refl ack-came

  -- ---- a test or an A1 at an open end

  -- the channel with other tests, and its A1 due or not
  abbrev changed : Tests → Bool → Channel
  changed t a = record { parameters = nc.parameters; sender = nc.sender; receiver = nc.receiver; tests = t; accept = a }

  -- an answer that is neither done nor 8
  record Quiet (a : Answer) : Type 0 where
    goes_on : closes a ≡ false
    not_done : (said a).done ≡ false
    not_eight : eqb (said a).number 8 ≡ false

  -- a kind that is neither data nor an Ack
  record Aside (kind : Telegram) : Type 0 where
    no-data : data_by kind g ≡ []
    no-ack : ack_by kind g ≡ []
    asks_none : asks_ack kind ≡ false
    not-data : NotData kind

  test-aside : (sorted g.bytes).kind ≡ Test → Aside (sorted g.bytes).kind
  test-aside q = rw q (record { no-data = refl; no-ack = refl; asks_none = refl; not-data = tt })

  accept-aside : (p : Fields) → (sorted g.bytes).kind ≡ Accept p → Aside (sorted g.bytes).kind
  accept-aside p q = rw q (record { no-data = refl; no-ack = refl; asks_none = refl; not-data = tt })

  quiet_told : {fate : Fate} {left : List Flying} → Left g behind fate left → Fits carried receives left → R x (line nc true) → (r : Told N.State)
      → Tells R r (line_arrive limit (line nc true) g.bytes (length b))
      → Aside (sorted g.bytes).kind → (a : Answer) → Quiet a → (ts : Tests) (ac : Bool) → (nc.tests.wait ≡ 0 → ts.wait ≡ 0)
      → arrived limit nc (sorted g.bytes).kind (drop 1 g.bytes) (length b) ≡ record { answer = a; channel = changed ts ac }
      → Acted limit carried R receives transmits (line nc true) f (arrive fate) sys (with-arrived true left r.state b (noted h r.done r.number))
  quiet_told {left = left} w fits t r e' s a q ts ac untested arr =
      let e = rw (arr, q.goes_on) at e' in
      let quiet : noted h r.done r.number ≡ h = rw (e.number, e.done) (noted-quiet h (said a).done (said a).number q.not_done q.not_eight) in
      let after = line (changed ts ac) true in
      arrived-of true rest rest e.tied fits
      (ap (λ (z : History). going after left z) quiet
      ∙ ap (λ (z : List AckFrame). with_acks (going (line nc true) (g ∷ behind) h) z (cleared h)) (acks-left w s.no-ack))
      (ap (λ (z : History). coming after b left z) (asked-none true s.asks_none)
      ∙ ap (λ (z : List DataFrame). with_frames (coming (line nc true) b (g ∷ behind) k) z (cleared k)) (data-left w s.no-data))
      nothing (λ _ _ c. same-counts (changed ts ac) true true r.state refl (λ z. z) t e.tied c) refl refl untested

  aside-buffer : Aside (sorted g.bytes).kind → line_buffered limit (line nc true) g.bytes b ≡ b
  aside-buffer s = unwritten limit nc (sorted g.bytes).kind (drop 1 g.bytes) b s.not-data

  -- what a test or an A1 leaves: other tests, and its own A1 due or not
  abbrev OtherTests : Answered → Type 0
  OtherTests y = (a : Answer) × Quiet a × (ts : Tests) × (ac : Bool) × (nc.tests.wait ≡ 0 → ts.wait ≡ 0) × (y ≡ record { answer = a; channel = changed ts ac })

  test-leaves : {got : Received} {heard_by : Heard} {y : Answered} → ArrivalOutcome nc got heard_by Test y → OtherTests y
  test-leaves test-came = (_, record { goes_on = refl; not_done = refl; not_eight = refl }, _, _, λ z. z, refl)

  accept-leaves : {got : Received} {heard_by : Heard} {p : Fields} {y : Answered} → ArrivalOutcome nc got heard_by (Accept p) y → OtherTests y
  accept-leaves (accept-undue o) = (_, record { goes_on = refl; not_done = refl; not_eight = refl }, _, _, λ z. z, refl)
  accept-leaves (accept-bad o z) = (_, record { goes_on = refl; not_done = refl; not_eight = refl }, _, _, λ z. z, refl)
  accept-leaves (accept-came o z) = (_, record { goes_on = refl; not_done = refl; not_eight = refl }, _, _, λ _. refl, refl)

  aside-told : {fate : Fate} {left : List Flying} → Left g behind fate left → Fits carried receives left → R x (line nc true) → (r : Told N.State)
      → Tells R r (line_arrive limit (line nc true) g.bytes (length b))
      → Aside (sorted g.bytes).kind → OtherTests (arrived limit nc (sorted g.bytes).kind (drop 1 g.bytes) (length b))
      → Acted limit carried R receives transmits (line nc true) f (arrive fate) sys
      (with-arrived true left r.state (line_buffered limit (line nc true) g.bytes b) (noted h r.done r.number))
  aside-told {fate} {left} w fits t r e s o =
      subst (λ (z : List ℕ). Acted limit carried R receives transmits (line nc true) f (arrive fate) sys (with-arrived true left r.state z (noted h r.done r.number)))
      (sym (aside-buffer s)) (quiet_told w fits t r e s o.0 o.1 o.2 o.3 o.4 o.5)

  -- ---- a closed end

  closed-told : {fate : Fate} {left : List Flying} (r : Told N.State) (out incoming : Move) → Fits carried receives left → R x (line nc false)
      → Tells R r (unmoved NotDue (line nc false))
      → going (line nc false) left h ≡ move limit (going (line nc false) (g ∷ behind) h) out
      → coming (line nc false) b left k ≡ move limit (coming (line nc false) b (g ∷ behind) k) incoming
      → Moves (line nc false) (g ∷ behind) (arrive fate) out incoming false
      → Acted limit carried R receives transmits (line nc false) f (arrive fate) sys (with-arrived false left r.state b (noted h r.done r.number))
  closed-told {left = left} r out incoming fits t e forth back moves =
      let quiet : noted h r.done r.number ≡ h = rw (e.number, e.done) (noted-quiet h false 4 refl refl) in
      arrived-of false out incoming e.tied fits (ap (λ (z : History). going (line nc false) left z) quiet ∙ forth) back moves
      (λ _ _ c. same-counts nc false false r.state refl (λ z. z) t e.tied c) refl refl (λ z. z)

  closed-aside : {fate : Fate} {left : List Flying} → Left g behind fate left → Fits carried receives left → R x (line nc false) → (r : Told N.State)
      → Tells R r (unmoved NotDue (line nc false)) → Aside (sorted g.bytes).kind
      → Acted limit carried R receives transmits (line nc false) f (arrive fate) sys (with-arrived false left r.state b (noted h r.done r.number))
  closed-aside w fits t r e s =
      closed-told r rest rest fits t e
      (ap (λ (z : List AckFrame). with_acks (going (line nc false) (g ∷ behind) h) z (cleared h)) (acks-left w s.no-ack))
      (ap (λ (z : List DataFrame). with_frames (coming (line nc false) b (g ∷ behind) k) z (cleared k)) (data-left w s.no-data))
      nothing

  -- ---- the frame is lost

  abbrev with-lost : System N F
  with-lost =
      record {
        near = record { state = x; buffer = b };
        far = far;
        forward = fw;
        backward = behind;
        forth = losing h (is_ack (sorted g.bytes).kind) g.try;
        back = losing k (is_data (sorted g.bytes).kind) g.try;
      }

  lost-of : {n : Line} (out incoming : Move) → R x n → Fits carried receives behind
      → going n behind (losing h (is_ack (sorted g.bytes).kind) g.try) ≡ move limit (going n (g ∷ behind) h) out
      → coming n b behind (losing k (is_data (sorted g.bytes).kind) g.try) ≡ move limit (coming n b (g ∷ behind) k) incoming
      → Moves n (g ∷ behind) (arrive lost) out incoming n.live
      → Acted limit carried R receives transmits n f (arrive lost) sys with-lost
  lost-of {n} out incoming t fits forth back moves = acts n out incoming t refl forward fits forth back moves (λ _ _ c. c) refl refl (λ _ z. z)

  -- ---- by its kind

  -- at an open end
  pub open-arrives : {fate : Fate} {left : List Flying} → Left g behind fate left → Fits carried receives left → R x (line nc true) → (r : Told N.State)
      → Tells R r (line_arrive limit (line nc true) g.bytes (length b)) → (kind : Telegram) → (sorted g.bytes).kind ≡ kind → Carried kind
      → Acted limit carried R receives transmits (line nc true) f (arrive fate) sys
      (with-arrived true left r.state (line_buffered limit (line nc true) g.bytes b) (noted h r.done r.number))
  open-arrives {fate} {left} w fits t r e (Data asks last number) q c =
      subst (λ (z : List ℕ). Acted limit carried R receives transmits (line nc true) f (arrive fate) sys (with-arrived true left r.state z (noted h r.done r.number)))
      (sym (data-buffer asks last number q)) (data-told asks last number q w fits t r e)
  open-arrives {fate} {left} w fits t r e (Ack ready number) q c =
      subst (λ (z : List ℕ). Acted limit carried R receives transmits (line nc true) f (arrive fate) sys (with-arrived true left r.state z (noted h r.done r.number)))
      (sym (ack-buffer ready number q)) (ack-told ready number q w fits t r e)
  open-arrives w fits t r e Test q c =
      aside-told w fits t r e (test-aside q)
      (rw q (test-leaves (arrival-outcome limit nc (drop 1 g.bytes) (length b) Test)))
  open-arrives w fits t r e (Accept p) q c =
      aside-told w fits t r e (accept-aside p q)
      (rw q (accept-leaves (arrival-outcome limit nc (drop 1 g.bytes) (length b) (Accept p))))
  open-arrives w fits t r e Break q c = absurd c
  open-arrives w fits t r e Disconnect q c = absurd c
  open-arrives w fits t r e (Setup p) q c = absurd c
  open-arrives w fits t r e Malformed q c = absurd c

  -- at a closed end
  pub closed-arrives : {fate : Fate} {left : List Flying} → Left g behind fate left → Fits carried receives left → R x (line nc false) → (r : Told N.State)
      → Tells R r (unmoved NotDue (line nc false)) → (kind : Telegram) → (sorted g.bytes).kind ≡ kind → Carried kind
      → Acted limit carried R receives transmits (line nc false) f (arrive fate) sys (with-arrived false left r.state b (noted h r.done r.number))
  closed-arrives went fits t r e (Data asks last number) q c = closed-told r rest (receive goes) fits t e (rw q) (rw q) (data-came g behind refl (ap is_data q))
  closed-arrives stayed fits t r e (Data asks last number) q c = closed-told r rest (receive stays) fits t e refl (rw q) (data-came g behind refl (ap is_data q))
  closed-arrives went fits t r e (Ack ready number) q c = closed-told r (hear goes) rest fits t e (rw q) (rw q) ack-came
  closed-arrives stayed fits t r e (Ack ready number) q c = closed-told r (hear stays) rest fits t e (rw q) refl ack-came
  closed-arrives w fits t r e Test q c = closed-aside w fits t r e (test-aside q)
  closed-arrives w fits t r e (Accept p) q c = closed-aside w fits t r e (accept-aside p q)
  closed-arrives w fits t r e Break q c = absurd c
  closed-arrives w fits t r e Disconnect q c = absurd c
  closed-arrives w fits t r e (Setup p) q c = absurd c
  closed-arrives w fits t r e Malformed q c = absurd c

  -- lost
  pub lost-arrives : {n : Line} → R x n → Fits carried receives behind → (kind : Telegram) → (sorted g.bytes).kind ≡ kind → Carried kind
      → Acted limit carried R receives transmits n f (arrive lost) sys with-lost
  lost-arrives t fits (Data asks last number) q c = lost-of rest (receive lost) t fits (rw q) (rw q) (data-came g behind refl (ap is_data q))
  lost-arrives t fits (Ack ready number) q c = lost-of (hear lost) rest t fits (rw q) (rw q) ack-came
  lost-arrives t fits Test q c = lost-of rest rest t fits (rw q) (rw q) nothing
  lost-arrives t fits (Accept p) q c = lost-of rest rest t fits (rw q) (rw q) nothing
  lost-arrives t fits Break q c = absurd c
  lost-arrives t fits Disconnect q c = absurd c
  lost-arrives t fits (Setup p) q c = absurd c
  lost-arrives t fits Malformed q c = absurd c
