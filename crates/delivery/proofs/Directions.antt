-- The two directions in a system, and what a call at the near end does to both: one move of the core in each.
use Rattle.std.specs.Prelude.{if◌then◌else◌}
use Prim.Native.Nat.{ℕ, ◌≤◌, ◌<◌}
use mathlib.Core.Bool.{Bool, true, false, or-false}
use mathlib.Core.List.{List, [], ◌∷◌, ◌++◌, append_assoc, append-nil}
use mathlib.Core.Path.{◌≡◌, sym, ap, ◌∙◌}
use lib.ListN.{length, drop}
use lib.Dec.{eqb}
use Rattle.telegram.specs.Kinds.{sorted}
use Rattle.telegram.specs.declared.kinds.Telegram.{Telegram}
use Rattle.telegram.specs.declared.kinds.Telegram.TheVariants.{Data, Ack, Test, Break, Disconnect, Setup, Accept, Malformed}
use Rattle.sender.specs.Sending.{on_ack, passed}
use Rattle.sender.specs.declared.Hearing.TheVariants.{UsedUp as NotReadyTooOften}
use Rattle.sender.specs.declared.Passing.TheVariants.{UsedUp as RanOut}
use Rattle.receiver.specs.Receiving.{waiting}
use Rattle.receiver.specs.declared.Receiver.{Receiver}
use Rattle.channel.specs.Opened.{test_due}
use Rattle.delivery.specs.End.{End}
use Rattle.delivery.specs.Line.{Line}
use Rattle.delivery.specs.System.{Flying, ShownMessage, shown_of, History, System, Act, Fate, with_messages, noted, is_data}
use Rattle.delivery.specs.System.Act.{send, take as takes, time, due, arrive}
use Rattle.delivery.proofs.Core.{DataFrame, AckFrame, Direction, Move, move}
use Rattle.delivery.proofs.Core.Move.{offer, hear, pass, hand, receive, taken, acknowledge, close_sending, close_receiving, rest}

-- ---- a direction of a system

-- the data frames of a link, as they are sorted
abbrev pub data_by : Telegram → Flying → List DataFrame
data_by (Data asks last number) f = record { asks = asks; last = last; number = number; bytes = drop 1 f.bytes; try = f.try } ∷ []
data_by (Ack ready number) f = []
data_by Test f = []
data_by Break f = []
data_by Disconnect f = []
data_by (Setup p) f = []
data_by (Accept p) f = []
data_by Malformed f = []

abbrev pub data_of : List Flying → List DataFrame
data_of [] = []
data_of (f ∷ l) = data_by (sorted f.bytes).kind f ++ data_of l

-- the Acks of a link
abbrev pub ack_by : Telegram → Flying → List AckFrame
ack_by (Ack ready number) f = record { ready = ready; number = number; try = f.try } ∷ []
ack_by (Data asks last number) f = []
ack_by Test f = []
ack_by Break f = []
ack_by Disconnect f = []
ack_by (Setup p) f = []
ack_by (Accept p) f = []
ack_by Malformed f = []

abbrev pub acks_of : List Flying → List AckFrame
acks_of [] = []
acks_of (f ∷ l) = ack_by (sorted f.bytes).kind f ++ acks_of l

-- the history without the list of messages complete, which the core does not know
abbrev pub cleared : History → History
cleared h = with_messages h h.accepted [] h.handed_out h.done h.eight

-- from one end to the other, whose buffer it is, with the links there and back
abbrev pub between : (from to : Line) (buffer : List ℕ) (there back : List Flying) (h : History) → Direction
between from to buffer there back h =
    record {
      terms = from.channel.parameters.terms;
      sender = from.channel.sender;
      live = from.live;
      receiver = to.channel.receiver;
      buffer = buffer;
      listens = to.live;
      frames = data_of there;
      acks = acks_of back;
      history = cleared h;
    }

-- the frames of a link have one ID, and kinds that are carried
abbrev pub Fits : (carried : Telegram → Type 0) (id : ℕ) → List Flying → Type 0
Fits carried id [] = Unit {0}
Fits carried id (f ∷ l) = (f.id ≡ id) × carried (sorted f.bytes).kind × Fits carried id l

-- ---- which moves

-- what a call at an end is to the direction in which it sends, and to the one in which it receives, and whether the end is open after it;
-- n is its channel, and link what comes to it
pub data Moves (n : Line) (link : List Flying) : Act → Move → Move → Bool → Type 0 where
  nothing : {a : Act} → Moves n link a rest rest n.live
  offers : {m : List ℕ} → Moves n link (send m) (offer m) rest n.live
  takes_one : Moves n link takes rest taken n.live
  passes : {k : ℕ} → Moves n link (time k) (pass k) rest n.live
  hands : Moves n link due hand rest n.live
  acks : Moves n link due rest acknowledge n.live
  data-came : {fate : Fate} (f : Flying) (l : List Flying) → link ≡ f ∷ l → is_data (sorted f.bytes).kind ≡ true
      → Moves n link (arrive fate) rest (receive fate) n.live
  ack-came : {fate : Fate} → Moves n link (arrive fate) (hear fate) rest n.live
  -- 8: the repeats are used up, as time passes or by an Ack, or the tests
  repeats-out : {k : ℕ} → (passed n.channel.parameters.terms n.channel.sender k).note ≡ RanOut → Moves n link (time k) (pass k) close_receiving false
  acks-out : {fate : Fate} (ready : Bool) (number : ℕ) → (on_ack n.channel.parameters.terms n.channel.sender ready number).note ≡ NotReadyTooOften
      → Moves n link (arrive fate) (hear fate) close_receiving false
  tests-out : {k : ℕ} → 0 < n.channel.tests.wait → Moves n link (time k) close_sending close_receiving false

-- ---- what a call leaves

-- the message that waits in a buffer
abbrev pub held_in : Receiver → List ℕ → List ShownMessage
held_in r b = if waiting r then shown_of r.complete b ∷ [] else []

-- a message that waits has room in the buffer
abbrev pub Room : Receiver → List ℕ → Type 0
Room r b = 1 ≤ r.complete.length → r.complete.length ≤ length b

-- those complete are those handed out and the one that waits
abbrev pub Counts : History → Receiver → List ℕ → Type 0
Counts h r b = h.complete ≡ h.handed_out ++ held_in r b

-- a call at the near end, tied to the channel n; f is the far end's
pub record Acted (limit : ℕ) (carried : Telegram → Type 0) {N F : End} (R : N.State → Line → Type 0) (receive transmit : ℕ) (n f : Line) (a : Act) (s t : System N F) : Type 0 where
  pub line : Line
  pub tied : R t.near.state line
  pub far' : t.far ≡ s.far
  pub forward : Fits carried transmit t.forward
  pub backward : Fits carried receive t.backward
  pub out : Move
  pub incoming : Move
  pub forth :
      between line f s.far.buffer t.forward t.backward t.forth
      ≡ move limit (between n f s.far.buffer s.forward s.backward s.forth) out
  pub back :
      between f line t.near.buffer t.backward t.forward t.back
      ≡ move limit (between f n s.near.buffer s.backward s.forward s.back) incoming
  pub moves : Moves n s.backward a out incoming line.live
  -- those complete, in the direction in which it receives and in the one in which it sends
  pub counts :
      Room n.channel.receiver s.near.buffer → Room line.channel.receiver t.near.buffer
      → Counts s.back n.channel.receiver s.near.buffer → Counts t.back line.channel.receiver t.near.buffer
  pub complete : t.forth.complete ≡ s.forth.complete
  pub handed_out : t.forth.handed_out ≡ s.forth.handed_out
  -- without a test that falls due none is out
  pub untested : (n.live ≡ true → test_due n.channel ≡ false) → n.channel.tests.wait ≡ 0 → line.channel.tests.wait ≡ 0

-- the same by its parts
pub acts : {limit : ℕ} {carried : Telegram → Type 0} {N F : End} {R : N.State → Line → Type 0} {receive transmit : ℕ} {n f : Line} {a : Act} {s t : System N F}
    (l : Line) (out incoming : Move) → R t.near.state l → t.far ≡ s.far → Fits carried transmit t.forward → Fits carried receive t.backward
    → between l f s.far.buffer t.forward t.backward t.forth ≡ move limit (between n f s.far.buffer s.forward s.backward s.forth) out
    → between f l t.near.buffer t.backward t.forward t.back ≡ move limit (between f n s.near.buffer s.backward s.forward s.back) incoming
    → Moves n s.backward a out incoming l.live
    → (Room n.channel.receiver s.near.buffer → Room l.channel.receiver t.near.buffer
    → Counts s.back n.channel.receiver s.near.buffer → Counts t.back l.channel.receiver t.near.buffer)
    → t.forth.complete ≡ s.forth.complete → t.forth.handed_out ≡ s.forth.handed_out
    → ((n.live ≡ true → test_due n.channel ≡ false) → n.channel.tests.wait ≡ 0 → l.channel.tests.wait ≡ 0)
    → Acted limit carried R receive transmit n f a s t
acts l out incoming tied far' forward backward forth back moves counts complete handed_out untested =
    record {
      line = l;
      tied = tied;
      far' = far';
      forward = forward;
      backward = backward;
      out = out;
      incoming = incoming;
      forth = forth;
      back = back;
      moves = moves;
      counts = counts;
      complete = complete;
      handed_out = handed_out;
      untested = untested;
    }

-- ---- links with one frame more

pub data-more : (l : List Flying) (f : Flying) → data_of (l ++ (f ∷ [])) ≡ data_of l ++ data_by (sorted f.bytes).kind f
data-more [] f = append-nil (data_by (sorted f.bytes).kind f)
data-more (g ∷ l) f =
    ap (λ (x : List DataFrame). data_by (sorted g.bytes).kind g ++ x) (data-more l f)
    ∙ sym (append_assoc (data_by (sorted g.bytes).kind g) (data_of l) (data_by (sorted f.bytes).kind f))

pub acks-more : (l : List Flying) (f : Flying) → acks_of (l ++ (f ∷ [])) ≡ acks_of l ++ ack_by (sorted f.bytes).kind f
acks-more [] f = append-nil (ack_by (sorted f.bytes).kind f)
acks-more (g ∷ l) f =
    ap (λ (x : List AckFrame). ack_by (sorted g.bytes).kind g ++ x) (acks-more l f)
    ∙ sym (append_assoc (ack_by (sorted g.bytes).kind g) (acks_of l) (ack_by (sorted f.bytes).kind f))

pub fits_more : (carried : Telegram → Type 0) (id : ℕ) (l : List Flying) (f : Flying) → Fits carried id l → f.id ≡ id → carried (sorted f.bytes).kind
    → Fits carried id (l ++ (f ∷ []))
fits_more carried id [] f p q k = (q, k, tt)
fits_more carried id (g ∷ l) f p q k = (p.0, p.1, fits_more carried id l f p.2 q k)

-- ---- histories

-- an answer that reports nothing done and is not 8 notes nothing
pub noted-quiet : (h : History) (d : Bool) (n : ℕ) → d ≡ false → eqb n 8 ≡ false → noted h d n ≡ h
noted-quiet h d n e f = rw (e, f, or-false h.eight)
