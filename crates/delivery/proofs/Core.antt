-- One direction of a connection by itself: the sending half of one end, the receiving half of the other,
-- the data frames of the one link and the Acks of the other, and what happened so far.
-- A move runs the very definition of the half that it is about. What else an end does (tests, the other direction) is no move of this one.
use Rattle.std.specs.Prelude.{if◌then◌else◌}
use Prim.Native.Nat.{ℕ, ◌+◌, ◌-◌, ◌*◌, ◌/◌, ◌%◌}
use mathlib.Core.Bool.{Bool, true, false, not}
use mathlib.Core.List.{List, [], ◌∷◌, ◌++◌}
use lib.ListN.{length, take, drop}
use Rattle.telegram.specs.Cutting.{stream_of, last_at, asks_at}
use Rattle.sender.specs.Sending.{offered, on_ack, passed, handed, first_number, Offer, Accepted, Busy as InSending, BadLength as NotSent}
use Rattle.sender.specs.declared.Terms.{Terms}
use Rattle.sender.specs.declared.Sender.{Sender}
use Rattle.sender.specs.declared.Offered.{Offered}
use Rattle.sender.specs.declared.Heard.{Heard}
use Rattle.sender.specs.declared.Passing.{Passing}
use Rattle.sender.specs.declared.Passing.TheVariants.{Quiet, Again, UsedUp as RanOut}
use Rattle.sender.specs.declared.Passed.{Passed}
use Rattle.sender.specs.declared.Handing.{Handing}
use Rattle.sender.specs.declared.Handing.TheVariants.{Frame, Nothing as NoFrame, OtherLength}
use Rattle.sender.specs.declared.Handed.{Handed}
use Rattle.receiver.specs.Receiving.{on_data, buffered, took, ack_handed, Taking, Shown, NoneComplete, ShortBuffer}
use Rattle.receiver.specs.declared.Receiver.{Receiver}
use Rattle.receiver.specs.declared.Received.{Received}
use Rattle.receiver.specs.declared.Took.{Took}
use Rattle.channel.specs.declared.Answer.{Answer}
use Rattle.channel.specs.declared.Answer.TheVariants.{Good, UsedUp}
use Rattle.channel.specs.Numbers.{said, closes}
use Rattle.arrival.specs.Arrived.{ack_answer}
use Rattle.delivery.specs.System.{Try, ShownMessage, shown_of, History, Fate, with_messages, with_tries, handing, noted, losing, lent}
use Rattle.delivery.specs.System.Fate.{goes, stays, lost}

-- a data frame on its way, as it is sorted, and its try
pub record DataFrame : Type 0 where
  pub asks : Bool
  pub last : Bool
  pub number : ℕ
  pub bytes : List ℕ
  pub try : Try

-- an Ack on its way, and its try
pub record AckFrame : Type 0 where
  pub ready : Bool
  pub number : ℕ
  pub try : Try

pub record Direction : Type 0 where
  pub terms : Terms
  pub sender : Sender
  -- the sending end is open
  pub live : Bool
  pub receiver : Receiver
  pub buffer : List ℕ
  -- the receiving end is open
  pub listens : Bool
  pub frames : List DataFrame
  pub acks : List AckFrame
  pub history : History

pub data Move : Type 0 where
  -- at the sending end: a message is offered, the first Ack arrives, time passes, a frame is asked for
  offer : List ℕ → Move
  hear : Fate → Move
  pass : ℕ → Move
  hand : Move
  -- at the receiving end: the first data frame arrives, a message is taken, the due Ack is handed over
  receive : Fate → Move
  taken : Move
  acknowledge : Move
  -- an end is closed: the sending one by 8 for another cause than its own repeats, the receiving one for whatever cause
  close_sending : Move
  close_receiving : Move
  -- nothing happens to this direction
  rest : Move

-- ---- parts of a direction put back

abbrev pub with_sending : Direction → Sender → Bool → History → Direction
with_sending d s live h =
    record {
      terms = d.terms;
      sender = s;
      live = live;
      receiver = d.receiver;
      buffer = d.buffer;
      listens = d.listens;
      frames = d.frames;
      acks = d.acks;
      history = h;
    }

abbrev pub with_receiving : Direction → Receiver → List ℕ → History → Direction
with_receiving d r b h =
    record {
      terms = d.terms;
      sender = d.sender;
      live = d.live;
      receiver = r;
      buffer = b;
      listens = d.listens;
      frames = d.frames;
      acks = d.acks;
      history = h;
    }

abbrev pub with_listens : Direction → Bool → Direction
with_listens d listens =
    record {
      terms = d.terms;
      sender = d.sender;
      live = d.live;
      receiver = d.receiver;
      buffer = d.buffer;
      listens = listens;
      frames = d.frames;
      acks = d.acks;
      history = d.history;
    }

abbrev pub with_frames : Direction → List DataFrame → History → Direction
with_frames d l h =
    record {
      terms = d.terms;
      sender = d.sender;
      live = d.live;
      receiver = d.receiver;
      buffer = d.buffer;
      listens = d.listens;
      frames = l;
      acks = d.acks;
      history = h;
    }

abbrev pub with_acks : Direction → List AckFrame → History → Direction
with_acks d l h =
    record {
      terms = d.terms;
      sender = d.sender;
      live = d.live;
      receiver = d.receiver;
      buffer = d.buffer;
      listens = d.listens;
      frames = d.frames;
      acks = l;
      history = h;
    }

-- the history with other losses
abbrev pub with_losses : History → List Try → History
with_losses h l = with_tries h h.frames h.turns h.ack_try l

-- and with other messages handed out
abbrev pub with_handed_out : History → List ShownMessage → History
with_handed_out h l = with_messages h h.accepted h.complete l h.done h.eight

-- a message accepted
abbrev pub accepting : History → List ℕ → History
accepting h m = with_messages h (h.accepted ++ (m ∷ [])) h.complete h.handed_out h.done h.eight

-- the answer of the sending end's channel: done, or 8
abbrev pub answer_noted : History → Answer → History
answer_noted h a = noted h (said a).done (said a).number

-- ---- at the sending end

abbrev pub offer_noted : Offer → History → List ℕ → History
offer_noted Accepted h m = accepting h m
offer_noted InSending h m = h
offer_noted NotSent h m = h

-- what a message offered leaves
abbrev pub offered_to : Direction → List ℕ → Offered → Direction
offered_to d m o = with_sending d o.sender d.live (offer_noted o.note d.history m)

-- what an Ack leaves: done and 8 are noted, 8 closes
abbrev pub heard_to : Direction → Heard → Direction
heard_to d g = with_sending d g.sender (not (closes (ack_answer g.note))) (answer_noted d.history (ack_answer g.note))

-- the answer to passing time
abbrev pub pass_answer : Passing → Answer
pass_answer Quiet = Good
pass_answer Again = Good
pass_answer RanOut = UsedUp

abbrev pub passed_to : Direction → Passed → Direction
passed_to d g = with_sending d g.sender (not (closes (pass_answer g.note))) (answer_noted d.history (pass_answer g.note))

-- the try of the next frame
abbrev pub try_now : Direction → Try
try_now d =
    record { message = length d.history.accepted - 1; block = d.sender.next / d.terms.block; turn = d.history.turns }

-- the next frame of the message lent, as it will be sorted
abbrev pub frame_now : Direction → DataFrame
frame_now d =
    (let m = lent d.history in
    record {
      asks = asks_at d.terms.block (length m) d.sender.next;
      last = last_at (length m) d.sender.next;
      number = (first_number d.sender + d.sender.next) % 16;
      bytes = take 7 (drop (7 * d.sender.next) (stream_of m));
      try = try_now d;
    })

-- a data frame handed over, and whether it asks for an Ack
abbrev pub counting : History → Try → Bool → History
counting h t asks = with_tries h (t ∷ h.frames) (if asks then h.turns + 1 else h.turns) h.ack_try h.losses

-- the link with the next frame, and the history that counts it
abbrev pub with_frame : Direction → Sender → Direction
with_frame d s =
    record {
      terms = d.terms;
      sender = s;
      live = d.live;
      receiver = d.receiver;
      buffer = d.buffer;
      listens = d.listens;
      frames = d.frames ++ (frame_now d ∷ []);
      acks = d.acks;
      history = counting d.history (try_now d) (frame_now d).asks;
    }

abbrev pub handed_by : Direction → Handing → Sender → Direction
handed_by d (Frame p) s = with_frame d s
handed_by d NoFrame s = d
handed_by d OtherLength s = d

abbrev pub handed_to : Direction → Handed → Direction
handed_to d g = handed_by d g.note g.sender

-- the first Ack of the link, by its fate
abbrev pub hearing : Fate → List AckFrame → Direction → Direction
hearing fate [] d = d
hearing goes (f ∷ l) d =
    if d.live then heard_to (with_acks d l d.history) (on_ack d.terms d.sender f.ready f.number) else with_acks d l d.history
hearing stays (f ∷ l) d = if d.live then heard_to d (on_ack d.terms d.sender f.ready f.number) else d
hearing lost (f ∷ l) d = with_acks d l (losing d.history true f.try)

-- ---- at the receiving end

-- a frame with AR came: the Ack that it makes due belongs to its try
abbrev pub asked_by : History → (asks : Bool) → Try → History
asked_by h asks t = with_tries h h.frames h.turns (if asks then t else h.ack_try) h.losses

-- what a data frame leaves, in the receiver and in its buffer
abbrev pub received_to : Direction → DataFrame → Received → Direction
received_to d f g =
    with_receiving d g.receiver (buffered d.receiver g.note f.bytes d.buffer)
    (asked_by d.history f.asks f.try)

abbrev pub received : (limit : ℕ) → Direction → DataFrame → Direction
received limit d f =
    received_to d f (on_data limit d.receiver f.asks f.last f.number f.bytes (length d.buffer))

-- the first data frame of the link, by its fate
abbrev pub receiving : (limit : ℕ) → Fate → List DataFrame → Direction → Direction
receiving limit fate [] d = d
receiving limit goes (f ∷ l) d = if d.listens then received limit (with_frames d l d.history) f else with_frames d l d.history
receiving limit stays (f ∷ l) d = if d.listens then received limit d f else d
receiving limit lost (f ∷ l) d = with_frames d l (losing d.history true f.try)

-- what a take shows
abbrev pub shown_by : Taking → ShownMessage → List ShownMessage
shown_by (Shown shown) m = m ∷ []
shown_by NoneComplete m = []
shown_by ShortBuffer m = []

abbrev pub took_to : Direction → Took → Direction
took_to d g = with_receiving d g.receiver d.buffer (handing d.history (shown_by g.message (shown_of d.receiver.complete d.buffer)))

-- the due Ack handed over
abbrev pub with_ack : Direction → Direction
with_ack d =
    record {
      terms = d.terms;
      sender = d.sender;
      live = d.live;
      receiver = ack_handed d.receiver;
      buffer = d.buffer;
      listens = d.listens;
      frames = d.frames;
      acks = d.acks ++ (record { ready = d.receiver.ack.ready; number = d.receiver.ack.number % 16; try = d.history.ack_try } ∷ []);
      history = d.history;
    }

-- ---- one move

abbrev pub move : (limit : ℕ) → Direction → Move → Direction
move limit d (offer m) = if d.live then offered_to d m (offered limit d.sender (length m)) else d
move limit d (hear fate) = hearing fate d.acks d
move limit d (pass n) = if d.live then passed_to d (passed d.terms d.sender n) else d
move limit d hand = if d.live then handed_to d (handed d.terms d.sender (lent d.history)) else d
move limit d (receive fate) = receiving limit fate d.frames d
move limit d taken = if d.listens then took_to d (took d.receiver (length d.buffer)) else d
move limit d acknowledge = if d.listens then (if d.receiver.ack.due then with_ack d else d) else d
move limit d close_sending = with_sending d d.sender false (answer_noted d.history UsedUp)
move limit d close_receiving = with_listens d false
move limit d rest = d

-- a list of moves
abbrev pub moved : (limit : ℕ) → Direction → List Move → Direction
moved limit d [] = d
moved limit d (m ∷ ms) = moved limit (move limit d m) ms
