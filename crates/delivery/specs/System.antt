-- 01, "The lists of demand 3", and 02, 14: two ends of one connection, the links between them, and what a list of calls does to them.
-- The ends are any two (End.antt); send comes at either. History and tries stand beside the ends: of them a call sees only the message that due lends.
use Rattle.std.specs.Prelude.{ℕ, ◌+◌, ◌-◌, ◌/◌, Bool, true, false, ◌&&◌, ◌||◌, List, [], ◌∷◌, ◌++◌, length, get_or, take as front, eqb, if◌then◌else◌}
use Rattle.telegram.specs.declared.cutting.Message.{Message}
use Rattle.telegram.specs.Kinds.{sorted}
use Rattle.telegram.specs.declared.kinds.Telegram.{Telegram}
use Rattle.telegram.specs.declared.kinds.Telegram.TheVariants.{Data, Ack, Test, Break, Disconnect, Setup, Accept, Malformed}
use Rattle.channel.specs.declared.Channel.{Channel}
use Rattle.delivery.specs.End.{End}

-- "Each call gets record and buffer as its end's last call left them": an end's state, and its one lent buffer
pub record Party (E : End) : Type 0 where
  pub state : E.State
  pub buffer : List ℕ

-- "Try": one run of sends up to the frame with AR, together with its Ack. It is named by the message, the block of it, and how many frames with AR were handed over before
pub record Try : Type 0 where
  pub message : ℕ
  pub block : ℕ
  pub turn : ℕ

-- a frame in a link, and the try that it belongs to
pub record Flying : Type 0 where
  pub id : ℕ
  pub bytes : List ℕ
  pub try : Try

-- a message as a take shows it: its bytes, and the flags reported with it (02, 1)
pub record ShownMessage : Type 0 where
  pub bytes : List ℕ
  pub flags : ℕ

-- what is shown of a buffer: as many bytes of its front as the message has, and its flags
abbrev pub shown_of : Message → List ℕ → ShownMessage
shown_of m buffer = record { bytes = front m.length buffer; flags = m.flags }

-- a message accepted, as it is to arrive: "the bytes and flags 0 arrive" (02, 1)
abbrev pub plain : List ℕ → ShownMessage
plain m = record { bytes = m; flags = 0 }

-- what happened so far in one direction, from a sending end to a receiving one
pub record History : Type 0 where
  -- "Accepted": the messages whose send was answered 0, the first one first
  pub accepted : List (List ℕ)
  -- the messages that were complete at the receiving end: an arrival made a take show them
  pub complete : List ShownMessage
  -- "Handed out": the messages shown by a take, the first one first
  pub handed_out : List ShownMessage
  -- how many were reported done by the sending end
  pub done : ℕ
  -- the sending end answered 8
  pub eight : Bool
  -- the try of each data frame handed over
  pub frames : List Try
  -- how many of those were frames with AR
  pub turns : ℕ
  -- the try of the frame that last asked the receiving end for an Ack
  pub ack_try : Try
  -- the try of each frame that a link lost: data of this direction, and Acks for it
  pub losses : List Try

-- two ends, the frames on their way to the far and to the near one, the first to arrive first,
-- and the history of what the near end sends (forth) and of what the far end sends (back)
pub record System (N F : End) : Type 0 where
  pub near : Party N
  pub far : Party F
  pub forward : List Flying
  pub backward : List Flying
  pub forth : History
  pub back : History

-- the same two ends, seen from the other side
abbrev pub turned : {N F : End} → System N F → System F N
turned s =
    record { near = s.far; far = s.near; forward = s.backward; backward = s.forward; forth = s.back; back = s.forth }

-- the two sides
pub data Side : Type 0 where
  near far : Side

-- a link's first frame arrives and goes, arrives and stays (the repeat), or is lost
pub data Fate : Type 0 where
  goes stays lost : Fate

-- what is called at an end
pub data Act : Type 0 where
  send : List ℕ → Act
  take : Act
  time : ℕ → Act
  due : Act
  arrive : Fate → Act

-- a call: at which side, and what
pub data Call : Type 0 where
  at : Side → Act → Call

-- ---- what the history notes

-- a history with other messages
abbrev pub with_messages : History → (accepted : List (List ℕ)) → (complete handed_out : List ShownMessage) → (done : ℕ) → (eight : Bool) → History
with_messages h a c o d e =
    record {
      accepted = a;
      complete = c;
      handed_out = o;
      done = d;
      eight = e;
      frames = h.frames;
      turns = h.turns;
      ack_try = h.ack_try;
      losses = h.losses;
    }

-- a history with other tries
abbrev pub with_tries : History → (frames : List Try) → (turns : ℕ) → (ack_try : Try) → (losses : List Try) → History
with_tries h f n t l =
    record {
      accepted = h.accepted;
      complete = h.complete;
      handed_out = h.handed_out;
      done = h.done;
      eight = h.eight;
      frames = f;
      turns = n;
      ack_try = t;
      losses = l;
    }

-- "while sending, the very message accepted": the last one accepted is lent
abbrev pub lent : History → List ℕ
lent h = get_or h.accepted (length h.accepted - 1) []

-- a message offered, and accepted where the answer is 0
abbrev pub offering : History → List ℕ → (number : ℕ) → History
offering h m n = with_messages h (if eqb n 0 then h.accepted ++ (m ∷ []) else h.accepted) h.complete h.handed_out h.done h.eight

-- messages handed out
abbrev pub handing : History → List ShownMessage → History
handing h ms = with_messages h h.accepted h.complete (h.handed_out ++ ms) h.done h.eight

-- messages that are complete now
abbrev pub completing : History → List ShownMessage → History
completing h ms = with_messages h h.accepted (h.complete ++ ms) h.handed_out h.done h.eight

-- the sending end's answer: done, or 8
abbrev pub noted : History → (done : Bool) → (number : ℕ) → History
noted h d n = with_messages h h.accepted h.complete h.handed_out (if d then h.done + 1 else h.done) (h.eight || eqb n 8)

-- the telegram is data
abbrev pub is_data : Telegram → Bool
is_data (Data asks last number) = true
is_data (Ack ready number) = false
is_data Test = false
is_data Break = false
is_data Disconnect = false
is_data (Setup p) = false
is_data (Accept p) = false
is_data Malformed = false

-- it is data with AR
abbrev pub asks_ack : Telegram → Bool
asks_ack (Data asks last number) = asks
asks_ack (Ack ready number) = false
asks_ack Test = false
asks_ack Break = false
asks_ack Disconnect = false
asks_ack (Setup p) = false
asks_ack (Accept p) = false
asks_ack Malformed = false

-- it is an Ack
abbrev pub is_ack : Telegram → Bool
is_ack (Data asks last number) = false
is_ack (Ack ready number) = true
is_ack Test = false
is_ack Break = false
is_ack Disconnect = false
is_ack (Setup p) = false
is_ack (Accept p) = false
is_ack Malformed = false

-- a frame with AR came to an open end: the Ack that it makes due belongs to its try
abbrev pub asked : History → (open' : Bool) → Telegram → Try → History
asked h o k t = with_tries h h.frames h.turns (if o && asks_ack k then t else h.ack_try) h.losses

-- the try of a frame that is handed over: of data by the frame that was next, of an Ack that of the frame that asked for it
abbrev pub try_of : (out incoming : History) → Channel → Telegram → Try
try_of h i c k =
    if is_data k then record { message = length h.accepted - 1; block = c.sender.next / c.parameters.terms.block; turn = h.turns }
    else i.ack_try

-- a frame handed over: data is counted for its try, and one with AR ends that try's sends
abbrev pub counted : History → (given : Bool) → Telegram → Try → History
counted h g k t =
    with_tries h (if g && is_data k then t ∷ h.frames else h.frames) (if g && asks_ack k then h.turns + 1 else h.turns) h.ack_try h.losses

-- a frame lost by a link, whenever that happens, is a loss of its own try; so is a copy that arrived and stayed before.
-- Data counts for the direction that it goes, an Ack for the one that it answers, a test or an A1 for none
abbrev pub losing : History → (counts : Bool) → Try → History
losing h c t = with_tries h h.frames h.turns h.ack_try (if c then t ∷ h.losses else h.losses)

-- ---- the calls, at the near end

-- what a take shows: a message where its answer is 0
abbrev pub shown_at : {E : End} → Party E → List ShownMessage
shown_at {E} p = (let t = E.take p.state (length p.buffer) in if eqb t.number 0 then shown_of t.message p.buffer ∷ [] else [])

-- what an arrival made complete: what a take shows after it, if one before it showed nothing
abbrev pub newly : (before after : List ShownMessage) → List ShownMessage
newly [] after = after
newly (m ∷ ms) after = []

module _ {N F : End} where
  -- what a call leaves that touches no link
  abbrev pub after : System N F → Party N → (forth back : History) → System N F
  after s p h k = record { near = p; far = s.far; forward = s.forward; backward = s.backward; forth = h; back = k }

  -- send
  unfoldable pub sending : System N F → List ℕ → System N F
  sending s m =
      (let r = N.send s.near.state (length m) in
      after s (record { state = r.state; buffer = s.near.buffer }) (offering s.forth m r.number) s.back)

  -- take
  unfoldable pub taking : System N F → System N F
  taking s =
      (let r = N.take s.near.state (length s.near.buffer) in
      after s (record { state = r.state; buffer = s.near.buffer }) s.forth (handing s.back (shown_at s.near)))

  -- time has passed
  unfoldable pub timing : System N F → ℕ → System N F
  timing s n =
      (let r = N.time s.near.state n in
      after s (record { state = r.state; buffer = s.near.buffer }) (noted s.forth r.done r.number) s.back)

  -- what is due: a frame handed over goes last into the link to the other end
  unfoldable pub asking : System N F → System N F
  asking s =
      (let d = N.due s.near.state (lent s.forth) in
      let k = (sorted d.bytes).kind in
      let t = try_of s.forth s.back (N.channel s.near.state) k in
      record {
        near = record { state = d.state; buffer = s.near.buffer };
        far = s.far;
        forward = if d.given then s.forward ++ (record { id = d.id; bytes = d.bytes; try = t } ∷ []) else s.forward;
        backward = s.backward;
        forth = counted s.forth d.given k t;
        back = s.back;
      })

  -- a frame arrives, lent the buffer, and that link is left
  unfoldable pub arriving : System N F → Flying → (backward : List Flying) → System N F
  arriving s f l =
      (let r = N.arrive s.near.state f.id f.bytes (length s.near.buffer) in
      let k = (sorted f.bytes).kind in
      let met : Party N = record { state = r.state; buffer = N.buffered s.near.state f.id f.bytes s.near.buffer } in
      record {
        near = met;
        far = s.far;
        forward = s.forward;
        backward = l;
        forth = noted s.forth r.done r.number;
        back = completing (asked s.back (N.open' s.near.state) k f.try) (newly (shown_at s.near) (shown_at met));
      })

  -- the first frame of the link is lost
  unfoldable pub missing : System N F → Flying → (backward : List Flying) → System N F
  missing s f l =
      (let k = (sorted f.bytes).kind in
      record {
        near = s.near;
        far = s.far;
        forward = s.forward;
        backward = l;
        forth = losing s.forth (is_ack k) f.try;
        back = losing s.back (is_data k) f.try;
      })

  -- the first frame of the link, by its fate; with an empty link nothing happens
  abbrev pub meeting : Fate → List Flying → System N F → System N F
  meeting fate [] s = s
  meeting goes (f ∷ rest) s = arriving s f rest
  meeting stays (f ∷ rest) s = arriving s f (f ∷ rest)
  meeting lost (f ∷ rest) s = missing s f rest

  -- one call at the near end
  abbrev pub act : System N F → Act → System N F
  act s (send m) = sending s m
  act s take = taking s
  act s (time n) = timing s n
  act s due = asking s
  act s (arrive fate) = meeting fate s.backward s

-- ---- lists of calls

-- one call; at the far end it is the call of the system seen from there
abbrev pub step : {N F : End} → System N F → Call → System N F
step s (at near a) = act s a
step s (at far a) = turned (act (turned s) a)

-- a list of calls
abbrev pub run : {N F : End} → System N F → List Call → System N F
run s [] = s
run s (c ∷ cs) = run (step s c) cs
