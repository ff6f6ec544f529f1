-- Demand 3, sentence by sentence: what is assumed of two ends, their links and a list of calls, and what then holds after the list.
use Rattle.std.specs.Prelude.{ℕ, ◌+◌, ◌*◌, ◌≤◌, ◌<◌, Bool, true, false, ◌≡◌, ◌⊎◌, List, [], ◌∷◌, ◌++◌, map, length, get_or, take, eqb, if◌then◌else◌}
use Rattle.std.specs.Option.{is_some}
use Rattle.telegram.specs.Kinds.{sorted}
use Rattle.telegram.specs.Cutting.{frames_of}
use Rattle.sender.specs.Sending.{fresh as fresh_sender}
use Rattle.receiver.specs.Receiving.{waiting, fresh as fresh_receiver}
use Rattle.channel.specs.declared.Channel.{Channel}
use Rattle.channel.specs.Opened.{none_out, test_due, due as due_of}
use Rattle.delivery.specs.End.{End}
use Rattle.delivery.specs.System.{Party, Flying, Try, plain, History, System, Act, Call, turned, lent, is_data, step, run}
use Rattle.delivery.specs.System.Side.{near, far}
use Rattle.delivery.specs.System.Fate.{goes, stays, lost}
use Rattle.delivery.specs.System.Act.{send, take as takes, time, due, arrive}
use Rattle.delivery.specs.System.Call.{at}

-- the channel of an end
abbrev pub channel_of : {E : End} → Party E → Channel
channel_of {E} p = E.channel p.state

-- ---- along a list of calls

-- something holds of every system on the way, the first and the last too
abbrev pub Always : {N F : End} → (System N F → Type 0) → System N F → List Call → Type 0
Always P s [] = P s
Always P s (c ∷ cs) = P s × Always P (step s c) cs

-- something holds of every call, in the system that it meets
abbrev pub Along : {N F : End} → (System N F → Call → Type 0) → System N F → List Call → Type 0
Along P s [] = Unit {0}
Along P s (c ∷ cs) = P s c × Along P (step s c) cs

-- ---- what is assumed

-- "Fresh": open, sender and receiver as the A1 leaves them, nothing due, no test out, settings that 01 allows; the interval may stand anywhere
pub record FreshEnd {E : End} (p : Party E) : Type 0 where
  pub open' : E.open' p.state ≡ true
  pub sender : (channel_of p).sender ≡ fresh_sender
  pub receiver : (channel_of p).receiver ≡ fresh_receiver
  pub tests : (channel_of p).tests ≡ none_out (channel_of p).tests.interval
  pub accept : (channel_of p).accept ≡ false
  pub t1 : 1 ≤ (channel_of p).parameters.terms.t1
  pub t_wait : 1 ≤ (channel_of p).parameters.terms.t_wait

-- nothing has happened yet
abbrev pub no_history : Try → History
no_history t =
    record { accepted = []; complete = []; handed_out = []; done = 0; eight = false; frames = []; turns = 0; ack_try = t; losses = [] }

-- "two fresh ends of one connection, block size 1 to 15, both links empty"; each end's transmit ID is the other's receive ID
pub record Fresh {N F : End} (s : System N F) : Type 0 where
  pub near : FreshEnd s.near
  pub far : FreshEnd s.far
  pub to-far : N.transmits s.near.state ≡ F.receives s.far.state
  pub to-near : F.transmits s.far.state ≡ N.receives s.near.state
  pub agreed : (channel_of s.far).parameters.terms.block ≡ (channel_of s.near).parameters.terms.block
  pub least : 1 ≤ (channel_of s.near).parameters.terms.block
  pub most : (channel_of s.near).parameters.terms.block ≤ 15
  pub forward : s.forward ≡ []
  pub backward : s.backward ≡ []
  pub forth : s.forth ≡ no_history s.forth.ack_try
  pub back : s.back ≡ no_history s.back.ack_try

-- "Send comes at the sending end only": the near one
abbrev pub SendsNear : List Call → Type 0
SendsNear [] = Unit {0}
SendsNear (at far (send m) ∷ cs) = ⊥
SendsNear (at far takes ∷ cs) = SendsNear cs
SendsNear (at far (time n) ∷ cs) = SendsNear cs
SendsNear (at far due ∷ cs) = SendsNear cs
SendsNear (at far (arrive fate) ∷ cs) = SendsNear cs
SendsNear (at near a ∷ cs) = SendsNear cs

-- "no test falls due", at either end
abbrev pub NoTest : {N F : End} → System N F → Type 0
NoTest s = (test_due (channel_of s.near) ≡ false) × (test_due (channel_of s.far) ≡ false)

-- each message is at most so long
abbrev pub Within : ℕ → List (List ℕ) → Type 0
Within room [] = Unit {0}
Within room (m ∷ ms) = (length m ≤ room) × Within room ms

-- "Roomy": the receiving end's buffer holds every message accepted
abbrev pub Roomy : {N F : End} → System N F → System N F → Type 0
Roomy s t = Within (length s.far.buffer) t.forth.accepted

-- ---- the first half

-- "handed out whole or no part of it ever is": the last message accepted, which is not done, after a list of calls
abbrev pub WholeOrNone : {N F : End} → System N F → List Call → Type 0
WholeOrNone s cs = (length (run s cs).forth.handed_out ≤ s.forth.done) ⊎ ((run s cs).forth.handed_out ≡ map plain s.forth.accepted)

-- the first half: what holds after every list of calls
pub record Delivered {N F : End} (s : System N F) : Type 0 where
  -- "the messages handed out are the first so many accepted, in order, once, byte for byte"; "the bytes and flags 0 arrive" (02, 1)
  pub in_order : s.forth.handed_out ≡ map plain (take (length s.forth.handed_out) s.forth.accepted)
  -- "each reported done is handed out, or a take would hand it out now"
  pub done :
      (i : ℕ) → i < s.forth.done →
      (i < length s.forth.handed_out) ⊎ ((length s.forth.handed_out ≡ i) × ((step s (at far takes)).forth.handed_out ≡ s.forth.handed_out ++ (plain (get_or s.forth.accepted i []) ∷ [])))
  -- "given up": 8 was answered before the last message accepted was done
  pub given_up :
      s.forth.eight ≡ true →
      (length s.forth.accepted ≡ s.forth.done + 1) × ((cs : List Call) → SendsNear cs → Always NoTest s cs → WholeOrNone s cs)
  -- the receiving end stays open
  pub open' : F.open' s.far.state ≡ true
  -- a take at the sending end shows nothing
  pub none-back : s.back.handed_out ≡ []

-- ---- the second half

-- a wait for an Ack runs out in n tenths
abbrev pub RunsOut : {E : End} → Party E → ℕ → Type 0
RunsOut {E} p n = (E.open' p.state ≡ true) × (0 < (channel_of p).sender.wait) × ((channel_of p).sender.wait ≤ n)

-- at the near end: a wait that runs out finds both links empty, and no Ack due at the other end
abbrev pub NearInTime : {N F : End} → System N F → Act → Type 0
NearInTime s (time n) = RunsOut s.near n → (s.forward ≡ []) × (s.backward ≡ []) × ((channel_of s.far).receiver.ack.due ≡ false)
NearInTime s (send m) = Unit {0}
NearInTime s takes = Unit {0}
NearInTime s due = Unit {0}
NearInTime s (arrive fate) = Unit {0}

-- "In time": no wait runs out while a link holds a frame or the far end has an Ack due
abbrev pub InTime : {N F : End} → System N F → Call → Type 0
InTime s (at near a) = NearInTime s a
InTime s (at far a) = NearInTime (turned s) a

-- no data frame comes to an end, copies and refused ones too, while a complete message waits untaken there
abbrev pub NoneWaits : {E : End} → Party E → List Flying → Type 0
NoneWaits p [] = Unit {0}
NoneWaits p (f ∷ rest) = is_data (sorted f.bytes).kind ≡ true → waiting (channel_of p).receiver ≡ false

-- the same of what is called at the near end
abbrev pub NearTakenFirst : {N F : End} → System N F → Act → Type 0
NearTakenFirst s (arrive goes) = NoneWaits s.near s.backward
NearTakenFirst s (arrive stays) = NoneWaits s.near s.backward
NearTakenFirst s (arrive lost) = Unit {0}
NearTakenFirst s (send m) = Unit {0}
NearTakenFirst s takes = Unit {0}
NearTakenFirst s due = Unit {0}
NearTakenFirst s (time n) = Unit {0}

-- "each message is taken before another data frame arrives"
abbrev pub TakenFirst : {N F : End} → System N F → Call → Type 0
TakenFirst s (at near a) = NearTakenFirst s a
TakenFirst s (at far a) = NearTakenFirst (turned s) a

-- nothing due, no wait, hold or T3 running
pub record Resting (c : Channel) (m : List ℕ) : Type 0 where
  pub nothing : is_some (due_of c m).payload ≡ false
  pub wait : c.sender.wait ≡ 0
  pub hold : c.sender.hold ≡ 0
  pub gap : c.sender.gap ≡ 0

-- "At rest": links empty, nothing due, no wait, hold or T3 running
pub record AtRest {N F : End} (s : System N F) : Type 0 where
  pub forward : s.forward ≡ []
  pub backward : s.backward ≡ []
  pub near : Resting (channel_of s.near) (lent s.forth)
  pub far : Resting (channel_of s.far) (lent s.back)

-- the tries of a message's block, by their turns
abbrev pub turns_of : (message block : ℕ) → List Try → List ℕ
turns_of i b [] = []
turns_of i b (t ∷ ts) =
    if eqb t.message i then (if eqb t.block b then t.turn ∷ turns_of i b ts else turns_of i b ts) else turns_of i b ts

-- a number stands in a list
abbrev pub member : ℕ → List ℕ → Bool
member x [] = false
member x (y ∷ ys) = if eqb x y then true else member x ys

-- how many different numbers a list has
abbrev pub different : List ℕ → ℕ
different [] = 0
different (x ∷ xs) = if member x xs then different xs else different xs + 1

-- "in no block do more tries lose a frame than repeats are allowed"
abbrev pub FewLosses : (repeats : ℕ) → List Try → Type 0
FewLosses repeats losses = (i b : ℕ) → different (turns_of i b losses) ≤ repeats

-- "the data frames sent for it": every hand-over counts
abbrev pub frames_for : (message : ℕ) → List Try → ℕ
frames_for i [] = 0
frames_for i (t ∷ ts) = if eqb t.message i then frames_for i ts + 1 else frames_for i ts

-- the second half: what holds at rest
pub record AllDone (repeats : ℕ) (h : History) : Type 0 where
  -- "every message accepted is done"
  pub done : h.done ≡ length h.accepted
  -- "the data frames sent for it are at most (repeats + 1) times those in its cutting"
  pub bound : (i : ℕ) → i < length h.accepted → frames_for i h.frames ≤ (repeats + 1) * frames_of (length (get_or h.accepted i []))

-- ---- demand 3, one claim about the whole list

-- how often the near end may repeat
abbrev pub repeats_of : {N F : End} → System N F → ℕ
repeats_of s = (channel_of s.near).parameters.terms.repeats

pub record Demand3 {N F : End} (s : System N F) (cs : List Call) : Type 0 where
  pub first : Always NoTest s cs → Roomy s (run s cs) → Delivered (run s cs)
  pub second :
      Always NoTest s cs → Along InTime s cs → Along TakenFirst s cs → AtRest (run s cs) → FewLosses (repeats_of s) (run s cs).forth.losses →
      AllDone (repeats_of s) (run s cs).forth
  -- with so few losses 8 is never answered, at rest or not
  pub stays :
      Always NoTest s cs → Along InTime s cs → Along TakenFirst s cs → FewLosses (repeats_of s) (run s cs).forth.losses →
      N.open' (run s cs).near.state ≡ true

-- for two such ends: every fresh start, and every list of calls in which the near one alone sends
abbrev pub Demand3Holds : End → End → Type 0
Demand3Holds N F = (s : System N F) → Fresh s → (cs : List Call) → SendsNear cs → Demand3 s cs
