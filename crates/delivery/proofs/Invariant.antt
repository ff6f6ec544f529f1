-- What holds of one direction after every list of moves.
-- Frames have absolute indices, counted from the opening; a telegram shows an index modulo 16. The ghosts stand as parameters:
--     start    the index of the first frame of the message in sending, or of the next one if none is
--     used     how many of its frames the receiver has used
--     block    how many blocks of it are acknowledged
--     places   the indices of the data frames in the link, in their order
use Prim.Native.Nat.{ℕ, ◌+◌, ◌-◌, ◌*◌, max, ◌%◌, ◌≤◌, ◌<◌}
use mathlib.Core.Bool.{true, false, not}
use mathlib.Core.Path.{◌≡◌}
use mathlib.Core.Logic.{◌⊎◌}
use mathlib.Core.List.{List, [], ◌∷◌, map}
use lib.ListN.{length, take, drop, get_or}
use Rattle.telegram.specs.Cutting.{stream_of, frames_of, last_at, asks_at}
use Rattle.telegram.specs.declared.cutting.Message.{Message}
use Rattle.sender.specs.declared.Terms.{Terms}
use Rattle.sender.specs.declared.Sender.{Sender}
use Rattle.receiver.specs.declared.Standing.{Standing}
use Rattle.receiver.specs.declared.AckDue.{AckDue}
use Rattle.receiver.specs.declared.Receiver.{Receiver}
use Rattle.delivery.specs.System.{ShownMessage, shown_of, plain, History}
use Rattle.delivery.proofs.Core.{DataFrame, AckFrame, Direction}

-- the terms that 01 allows: block size 1 to 15, T1 not 0
pub record Fair (t : Terms) : Type 0 where
  pub least : 1 ≤ t.block
  pub most : t.block ≤ 15
  pub t1 : 1 ≤ t.t1

-- the message in sending: the one behind those done
abbrev pub current : History → List ℕ
current h = get_or h.accepted h.done []

-- ---- the sending half

-- no message in sending: each accepted is done
pub record Idle (accepted : List (List ℕ)) (done used : ℕ) (s : Sender) : Type 0 where
  pub counted : length accepted ≡ done
  pub length' : s.length ≡ 0
  pub acked : s.acked ≡ 0
  pub high : s.high ≡ 0
  pub next : s.next ≡ 0
  pub wait : s.wait ≡ 0
  pub none : used ≡ 0

-- the message m in sending, the last one accepted; a window of one block lies between acknowledged and ever handed over
pub record Busy (limit : ℕ) (accepted : List (List ℕ)) (done size used block : ℕ) (m : List ℕ) (s : Sender) : Type 0 where
  pub counted : length accepted ≡ done + 1
  pub length' : s.length ≡ length m
  pub some : 1 ≤ length m
  pub within : length m ≤ limit
  pub acked-used : s.acked ≤ used
  pub used_high : used ≤ s.high
  pub acked-next : s.acked ≤ s.next
  pub next-high : s.next ≤ s.high
  pub high-all : s.high ≤ frames_of (length m)
  pub acked-all : s.acked < frames_of (length m)
  pub block-acked : block * size ≤ s.acked
  pub acked-block : s.acked < block * size + size
  pub high-block : s.high ≤ block * size + size
  -- while no Ack is awaited, the next frame lies in the block
  pub inside : s.wait ≡ 0 → s.next < block * size + size

abbrev pub Half : (limit : ℕ) (accepted : List (List ℕ)) (done size used block : ℕ) (m : List ℕ) (s : Sender) → Type 0
Half limit accepted done size used block m s = Idle accepted done used s ⊎ Busy limit accepted done size used block m s

abbrev pub Sending : (limit : ℕ) (h : History) (size used block : ℕ) (s : Sender) → Type 0
Sending limit h size used block s = Half limit h.accepted h.done size used block (current h) s

-- ---- the links

-- the frame is the one behind k others of the message m
pub record Carries (m : List ℕ) (size k : ℕ) (f : DataFrame) : Type 0 where
  pub asks : f.asks ≡ asks_at size (length m) k
  pub last : f.last ≡ last_at (length m) k
  pub bytes : f.bytes ≡ take 7 (drop (7 * k) (stream_of m))

-- the frame has the index i, below top, and at most 15 before what can be expected when it arrives;
-- if it belongs to the message from start on, it is the frame of its place
pub record Placed (start top : ℕ) (m : List ℕ) (size expected i : ℕ) (f : DataFrame) : Type 0 where
  pub number : f.number ≡ i % 16
  pub close : expected ≤ i + 15
  pub below : i < top
  pub carries : (k : ℕ) → i ≡ start + k → Carries m size k f

-- the data frames in the link, by their indices: each may be used, and then the next one is expected of those behind it
abbrev pub Forward : (start top : ℕ) (m : List ℕ) (size expected : ℕ) → List ℕ → List DataFrame → Type 0
Forward start top m size expected [] [] = Unit {0}
Forward start top m size expected [] (f ∷ fs) = ⊥
Forward start top m size expected (i ∷ is) [] = ⊥
Forward start top m size expected (i ∷ is) (f ∷ fs) =
    Placed start top m size expected i f × Forward start top m size (max expected (i + 1)) is fs

-- a number that shows an index between two others
pub record Shows (low high shown index : ℕ) : Type 0 where
  pub number : shown ≡ index % 16
  pub least : low ≤ index
  pub most : index ≤ high

-- the Acks in the link and the due one behind them: their indices do not decrease, from acknowledged up to used
abbrev pub Backward : (low high : ℕ) → AckDue → List AckFrame → Type 0
Backward low high due [] = due.due ≡ true → (j : ℕ) × Shows low high due.number j
Backward low high due (f ∷ fs) = (j : ℕ) × Shows low high f.number j × Backward j high due fs

-- ---- the receiving half

-- between two messages
pub record Between (at : Standing) : Type 0 where
  pub begun : at.begun.length ≡ 0
  pub discarding : at.discarding ≡ false

-- inside the message m, after some of its frames: the buffer's front is that of the message
pub record Inside (m : List ℕ) (used : ℕ) (at : Standing) (buffer : List ℕ) : Type 0 where
  pub begun : at.begun ≡ record { length = length m; flags = 0 }
  pub discarding : at.discarding ≡ false
  pub fill : at.fill ≡ 7 * used - 2
  pub least : 1 ≤ used
  pub most : used < frames_of (length m)
  pub front : take (7 * used - 2) buffer ≡ take (7 * used - 2) m

-- so many messages were complete, and all are handed out; none waits
pub record Out (count : ℕ) (handed_out : List ShownMessage) (waits : Message) : Type 0 where
  pub none : waits.length ≡ 0
  pub all : length handed_out ≡ count

-- so many messages were complete, and the last of them waits in the buffer
pub record Waits (count : ℕ) (accepted : List (List ℕ)) (handed_out : List ShownMessage) (waits : Message) (buffer : List ℕ) : Type 0 where
  pub some : 1 ≤ waits.length
  pub fits : waits.length ≤ length buffer
  pub all : length handed_out + 1 ≡ count
  pub front : shown_of waits buffer ≡ plain (get_or accepted (length handed_out) [])

abbrev pub Complete : (count : ℕ) (accepted : List (List ℕ)) (handed_out : List ShownMessage) (waits : Message) (buffer : List ℕ) → Type 0
Complete count accepted handed_out waits buffer = Out count handed_out waits ⊎ Waits count accepted handed_out waits buffer

-- nothing of the next message used: those complete are those done
pub record Begin (used done : ℕ) (accepted : List (List ℕ)) (handed_out : List ShownMessage) (at : Standing) (waits : Message) (buffer : List ℕ) : Type 0 where
  pub none : used ≡ 0
  pub between : Between at
  pub complete : Complete done accepted handed_out waits buffer

-- a part of the message m in sending used
pub record Part (used done : ℕ) (m : List ℕ) (handed_out : List ShownMessage) (at : Standing) (waits : Message) (buffer : List ℕ) : Type 0 where
  pub inside : Inside m used at buffer
  pub complete : Out done handed_out waits

-- all of the message m in sending used: one more is complete than done
pub record Whole (used done : ℕ) (m : List ℕ) (accepted : List (List ℕ)) (handed_out : List ShownMessage) (at : Standing) (waits : Message) (buffer : List ℕ) : Type 0 where
  pub counted : length accepted ≡ done + 1
  pub all : used ≡ frames_of (length m)
  pub between : Between at
  pub complete : Complete (done + 1) accepted handed_out waits buffer

abbrev pub Holds : (used done : ℕ) (m : List ℕ) (accepted : List (List ℕ)) (handed_out : List ShownMessage) (at : Standing) (waits : Message) (buffer : List ℕ) → Type 0
Holds used done m accepted handed_out at waits buffer =
    Begin used done accepted handed_out at waits buffer ⊎ (Part used done m handed_out at waits buffer ⊎ Whole used done m accepted handed_out at waits buffer)

abbrev pub Content : (used : ℕ) (h : History) (r : Receiver) (buffer : List ℕ) → Type 0
Content used h r buffer = Holds used h.done (current h) h.accepted h.handed_out r.at r.complete buffer

-- ---- all of it

pub record Invariant (limit room start used block : ℕ) (places : List ℕ) (d : Direction) : Type 0 where
  pub fair : Fair d.terms
  pub room' : length d.buffer ≡ room
  pub sending : Sending limit d.history d.terms.block used block d.sender
  pub oldest : d.sender.oldest ≡ (start + d.sender.acked) % 16
  pub expected : d.receiver.at.expected ≡ (start + used) % 16
  pub forward : Forward start (start + d.sender.high) (current d.history) d.terms.block (start + used) places d.frames
  pub backward : Backward (start + d.sender.acked) (start + used) d.receiver.ack d.acks
  pub content : Content used d.history d.receiver d.buffer
  pub in_order : d.history.handed_out ≡ map plain (take (length d.history.handed_out) d.history.accepted)
  -- the sending end is open exactly as long as it did not answer 8
  pub eight : d.live ≡ not d.history.eight

-- for some ghosts
abbrev pub Kept : (limit room : ℕ) (d : Direction) → Type 0
Kept limit room d = (start : ℕ) × (used : ℕ) × (block : ℕ) × (places : List ℕ) × Invariant limit room start used block places d
