-- What holds of one direction after every list of moves in which no wait runs out before its time and no data frame meets a message untaken: the second half of demand 3.
--
-- A wait then runs out only with both links empty and no Ack due, so a block's next try starts with empty links, or behind an Ack that came. What is
-- left of the tries before is then at most one data frame, the one with AR, which arrived and stayed, and Acks that show what is acknowledged already.
-- Neither can do anything: that frame is not the expected one, so it can only have the same number acknowledged again. Hence a block goes through two stages.
--     on its way   the frame with AR of the running try has not arrived. Behind what is left stand frames of this try alone, in their order. If the try
--                  lost none, they are all from a place on that the receiver has reached. Every Ack shows what is acknowledged already.
--     answered     it has arrived. It may have stayed; nothing else is in the link. Acks show what is acknowledged, and those behind them what is used. If
--                  the try lost nothing, all of the block is used, and an Ack that shows it is due or in the link.
-- So a wait that runs out, and an Ack short of the block's end, tell that the try lost a frame, and the repeats of a block are at most its tries that did.
use Prim.Native.Nat.{ℕ, suc, ◌+◌, ◌*◌, min, ◌%◌, ◌≤◌, ◌<◌}
use mathlib.Core.Bool.{Bool, true}
use mathlib.Core.List.{List, [], ◌∷◌}
use mathlib.Core.Logic.{◌⊎◌}
use mathlib.Core.Path.{◌≡◌}
use lib.Dec.{eqb}
use lib.ListN.{length, get_or}
use Rattle.telegram.specs.Cutting.{frames_of}
use Rattle.sender.specs.declared.Terms.{Terms}
use Rattle.receiver.specs.declared.AckDue.{AckDue}
use Rattle.delivery.specs.System.{Try}
use Rattle.delivery.specs.Claim.{frames_for}
use Rattle.delivery.proofs.Core.{DataFrame, AckFrame, Direction}
use Rattle.delivery.proofs.Invariant.{Fair}
use Rattle.delivery.proofs.Count.{Spared, losers}

-- ---- the data frames in the link

-- the frame behind i others of a message that starts at an index, of the try t, in a block that ends at a place; the block's last one asks
pub record Sends (start end : ℕ) (t : Try) (i : ℕ) (f : DataFrame) : Type 0 where
  pub number : f.number ≡ (start + i) % 16
  pub asks : f.asks ≡ eqb (i + 1) end
  pub try : f.try ≡ t

-- frames of one try in their order, from a place up to next; none is left out if the try was spared
pub data Row (start end : ℕ) (t : Try) (spared : Type 0) (next : ℕ) : ℕ → List DataFrame → Type 0 where
  over : {from : ℕ} → from ≤ next → (spared → from ≡ next) → Row start end t spared next from []
  frame : {from : ℕ} {f : DataFrame} {l : List DataFrame} (i : ℕ) → from ≤ i → i < next → (spared → i ≡ from) → Sends start end t i f
      → Row start end t spared next (i + 1) l → Row start end t spared next from (f ∷ l)

-- at most one frame, which is not the expected one, of the try t
pub data Leftover (expected : ℕ) (t : Try) : List DataFrame → Type 0 where
  none : Leftover expected t []
  one : {f : DataFrame} → (f.number ≡ expected → ⊥) → f.try ≡ t → Leftover expected t (f ∷ [])

-- the frames of the running try, alone or behind one that is left and is not the expected one; then nothing of the try has arrived
pub data Line (start end : ℕ) (t : Try) (spared : Type 0) (next from used acked expected : ℕ) : List DataFrame → Type 0 where
  alone : {l : List DataFrame} → Row start end t spared next from l → Line start end t spared next from used acked expected l
  behind : {f : DataFrame} {l : List DataFrame} → used ≡ acked → (f.number ≡ expected → ⊥) → Row start end t spared next from l
      → Line start end t spared next from used acked expected (f ∷ l)

-- ---- the Acks

-- an Ack that says ready, with the number
pub record Says (number : ℕ) (f : AckFrame) : Type 0 where
  pub ready : f.ready ≡ true
  pub number' : f.number ≡ number

-- an Ack of the try t
pub record Answers (number : ℕ) (t : Try) (f : AckFrame) : Type 0 where
  pub says : Says number f
  pub try : f.try ≡ t

pub data Each (P : AckFrame → Type 0) : List AckFrame → Type 0 where
  none : Each P []
  each : {f : AckFrame} {l : List AckFrame} → P f → Each P l → Each P (f ∷ l)

-- so many Acks that show an old number, and those of the try t that show a new one
pub data Rises (oldest expected : ℕ) (t : Try) : ℕ → List AckFrame → Type 0 where
  risen : {l : List AckFrame} → Each (Answers expected t) l → Rises oldest expected t 0 l
  rising : {n : ℕ} {f : AckFrame} {l : List AckFrame} → Says oldest f → Rises oldest expected t n l → Rises oldest expected t (suc n) (f ∷ l)

-- the Ack due, if any, says ready and shows the number
abbrev pub Due : (number : ℕ) → AckDue → Type 0
Due number a = a.due ≡ true → (a.ready ≡ true) × (a.number ≡ number)

-- ---- a block in sending

-- what the running block is told by
pub record Ghosts : Type 0 where
  -- the index of the message's first frame, and how many of its frames the receiver has used, as for the first half
  pub start : ℕ
  pub used : ℕ
  -- the place behind the block's last frame
  pub end : ℕ
  -- how many tries of the block came before this one
  pub repeats : ℕ
  -- the running try
  pub t : Try

-- the places of the sender and the receiver in the block
pub record Window (size total block end used acked next high : ℕ) : Type 0 where
  pub ends : end ≡ min (block * size + size) total
  pub base : block * size ≤ acked
  pub acked-end : acked < end
  pub acked-used : acked ≤ used
  pub used_high : used ≤ high
  pub acked-next : acked ≤ next
  pub next-high : next ≤ high
  pub high_end : high ≤ end

-- each repeat of the block is told by a try that lost a frame, and so are the frames handed over
pub record Tally (allowed base end repeats : ℕ) (t : Try) (count next : ℕ) (frames losses : List Try) : Type 0 where
  pub counts : count ≤ repeats
  pub losing : repeats ≤ losers t losses
  pub handed : frames_for t.message frames + repeats * base + base ≤ (allowed + 1) * base + repeats * end + next

-- the message in sending is the last one accepted
pub record Current (message length' : ℕ) (accepted : List (List ℕ)) (done : ℕ) : Type 0 where
  pub counted : length accepted ≡ done + 1
  pub message' : message ≡ done
  pub same : length' ≡ length (get_or accepted done [])
  pub some : 1 ≤ length'

pub record Block (terms : Terms) (g : Ghosts) (length' acked next high oldest count expected : ℕ)
    (accepted : List (List ℕ)) (done : ℕ) (frames losses : List Try) : Type 0 where
  pub current : Current g.t.message length' accepted done
  pub window : Window terms.block (frames_of length') g.t.block g.end g.used acked next high
  pub oldest' : oldest ≡ (g.start + acked) % 16
  pub expected' : expected ≡ (g.start + g.used) % 16
  pub tally : Tally terms.repeats (g.t.block * terms.block) g.end g.repeats g.t count next frames losses

-- the try goes on to its frame with AR
pub record Early (end turns : ℕ) (t : Try) (wait next : ℕ) : Type 0 where
  pub wait' : wait ≡ 0
  pub next' : next < end
  pub turn : t.turn ≡ turns

-- the frame with AR was handed over
pub record Over (end turns : ℕ) (t : Try) (wait next : ℕ) : Type 0 where
  pub wait' : 1 ≤ wait
  pub next' : next ≡ end
  pub turn : t.turn + 1 ≡ turns

-- the frame with AR was not handed over, or it is in the link unless the try lost a frame
pub data Pace (end from turns : ℕ) (t : Try) (wait next : ℕ) (losses : List Try) : Type 0 where
  sending : Early end turns t wait next → Pace end from turns t wait next losses
  awaiting : Over end turns t wait next → (Spared t losses → from < end) → Pace end from turns t wait next losses

-- the frame with AR has not arrived; from is the place from which on the frames of the try are in the link
pub record OnItsWay (g : Ghosts) (from acked next oldest wait expected : ℕ) (ack : AckDue) (link : List DataFrame) (acks : List AckFrame)
    (turns : ℕ) (losses : List Try) : Type 0 where
  pub least : acked ≤ from
  pub reached : from ≤ g.used
  pub pace : Pace g.end from turns g.t wait next losses
  pub link' : Line g.start g.end g.t (Spared g.t losses) next from g.used acked expected link
  pub acks' : Each (Says oldest) acks
  pub due : Due oldest ack

-- the frame with AR has arrived; old is how many Acks in the link show what is acknowledged already
pub record Answered (g : Ghosts) (old next oldest wait expected : ℕ) (ack : AckDue) (link : List DataFrame) (acks : List AckFrame)
    (turns : ℕ) (ack_try : Try) (losses : List Try) : Type 0 where
  pub over : Over g.end turns g.t wait next
  pub link' : Leftover expected g.t link
  pub acks' : Rises oldest expected g.t old acks
  pub due : Due expected ack
  pub asker : ack.due ≡ true → ack_try ≡ g.t
  pub whole : Spared g.t losses → (g.used ≡ g.end) × ((ack.due ≡ true) ⊎ (old < length acks))

-- ---- no message in sending

pub record Nothing (length' wait oldest expected : ℕ) (accepted : List (List ℕ)) (done : ℕ) (frames : List Try) : Type 0 where
  pub counted : length accepted ≡ done
  pub none' : length' ≡ 0
  pub wait' : wait ≡ 0
  pub oldest' : oldest ≡ expected
  pub small : expected < 16
  pub frames' : frames_for done frames ≡ 0

-- what the last try left
pub record Vacant (t : Try) (length' wait oldest expected : ℕ) (ack : AckDue) (link : List DataFrame) (acks : List AckFrame)
    (accepted : List (List ℕ)) (done : ℕ) (frames : List Try) : Type 0 where
  pub nothing : Nothing length' wait oldest expected accepted done frames
  pub link' : Leftover expected t link
  pub acks' : Each (Says expected) acks
  pub due : Due expected ack

-- ---- all of it

-- the stages of a direction
abbrev pub VacantOf : Try → Direction → Type 0
VacantOf t d =
    Vacant t d.sender.length d.sender.wait d.sender.oldest d.receiver.at.expected d.receiver.ack d.frames d.acks
    d.history.accepted d.history.done d.history.frames

abbrev pub BlockOf : Ghosts → Direction → Type 0
BlockOf g d =
    Block d.terms g d.sender.length d.sender.acked d.sender.next d.sender.high d.sender.oldest d.sender.count
    d.receiver.at.expected d.history.accepted d.history.done d.history.frames d.history.losses

abbrev pub OverOf : Ghosts → Direction → Type 0
OverOf g d = Over g.end d.history.turns g.t d.sender.wait d.sender.next

abbrev pub PaceOf : (g : Ghosts) (from : ℕ) → Direction → Type 0
PaceOf g from d = Pace g.end from d.history.turns g.t d.sender.wait d.sender.next d.history.losses

abbrev pub LineOf : (g : Ghosts) (from : ℕ) → Direction → List DataFrame → Type 0
LineOf g from d =
    Line g.start g.end g.t (Spared g.t d.history.losses) d.sender.next from g.used d.sender.acked d.receiver.at.expected

abbrev pub OnItsWayOf : (g : Ghosts) (from : ℕ) → Direction → Type 0
OnItsWayOf g from d =
    OnItsWay g from d.sender.acked d.sender.next d.sender.oldest d.sender.wait d.receiver.at.expected
    d.receiver.ack d.frames d.acks d.history.turns d.history.losses

abbrev pub AnsweredOf : (g : Ghosts) (old : ℕ) → Direction → Type 0
AnsweredOf g old d =
    Answered g old d.sender.next d.sender.oldest d.sender.wait d.receiver.at.expected
    d.receiver.ack d.frames d.acks d.history.turns d.history.ack_try d.history.losses

-- the stage that a direction is in
pub data Stage (d : Direction) : Type 0 where
  vacant : (t : Try) → VacantOf t d → Stage d
  on_its_way : (g : Ghosts) (from : ℕ) → BlockOf g d → OnItsWayOf g from d → Stage d
  answered : (g : Ghosts) (old : ℕ) → BlockOf g d → AnsweredOf g old d → Stage d

-- the same stage, of a direction of which the same is said
pub stage-as : {d d' : Direction} → ((t : Try) → VacantOf t d → VacantOf t d') → ((g : Ghosts) → BlockOf g d → BlockOf g d')
    → ((g : Ghosts) (from : ℕ) → OnItsWayOf g from d → OnItsWayOf g from d') → ((g : Ghosts) (old : ℕ) → AnsweredOf g old d → AnsweredOf g old d')
    → Stage d → Stage d'
stage-as q b o a (vacant t x) = vacant t (q t x)
stage-as q b o a (on_its_way g from x y) = on_its_way g from (b g x) (o g from y)
stage-as q b o a (answered g old x y) = answered g old (b g x) (a g old y)

-- the bound of each message done; nothing of those behind the one in sending
pub record Bounded (allowed : ℕ) (accepted : List (List ℕ)) (done : ℕ) (frames : List Try) : Type 0 where
  pub before : (i : ℕ) → i < done → frames_for i frames ≤ (allowed + 1) * frames_of (length (get_or accepted i []))
  pub after : (i : ℕ) → done < i → frames_for i frames ≡ 0

-- both ends are open on the same terms, and no hold arises
pub record Steady (terms terms' : Terms) (live listens : Bool) (hold : ℕ) : Type 0 where
  pub same : terms' ≡ terms
  pub fair : Fair terms'
  pub live' : live ≡ true
  pub listens' : listens ≡ true
  pub hold' : hold ≡ 0

pub record Tried (terms : Terms) (d : Direction) : Type 0 where
  pub steady : Steady terms d.terms d.live d.listens d.sender.hold
  -- the buffer holds the message begun
  pub room : d.receiver.at.begun.length ≤ length d.buffer
  pub bounded : Bounded d.terms.repeats d.history.accepted d.history.done d.history.frames
  pub stage : Stage d
