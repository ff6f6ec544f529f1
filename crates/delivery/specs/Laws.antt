-- What an end owes, so that demand 3 and request 14 hold of it: call by call it tells what a bare channel tells.
-- Tied relates a state of the end, with its receive and its transmit ID, to such a channel; it is a relation and no view, since an end that answered 8 may forget its channel.
use Rattle.std.specs.Prelude.{ℕ, ◌≤◌, true, ◌≡◌, List}
use Rattle.telegram.specs.Kinds.{sorted}
use Rattle.telegram.specs.declared.kinds.Telegram.{Telegram}
use Rattle.telegram.specs.declared.kinds.Telegram.TheVariants.{Data, Ack, Test, Break, Disconnect, Setup, Accept, Malformed}
use Rattle.delivery.specs.End.{Told, Taken, Given, End}
use Rattle.delivery.specs.Line.{Line, line_send, line_take, line_time, line_due, line_arrive, line_buffered}
use Rattle.delivery.specs.System.{Party}
use Rattle.delivery.specs.Claim.{channel_of, FreshEnd}

-- the same told, and states that are tied
pub record Tells {State : Type 0} (R : State → Line → Type 0) (r : Told State) (l : Told Line) : Type 0 where
  pub number : r.number ≡ l.number
  pub done : r.done ≡ l.done
  pub tied : R r.state l.state

-- the same of a take
pub record Shows {State : Type 0} (R : State → Line → Type 0) (r : Taken State) (l : Taken Line) : Type 0 where
  pub number : r.number ≡ l.number
  pub message : r.message ≡ l.message
  pub tied : R r.state l.state

-- the same of what is due: a frame has the end's transmit ID, and is of a kind that the links carry
pub record Hands {State : Type 0} (carried : Telegram → Type 0) (transmit : ℕ) (R : State → Line → Type 0) (r : Given State) (l : Given Line) : Type 0 where
  pub given : r.given ≡ l.given
  pub id : r.given ≡ true → r.id ≡ transmit
  pub bytes : r.given ≡ true → r.bytes ≡ l.bytes
  pub kind : r.given ≡ true → carried (sorted r.bytes).kind
  pub tied : R r.state l.state

-- the kinds that two ends of TP 2.0 hand over here: with no break, close or new set-up neither sends another
abbrev pub Carried : Telegram → Type 0
Carried (Data asks last number) = Unit {0}
Carried (Ack ready number) = Unit {0}
Carried Test = Unit {0}
Carried (Accept p) = Unit {0}
Carried Break = ⊥
Carried Disconnect = ⊥
Carried (Setup p) = ⊥
Carried Malformed = ⊥

-- the laws of an end
pub record Lawful (limit : ℕ) (carried : Telegram → Type 0) (E : End) (Tied : (receive transmit : ℕ) → E.State → Line → Type 0) : Type 0 where
  -- the links carry no other kinds than those
  pub kinds : {k : Telegram} → carried k → Carried k
  -- a fresh end is tied to its channel
  pub begins : (p : Party E) → FreshEnd p → Tied (E.receives p.state) (E.transmits p.state) p.state (record { channel = channel_of p; live = true })
  -- tied, it is open exactly while that line is live
  pub opens : {r t : ℕ} {x : E.State} {l : Line} → Tied r t x l → E.open' x ≡ l.live
  -- and while it is open, its channel is that one
  pub views : {r t : ℕ} {x : E.State} {l : Line} → Tied r t x l → l.live ≡ true → E.channel x ≡ l.channel
  -- call by call
  pub sends : {r t : ℕ} {x : E.State} {l : Line} → Tied r t x l → (n : ℕ) → Tells (Tied r t) (E.send x n) (line_send limit l n)
  pub takes : {r t : ℕ} {x : E.State} {l : Line} → Tied r t x l → (room : ℕ) → Shows (Tied r t) (E.take x room) (line_take l room)
  pub times : {r t : ℕ} {x : E.State} {l : Line} → Tied r t x l → (n : ℕ) → Tells (Tied r t) (E.time x n) (line_time l n)
  pub hands : {r t : ℕ} {x : E.State} {l : Line} → Tied r t x l → (m : List ℕ) → Hands carried t (Tied r t) (E.due x m) (line_due l m)
  pub arrives : {r t : ℕ} {x : E.State} {l : Line} → Tied r t x l → (bytes : List ℕ) → carried (sorted bytes).kind → (room : ℕ)
      → Tells (Tied r t) (E.arrive x r bytes room) (line_arrive limit l bytes room)
  pub buffers : {r t : ℕ} {x : E.State} {l : Line} → Tied r t x l → (bytes : List ℕ) → carried (sorted bytes).kind → (buffer : List ℕ)
      → E.buffered x r bytes buffer ≡ line_buffered limit l bytes buffer

-- two lawful ends whose links carry the same kinds, and a limit on lengths that twelve bits can tell
pub record TwoEnds : Type 1 where
  pub limit : ℕ
  pub small : limit ≤ 4095
  pub carried : Telegram → Type 0
  pub near : End
  pub far : End
  pub NearTied : (receive transmit : ℕ) → near.State → Line → Type 0
  pub FarTied : (receive transmit : ℕ) → far.State → Line → Type 0
  pub near_laws : Lawful limit carried near NearTied
  pub far_laws : Lawful limit carried far FarTied
