-- An end of a connection, for the lists of calls of demand 3 and request 14: any state, and what its calls tell and leave.
-- The control unit's side, a place of a table or another profile can be ends of this kind too.
use Rattle.std.specs.Prelude.{ℕ, Bool, List}
use Rattle.telegram.specs.declared.cutting.Message.{Message}
use Rattle.channel.specs.declared.Channel.{Channel}

-- ---- what a call tells

-- the number of the answer, whether it reports a message done, and the state left
pub record Told (State : Type 0) : Type 0 where
  pub number : ℕ
  pub done : Bool
  pub state : State

-- of a take: the number, and the message shown: its length, at the front of the lent buffer, and its flags
pub record Taken (State : Type 0) : Type 0 where
  pub number : ℕ
  pub message : Message
  pub state : State

-- of a call for what is due: whether a frame is handed over, its CAN ID and its bytes
pub record Given (State : Type 0) : Type 0 where
  pub given : Bool
  pub id : ℕ
  pub bytes : List ℕ
  pub state : State

-- ---- an end

-- its states, its calls by what they tell, and what is said of a state
pub record End : Type 1 where
  pub State : Type 0
  -- a message of so many bytes is offered
  pub send : State → (length : ℕ) → Told State
  -- lent a buffer of so many bytes
  pub take : State → (room : ℕ) → Taken State
  -- so many tenths have passed
  pub time : State → ℕ → Told State
  -- what is due, lent a message
  pub due : State → List ℕ → Given State
  -- a frame arrives, lent a buffer of so many bytes
  pub arrive : State → (id : ℕ) → (bytes : List ℕ) → (room : ℕ) → Told State
  -- the lent buffer after it
  pub buffered : State → (id : ℕ) → (bytes buffer : List ℕ) → List ℕ
  -- no call uses these; what is assumed and noted speaks of them: whether the end is open, its channel, its two CAN IDs
  pub open' : State → Bool
  pub channel : State → Channel
  pub receives : State → ℕ
  pub transmits : State → ℕ
