-- What one side sends: messages, cut one after the other.
use Rattle.std.specs.Prelude.{ℕ, ◌+◌, ◌%◌, ◌≤◌, ◌<◌, List, [], ◌∷◌, ◌++◌, length}
use Rattle.telegram.specs.Cutting.{frames_of, cutting}

-- a message, and the block size that it is cut for
pub record Sent : Type 0 where
  pub message : List ℕ
  pub block : ℕ

-- how many frames carry it
abbrev pub count : Sent → ℕ
count m = frames_of (length m.message)

-- the published cuttings of messages, one behind the other, the numbers counting on
unfoldable pub cuttings : (number : ℕ) → List Sent → List (List ℕ)
cuttings number [] = []
cuttings number (m ∷ ms) = (let frames = cutting m.message m.block number in frames ++ cuttings ((number + length frames) % 16) ms)

-- a message of 1 byte up to limit and room
pub record Fits (limit room : ℕ) (m : Sent) : Type 0 where
  pub some : 0 < length m.message
  pub within : length m.message ≤ limit
  pub roomy : length m.message ≤ room

-- all of them
pub data AllFit (limit room : ℕ) : List Sent → Type 0 where
  none : AllFit limit room []
  more : {m : Sent} {ms : List Sent} → Fits limit room m → AllFit limit room ms → AllFit limit room (m ∷ ms)
