-- 01, "Cutting", sentence by sentence, as facts about the list of frames that `cutting` gives; `published` of proofs/Cut.antt proves them.
use Rattle.std.specs.Prelude.{ℕ, ◌+◌, ◌%◌, ◌≤◌, ◌<◌, false, ◌≡◌, length, drop, get_or}
use mathlib.Core.List.{List, [], map, flatten}
use Rattle.telegram.specs.Outgoing.{bytes_of}
use Rattle.telegram.specs.Kinds.{sorted}
use Rattle.telegram.specs.Cutting.{declared_of, stream_of, frames_of, last_at, asks_at, frame_at, cutting}
use Rattle.telegram.specs.declared.kinds.Telegram.TheVariants.{Data}

-- what 01 says of the message m, cut for a block size, with the number of its first frame
pub record Published (m : List ℕ) (block first : ℕ) : Type 0 where
  -- "Two length bytes, high first": they declare the message's length, and flags 0 (02, 1)
  pub declares : declared_of (get_or (stream_of m) 0 0) (get_or (stream_of m) 1 0) ≡ record { length = length m; flags = 0 }
  -- "then the message": nothing else stands behind them
  pub carries : drop 2 (stream_of m) ≡ m
  -- "cut": the frames without their first bytes, joined, are those bytes, each once and in order
  pub joined : flatten (map (drop 1) (cutting m block first)) ≡ stream_of m
  -- "5 bytes make one frame, 6 two": one for each seven of these bytes, begun or full
  pub count : length (cutting m block first) ≡ frames_of (length m)
  -- "in sevens": every frame but the last has its first byte and seven
  pub full : (k : ℕ) → k + 1 < frames_of (length m) → length (get_or (cutting m block first) k []) ≡ 8
  -- "the last frame may be shorter": each has its first byte and one to seven
  pub size : (k : ℕ) → k < frames_of (length m) → (2 ≤ length (get_or (cutting m block first) k [])) × (length (get_or (cutting m block first) k []) ≤ 8)
  -- "Receiving" counts a first frame of 2 bytes as broken: this one has the length bytes and a byte of the message at least
  pub begins : 4 ≤ length (get_or (cutting m block first) 0 [])
  -- "Frame number counts on modulo 16", "EOM on the last", "AR on every frame whose place in the message (from 1) is a multiple of the block size, and on the last"; none is padded, at 8 bytes neither (02, 4)
  pub kinds : (k : ℕ) → k < frames_of (length m) → sorted (get_or (cutting m block first) k []) ≡ record { kind = Data (asks_at block (length m) k) (last_at (length m) k) ((first + k) % 16); padded = false }
  -- "A repeated frame has the same bytes as at first": each is `frame_at` of its place, which the code gives at every call
  pub frames : (k : ℕ) → k < frames_of (length m) → get_or (cutting m block first) k [] ≡ bytes_of (frame_at m block first k)
