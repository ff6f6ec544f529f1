-- Lists of data frames, told by their bytes, with a break between them.
use Rattle.std.specs.Prelude.{ℕ, ◌+◌, ◌%◌, ◌<◌, ◌≤◌, Bool, true, false, ◌≡◌, List, [], ◌∷◌, length, drop, get_or, if◌then◌else◌}
use Rattle.telegram.specs.Kinds.{sorted}
use Rattle.receiver.specs.declared.Receipt.{Receipt}
use Rattle.receiver.specs.declared.Receipt.TheVariants.{Used, Complete, ThrownAway, OutOfPlace, Untaken, ShortFirst, ShortLater, Broken, NoData}
use Rattle.receiver.specs.Receiving.{returned}
use Rattle.reading.specs.Reading.{Reading, arrives}

-- a break arrives: the receiver returns, and the buffer stays
abbrev pub breaks : Reading → Reading
breaks h = record { receiver = returned h.receiver; buffer = h.buffer; note = h.note }

-- what became of each of the telegrams
unfoldable pub notes : (limit : ℕ) → Reading → List (List ℕ) → List Receipt
notes limit h [] = []
notes limit h (s ∷ rest) = (arrives limit h (sorted s).kind (drop 1 s)).note ∷ notes limit (arrives limit h (sorted s).kind (drop 1 s)) rest

-- a data frame: 2 to 8 bytes, of which the first is 00, AR (0 asks for an Ack), EOM, number
pub record Frame (asks last : Bool) (number : ℕ) (s : List ℕ) : Type 0 where
  pub head : get_or s 0 0 ≡ (if asks then 0x00 else 0x20) + (if last then 0x10 else 0x00) + number
  pub small : number < 16
  pub two : 2 ≤ length s
  pub eight : length s ≤ 8

-- one with neither AR nor EOM
pub record Inner (s : List ℕ) : Type 0 where
  pub from : 0x20 ≤ get_or s 0 0
  pub to : get_or s 0 0 ≤ 0x2F
  pub two : 2 ≤ length s
  pub eight : length s ≤ 8

-- all of a list
pub data Every (P : List ℕ → Type 0) : List (List ℕ) → Type 0 where
  no_more : Every P []
  and-more : {s : List ℕ} {rest : List (List ℕ)} → P s → Every P rest → Every P (s ∷ rest)

-- frames numbered one after the other from a number on, of which the last has EOM, and no other
pub data UpToEnd : (number : ℕ) → List (List ℕ) → Type 0 where
  the_end : {asks : Bool} {number : ℕ} {s : List ℕ} → Frame asks true number s → UpToEnd number (s ∷ [])
  before : {asks : Bool} {number : ℕ} {s : List ℕ} {rest : List (List ℕ)} → Frame asks false number s → UpToEnd ((number + 1) % 16) rest → UpToEnd number (s ∷ rest)

-- 9, or 7 on a first frame: the message is given up
abbrev pub GivenUp : Receipt → Type 0
GivenUp (Broken c) = Unit {0}
GivenUp ShortFirst = Unit {0}
GivenUp Used = ⊥
GivenUp Complete = ⊥
GivenUp ThrownAway = ⊥
GivenUp (OutOfPlace e) = ⊥
GivenUp Untaken = ⊥
GivenUp ShortLater = ⊥
GivenUp NoData = ⊥
