-- Worked values: one frame of every kind, and the buffer behind it, in numbers.
use Prim.Native.Nat.{ℕ}
use mathlib.Core.Bool.{true, false}
use mathlib.Core.Path.{◌≡◌, refl}
use mathlib.Core.List.{List, [], ◌∷◌}
use Rattle.receiver.specs.Receiving.{settled, numbered, filled, on_first, on_later, on_data, copied, buffered}
use Rattle.receiver.specs.declared.Standing.{Standing}
use Rattle.receiver.specs.declared.AckDue.{AckDue}
use Rattle.receiver.specs.declared.Receiver.{Receiver}
use Rattle.receiver.specs.declared.Cause.TheVariants.{TooShort, BadLength, TooMany, NoEnd, EarlyEnd}
use Rattle.receiver.specs.declared.Receipt.{Receipt}
use Rattle.receiver.specs.declared.Receipt.TheVariants.{Used, Complete, ThrownAway, OutOfPlace, Untaken, ShortFirst, ShortLater, Broken, NoData}
use Rattle.receiver.specs.declared.Received.{Received}

-- a number is expected, and fill bytes of a message of length bytes are there
abbrev within : (expected length fill : ℕ) → Standing
within expected length fill = record { expected = expected; discarding = false; begun = record { length = length; flags = 0 }; fill = fill }

-- all up to the next EOM is thrown away
abbrev throwing : ℕ → Standing
throwing expected = record { expected = expected; discarding = true; begun = record { length = 0; flags = 0 }; fill = 0 }

abbrev owed : ℕ → AckDue
owed number = record { due = true; ready = true; number = number }

-- an Ack that became due earlier, and was not handed over
abbrev older : AckDue
older = record { due = true; ready = false; number = 2 }

-- what is answered, and a receiver: where it stands, where a break returns to, the length of a complete message, the Ack
abbrev said : Receipt → (at back : Standing) → (complete : ℕ) → AckDue → Received
said note at back complete ack = record { note = note; receiver = record { at = at; back = back; complete = record { length = complete; flags = 0 }; ack = ack } }

-- it expects 5, and a break returns to 2
abbrev from5 : (at : Standing) → (complete : ℕ) → Receiver
from5 at complete = record { at = at; back = within 2 0 0; complete = record { length = complete; flags = 0 }; ack = older }

-- frames that are not used, with AR: out of place, while one waits, while a message is thrown away, the buffer too short on a later frame
pub unused-worked : on_data 1024 (from5 (within 5 9 3) 0) true true 6 (7 ∷ []) 9 ∷ on_data 1024 (from5 (within 5 0 0) 4) true true 5 (7 ∷ []) 9
    ∷ on_data 1024 (from5 (throwing 5) 0) true false 5 (7 ∷ []) 0 ∷ on_data 1024 (from5 (within 5 9 3) 0) true true 5 (7 ∷ []) 8 ∷ []
    ≡ said (OutOfPlace 5) (within 5 9 3) (within 5 9 3) 0 (owed 5) ∷ said Untaken (within 5 0 0) (within 5 0 0) 4 (record { due = true; ready = false; number = 5 })
    ∷ said ThrownAway (throwing 6) (throwing 6) 0 (owed 6) ∷ said ShortLater (within 5 9 3) (within 2 0 0) 0 older ∷ []
unfolding on_data on_first on_later filled numbered settled
unused-worked = refl

-- frames that break a message, without AR: two bytes, declared length 0, bytes beyond it, no EOM; with EOM too few; and a first frame that the buffer is too short for
pub broken-worked : on_data 1024 (from5 (within 5 0 0) 0) false false 5 (4 ∷ []) 9 ∷ on_data 1024 (from5 (within 5 0 0) 0) false false 5 (0 ∷ 0 ∷ 7 ∷ []) 9
    ∷ on_data 1024 (from5 (within 5 3 3) 0) false false 5 (7 ∷ []) 9 ∷ on_data 1024 (from5 (within 5 4 3) 0) false false 5 (7 ∷ []) 9
    ∷ on_data 1024 (from5 (within 5 9 3) 0) false true 5 (7 ∷ []) 9 ∷ on_data 1024 (from5 (within 5 0 0) 0) false false 5 (0 ∷ 9 ∷ 7 ∷ []) 8 ∷ []
    ≡ said (Broken TooShort) (throwing 6) (within 2 0 0) 0 older ∷ said (Broken BadLength) (throwing 6) (within 2 0 0) 0 older
    ∷ said (Broken TooMany) (throwing 6) (within 2 0 0) 0 older ∷ said (Broken NoEnd) (throwing 6) (within 2 0 0) 0 older
    ∷ said (Broken EarlyEnd) (within 6 0 0) (within 6 0 0) 0 older ∷ said ShortFirst (throwing 6) (within 2 0 0) 0 older ∷ []
unfolding on_data on_first on_later filled numbered settled
broken-worked = refl

-- frames that are used: a first one, a later one with AR, the last one
pub used-worked : on_data 1024 (from5 (within 5 0 0) 0) false false 5 (0 ∷ 9 ∷ 7 ∷ 8 ∷ []) 9 ∷ on_data 1024 (from5 (within 5 9 3) 0) true false 5 (7 ∷ []) 9
    ∷ on_data 1024 (from5 (within 5 4 3) 0) false true 5 (7 ∷ []) 4 ∷ []
    ≡ said Used (within 6 9 2) (within 2 0 0) 0 older ∷ said Used (within 6 9 4) (within 6 9 4) 0 (owed 6) ∷ said Complete (within 6 0 0) (within 6 0 0) 4 older ∷ []
unfolding on_data on_first on_later filled numbered settled
used-worked = refl

-- the buffer 1 2 3 4 5 behind a frame with the bytes 0 9 7 8 behind its first one: a first one, and a later one behind a byte
abbrev behind : (at : Standing) → Receipt → List ℕ
behind at note = buffered (from5 at 0) note (0 ∷ 9 ∷ 7 ∷ 8 ∷ []) (1 ∷ 2 ∷ 3 ∷ 4 ∷ 5 ∷ [])

pub written-worked : behind (within 5 0 3) Used ∷ behind (within 5 0 3) Complete ∷ behind (within 5 9 1) Used ∷ behind (within 5 9 0) Complete ∷ []
    ≡ (7 ∷ 8 ∷ 3 ∷ 4 ∷ 5 ∷ []) ∷ (7 ∷ 8 ∷ 3 ∷ 4 ∷ 5 ∷ []) ∷ (1 ∷ 0 ∷ 9 ∷ 7 ∷ 8 ∷ []) ∷ (0 ∷ 9 ∷ 7 ∷ 8 ∷ 5 ∷ []) ∷ []
unfolding buffered copied
written-worked = refl

-- a refusal never writes
pub unwritten-worked : behind (within 5 9 1) ThrownAway ∷ behind (within 5 9 1) (OutOfPlace 5) ∷ behind (within 5 9 1) Untaken ∷ behind (within 5 9 1) ShortFirst
    ∷ behind (within 5 9 1) ShortLater ∷ behind (within 5 9 1) (Broken NoEnd) ∷ behind (within 5 9 1) NoData ∷ []
    ≡ (1 ∷ 2 ∷ 3 ∷ 4 ∷ 5 ∷ []) ∷ (1 ∷ 2 ∷ 3 ∷ 4 ∷ 5 ∷ []) ∷ (1 ∷ 2 ∷ 3 ∷ 4 ∷ 5 ∷ []) ∷ (1 ∷ 2 ∷ 3 ∷ 4 ∷ 5 ∷ []) ∷ (1 ∷ 2 ∷ 3 ∷ 4 ∷ 5 ∷ [])
    ∷ (1 ∷ 2 ∷ 3 ∷ 4 ∷ 5 ∷ []) ∷ (1 ∷ 2 ∷ 3 ∷ 4 ∷ 5 ∷ []) ∷ []
unfolding buffered copied
unwritten-worked = refl
