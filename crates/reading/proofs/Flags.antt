-- Short lists of frames with flags, told by their bytes: what waits after each, and in the buffer.
use Prim.Native.Nat.{ℕ}
use mathlib.Core.Path.{◌≡◌, refl}
use mathlib.Core.List.{List, [], ◌∷◌}
use lib.ListN.{length, take, replicate}
use Rattle.telegram.specs.Kinds.{kind_of}
use Rattle.telegram.specs.declared.cutting.Message.{Message}
use Rattle.receiver.specs.declared.Receipt.TheVariants.{Complete, Broken, NoData}
use Rattle.receiver.specs.declared.Cause.TheVariants.{BadLength, EarlyEnd}
use Rattle.receiver.specs.Receiving.{fresh, settled, numbered, filled, on_first, on_later, on_data, received, copied, buffered, took}
use Rattle.reading.specs.Reading.{Reading, arrives, reads}
use Rattle.reading.specs.Lists.{breaks, notes}

-- a fresh receiver, and a buffer of 16 bytes
abbrev start : Reading
start = record { receiver = fresh; buffer = replicate 16 0; note = NoData }

-- what waits, with the front of the buffer
abbrev held : Reading → Message × List ℕ
held h = (h.receiver.complete, take h.receiver.complete.length h.buffer)

-- the message is taken
abbrev taken : Reading → Reading
taken h = record { receiver = (took h.receiver (length h.buffer)).receiver; buffer = h.buffer; note = h.note }

abbrev message : (length flags : ℕ) → Message
message length flags = record { length = length; flags = flags }

-- "Engine units send 0x80 in the first length byte when they answer with code 0x78"
abbrev pending : List ℕ
pending = 0x10 ∷ 0x80 ∷ 0x03 ∷ 0x7F ∷ 0x21 ∷ 0x78 ∷ []

pub pending-read : held (reads 1024 start (pending ∷ [])) ≡ (message 3 8, 0x7F ∷ 0x21 ∷ 0x78 ∷ [])
unfolding kind_of on_data on_first on_later filled numbered settled received copied buffered arrives reads
pending-read = refl

-- all four
pub all-flags : held (reads 1024 start ((0x10 ∷ 0xF0 ∷ 0x01 ∷ 0x55 ∷ []) ∷ [])) ≡ (message 1 15, 0x55 ∷ [])
unfolding kind_of on_data on_first on_later filled numbered settled received copied buffered arrives reads
all-flags = refl

-- and then a message with none: flags are a message's own
pub own-flags : held (reads 1024 (taken (reads 1024 start ((0x10 ∷ 0xF0 ∷ 0x01 ∷ 0x55 ∷ []) ∷ []))) ((0x11 ∷ 0x00 ∷ 0x01 ∷ 0x66 ∷ []) ∷ [])) ≡ (message 1 0, 0x66 ∷ [])
unfolding kind_of on_data on_first on_later filled numbered settled received copied buffered took arrives reads
own-flags = refl

-- "Lengths 0 and 1,025 to 4,095 stay answer 9", with flags or without
pub lengths-broken : notes 1024 start
    ((0x10 ∷ 0x80 ∷ 0x00 ∷ []) ∷ (0x11 ∷ 0x84 ∷ 0x01 ∷ []) ∷ (0x12 ∷ 0x8F ∷ 0xFF ∷ []) ∷ (0x13 ∷ 0x0F ∷ 0xFF ∷ []) ∷ (0x14 ∷ 0x90 ∷ 0x02 ∷ 0x55 ∷ []) ∷ (0x15 ∷ 0x00 ∷ 0x01 ∷ 0x66 ∷ []) ∷ [])
    ≡ Broken BadLength ∷ Broken BadLength ∷ Broken BadLength ∷ Broken BadLength ∷ Broken EarlyEnd ∷ Complete ∷ []
unfolding kind_of on_data on_first on_later filled numbered settled received copied buffered arrives notes
lengths-broken = refl

-- a message broken at its EOM leaves no flags to the next
pub broken-forgotten : held (reads 1024 start ((0x10 ∷ 0x90 ∷ 0x02 ∷ 0x55 ∷ []) ∷ (0x11 ∷ 0x00 ∷ 0x01 ∷ 0x66 ∷ []) ∷ [])) ≡ (message 1 0, 0x66 ∷ [])
unfolding kind_of on_data on_first on_later filled numbered settled received copied buffered arrives reads
broken-forgotten = refl

-- a message of 13 bytes with flags A in three frames; its first asks for an Ack or not
abbrev first : (head high : ℕ) → List ℕ
first head high = head ∷ high ∷ 0x0D ∷ 1 ∷ 2 ∷ 3 ∷ 4 ∷ 5 ∷ []

abbrev second : List ℕ
second = 0x21 ∷ 6 ∷ 7 ∷ 8 ∷ 9 ∷ 10 ∷ 11 ∷ 12 ∷ []

abbrev third : List ℕ
third = 0x12 ∷ 13 ∷ []

abbrev thirteen : List ℕ
thirteen = 1 ∷ 2 ∷ 3 ∷ 4 ∷ 5 ∷ 6 ∷ 7 ∷ 8 ∷ 9 ∷ 10 ∷ 11 ∷ 12 ∷ 13 ∷ []

-- a break that returns into the message restores its flags
pub break-restores : held (reads 1024 (breaks (reads 1024 start (first 0x00 0xA0 ∷ second ∷ []))) (second ∷ third ∷ [])) ≡ (message 13 10, thirteen)
unfolding kind_of on_data on_first on_later filled numbered settled received copied buffered arrives reads
break-restores = refl

-- so it does where the message was broken behind that place: of 6 bytes, with one too many
pub broken-restored : held (reads 1024 (breaks (reads 1024 start ((0x00 ∷ 0xA0 ∷ 0x06 ∷ 1 ∷ 2 ∷ 3 ∷ 4 ∷ 5 ∷ []) ∷ (0x21 ∷ 6 ∷ 7 ∷ []) ∷ []))) ((0x11 ∷ 6 ∷ []) ∷ []))
    ≡ (message 6 10, 1 ∷ 2 ∷ 3 ∷ 4 ∷ 5 ∷ 6 ∷ [])
unfolding kind_of on_data on_first on_later filled numbered settled received copied buffered arrives reads
broken-restored = refl

-- one that returns to before the message takes them back with it: sent again with none it has none
pub break-undoes : held (reads 1024 (breaks (reads 1024 start (first 0x20 0xA0 ∷ second ∷ []))) (first 0x20 0x00 ∷ second ∷ third ∷ [])) ≡ (message 13 0, thirteen)
unfolding kind_of on_data on_first on_later filled numbered settled received copied buffered arrives reads
break-undoes = refl
