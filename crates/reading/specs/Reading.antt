-- Demand 2: reading back the cutting of a message gives the message.
use Rattle.std.specs.Prelude.{ℕ, ◌+◌, ◌%◌, false, ◌≡◌, List, [], ◌∷◌, ◌++◌, length, drop}
use Rattle.telegram.specs.Kinds.{sorted}
use Rattle.telegram.specs.Cutting.{none, frames_of}
use Rattle.telegram.specs.declared.kinds.Telegram.{Telegram}
use Rattle.receiver.specs.declared.Receiver.{Receiver}
use Rattle.receiver.specs.declared.Received.{Received}
use Rattle.receiver.specs.declared.Receipt.{Receipt}
use Rattle.receiver.specs.declared.Receipt.TheVariants.{Complete}
use Rattle.receiver.specs.Receiving.{received, buffered}

-- a receiver, the buffer that is lent to it, and what became of the last telegram
pub record Reading : Type 0 where
  pub receiver : Receiver
  pub buffer : List ℕ
  pub note : Receipt

-- what an answer leaves, to a telegram with the bytes p behind its first one
abbrev pub after : Reading → (p : List ℕ) → Received → Reading
after h p x = record { receiver = x.receiver; buffer = buffered h.receiver x.note p h.buffer; note = x.note }

-- a sorted telegram arrives
unfoldable pub arrives : (limit : ℕ) → Reading → Telegram → (p : List ℕ) → Reading
arrives limit h t p = after h p (received limit h.receiver t p (length h.buffer))

-- telegrams arrive one after the other
unfoldable pub reads : (limit : ℕ) → Reading → List (List ℕ) → Reading
reads limit h [] = h
reads limit h (s ∷ rest) = reads limit (arrives limit h (sorted s).kind (drop 1 s)) rest

-- nothing is begun, thrown away or waiting, and a number is expected
pub record Idle (number : ℕ) (r : Receiver) : Type 0 where
  pub expected : r.at.expected ≡ number
  pub discarding : r.at.discarding ≡ false
  pub begun : r.at.begun.length ≡ 0
  pub complete : r.complete.length ≡ 0

-- a message was read whole, with its flags, from a number and into a buffer
pub record Read (m : List ℕ) (flags number : ℕ) (b : List ℕ) (h : Reading) : Type 0 where
  pub note : h.note ≡ Complete
  pub complete : h.receiver.complete ≡ record { length = length m; flags = flags }
  pub expected : h.receiver.at.expected ≡ (number + frames_of (length m)) % 16
  pub discarding : h.receiver.at.discarding ≡ false
  pub begun : h.receiver.at.begun ≡ none
  pub buffer : h.buffer ≡ m ++ drop (length m) b
