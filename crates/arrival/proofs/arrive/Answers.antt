use Prim.Native.Nat.{ℕ}
use mathlib.Core.Bool.{Bool}
use mathlib.Core.List.{List}
use mathlib.Core.Path.{◌≡◌}
use borrow.Author.Rules.{rules}
use Rattle.telegram.specs.declared.kinds.Telegram.{Telegram}
use Rattle.telegram.specs.declared.kinds.Telegram.TheVariants.{Data}
use Rattle.receiver.specs.Receiving.{received, buffered}
use Rattle.channel.specs.declared.Channel.{Channel}
use Rattle.channel.specs.declared.Answered.{Answered}
use Rattle.arrival.specs.Arrived.{on_data, arrived}
use Rattle.arrival.proofs.arrive.Goals as goal

data-arrives : (limit : ℕ) (c : Channel) {t : Telegram} (p : List ℕ) (room : ℕ) (r : Answered) {asks last : Bool} {number : ℕ}
    → t ≡ Data asks last number → r ≡ on_data limit c t p room → r ≡ arrived limit c t p room
unfolding arrived
data-arrives limit c p room r e k = rw (k, e)

pub returns-in-Data : goal.returns-in-Data
unfolding arrived buffered received
returns-in-Data c = record { value = search data-arrives; buffer_after = search rules }

pub returns-in-Ack : goal.returns-in-Ack
unfolding arrived buffered received
returns-in-Ack c = let e = c.in-Ack.is in record { value = rw (c.on_ack.ensures, e); buffer_after = rw e }

pub returns-in-Test : goal.returns-in-Test
unfolding arrived buffered received
returns-in-Test c = let e = c.in-Test.is in record { value = rw (e) c.on_test.ensures; buffer_after = rw e }

pub returns-in-Break : goal.returns-in-Break
unfolding arrived buffered received
returns-in-Break c = let e = c.in-Break.is in record { value = rw (e) c.on_break.ensures; buffer_after = rw e }

pub returns-in-Disconnect : goal.returns-in-Disconnect
unfolding arrived buffered received
returns-in-Disconnect c = let e = c.in-Disconnect.is in record { value = rw (e) c.answered.ensures; buffer_after = rw e }

pub returns-in-Setup : goal.returns-in-Setup
unfolding arrived buffered received
returns-in-Setup c = let e = c.in-Setup.is in record { value = rw (e) c.answered-in-Setup.ensures; buffer_after = rw e }

pub returns-in-Accept : goal.returns-in-Accept
unfolding arrived buffered received
returns-in-Accept c = let e = c.in-Accept.is in record { value = rw e c.on_accept.ensures; buffer_after = rw e }

pub returns-in-Malformed : goal.returns-in-Malformed
unfolding arrived buffered received
returns-in-Malformed c = let e = c.in-Malformed.is in record { value = rw e c.answered-in-Malformed.ensures; buffer_after = rw e }
