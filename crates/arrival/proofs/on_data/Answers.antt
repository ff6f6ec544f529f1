use Prim.Native.Nat.{ℕ}
use mathlib.Core.List.{List}
use mathlib.Core.Path.{◌≡◌}
use borrow.Author.Rules.{rules}
use Rattle.telegram.specs.declared.kinds.Telegram.{Telegram}
use Rattle.receiver.specs.Receiving.{received}
use Rattle.receiver.specs.declared.Received.{Received}
use Rattle.channel.specs.declared.Channel.{Channel}
use Rattle.channel.specs.declared.Answer.{Answer}
use Rattle.channel.specs.declared.Answered.{Answered}
use Rattle.channel.specs.Opened.{with_receiver}
use Rattle.arrival.specs.Arrived.{data_answer, answered, on_data}
use Rattle.arrival.proofs.on_data.Goals as goal

-- what the receiving half made of it is answered
by-receipt : (limit : ℕ) (c : Channel) (t : Telegram) (p : List ℕ) (room : ℕ) (r : Answered) {x : Received} {a : Answer}
    → x ≡ received limit c.receiver t p room → a ≡ data_answer x.note → r ≡ answered a (with_receiver c x.receiver) → r ≡ on_data limit c t p room
unfolding on_data
by-receipt limit c t p room r e a k = rw (k, a, e)

pub returns : goal.returns
returns c = record { value = search by-receipt; buffer_after = search rules }
