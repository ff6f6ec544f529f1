use mathlib.Core.Path.{◌≡◌}
use Rattle.telegram.specs.declared.kinds.Telegram.{Telegram}
use Rattle.sender.specs.Sending.{heard}
use Rattle.sender.specs.declared.Heard.{Heard}
use Rattle.channel.specs.declared.Channel.{Channel}
use Rattle.channel.specs.declared.Answer.{Answer}
use Rattle.channel.specs.declared.Answered.{Answered}
use Rattle.channel.specs.Opened.{with_sender}
use Rattle.arrival.specs.Arrived.{ack_answer, answered, on_ack}
use Rattle.arrival.proofs.on_ack.Goals as goal

-- what the sending half heard is answered
by-hearing : (c : Channel) (t : Telegram) (r : Answered) {h : Heard} {a : Answer} → h ≡ heard c.parameters.terms c.sender t → a ≡ ack_answer h.note
    → r ≡ answered a (with_sender c h.sender) → r ≡ on_ack c t
unfolding on_ack
by-hearing c t r e a k = rw (k, a, e)

pub returns : goal.returns
returns c = search by-hearing
