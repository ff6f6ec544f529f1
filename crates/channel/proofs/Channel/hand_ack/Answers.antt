use Rattle.channel.specs.Opened.{hand_ack}
use Rattle.channel.proofs.Channel.hand_ack.Goals as goal

pub returns : goal.returns
unfolding hand_ack
returns c = rw (c.hand_over.ensures, c.write_ack.ensures, c.hand_ack-self.ensures)
