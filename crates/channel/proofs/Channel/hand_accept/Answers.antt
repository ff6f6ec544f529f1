use Rattle.channel.specs.Opened.{hand_accept}
use Rattle.channel.proofs.Channel.hand_accept.Goals as goal

pub returns : goal.returns
unfolding hand_accept
returns c = rw (c.hand_over.ensures, c.write_accept.ensures)
