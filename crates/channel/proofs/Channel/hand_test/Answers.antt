use Rattle.channel.specs.Opened.{hand_test}
use Rattle.channel.proofs.Channel.hand_test.Goals as goal

pub returns : goal.returns
unfolding hand_test
returns c = rw (c.hand_over.ensures, c.write_test.ensures)
