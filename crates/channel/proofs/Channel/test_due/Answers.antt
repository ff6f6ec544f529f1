use Rattle.channel.specs.Opened.{test_due}
use Rattle.channel.proofs.Channel.test_due.Goals as goal

pub returns : goal.returns
unfolding test_due
returns c = cc
