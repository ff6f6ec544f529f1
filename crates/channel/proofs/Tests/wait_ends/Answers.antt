use mathlib.Core.Path.{refl}
use Rattle.channel.specs.Opened.{wait_ends}
use Rattle.channel.proofs.Tests.wait_ends.Goals as goal

pub returns : goal.returns
unfolding wait_ends
returns c = refl
