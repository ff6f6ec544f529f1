use Rattle.telegram.proofs.Bytes.{headed-made}
use Rattle.telegram.proofs.cutting.headed_end.Goals as goal

pub returns : goal.returns
returns c = search headed-made
