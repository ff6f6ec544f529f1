use Rattle.telegram.proofs.Bytes.{frame_made}
use Rattle.telegram.proofs.cutting.frame.Goals as goal

pub returns : goal.returns
returns c = search frame_made
