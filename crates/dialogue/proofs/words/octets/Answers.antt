-- No words give no bytes.
use Rattle.dialogue.proofs.Handed.{no_bytes}
use Rattle.dialogue.proofs.words.octets.Goals as goal

pub returns-then-words-eq0-clause-bytes_after : goal.returns-then-words-eq0-clause-bytes_after
returns-then-words-eq0-clause-bytes_after c = no_bytes c.args.bytes.now c.args.words.now c.if-words-eq0.true
