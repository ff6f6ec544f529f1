use Rattle.arrival.proofs.on_break.Goals as goal

pub returns : goal.returns
returns c = rw (c.answered.ensures, c.on_break-channel.ensures)
