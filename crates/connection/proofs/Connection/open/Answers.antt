use Rattle.connection.proofs.Connection.open.Goals as goal

pub returns : goal.returns
returns c = rw (c.open_as.ensures, c.tp20.ensures)
