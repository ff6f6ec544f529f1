use Rattle.std.proofs.Common.{rules}
use Rattle.table.specs.Calls.{hands}
use Rattle.table.proofs.Found.{got, got-none}
use Rattle.table.proofs.Table.due.Goals as goal

pub returns-in_default : goal.returns-in_default
unfolding hands
returns-in_default c = rw (c.tell.ensures, got-none c.args.self c.args.place (search rules) c.in_default.ensures.lookup)

pub returns : goal.returns
unfolding hands
returns c = let here = got c.args.self c.args.place (search rules) c.in-Some.c c.in-Some.ensures.lookup in rw (here.0, c.due-d.ensures, here.1)
