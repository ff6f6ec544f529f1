use Rattle.std.proofs.Common.{rules}
use Rattle.table.specs.Calls.{elapses}
use Rattle.table.proofs.Found.{got, got-none}
use Rattle.table.proofs.Table.elapse.Goals as goal

pub returns-in_default : goal.returns-in_default
unfolding elapses
returns-in_default c = rw (c.gives.ensures, got-none c.args.self c.args.place (search rules) c.in_default.ensures.lookup)

pub returns : goal.returns
unfolding elapses
returns c = let here = got c.args.self c.args.place (search rules) c.in-Some.c c.in-Some.ensures.lookup in rw (here.0, c.elapse-r.ensures, here.1)
