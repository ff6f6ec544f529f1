use Rattle.std.proofs.Common.{rules}
use Rattle.table.specs.Calls.{takes}
use Rattle.table.proofs.Found.{got, got-none}
use Rattle.table.proofs.Table.take_step.Goals as goal

pub returns-in_default : goal.returns-in_default
unfolding takes
returns-in_default c = rw (c.tell.ensures, got-none c.args.self c.args.place (search rules) c.in_default.ensures.lookup)

pub returns : goal.returns
unfolding takes
returns c = let here = got c.args.self c.args.place (search rules) c.in-Some.c c.in-Some.ensures.lookup in rw (here.0, c.take_step-t.ensures, here.1)
