use Rattle.table.specs.Table.{owner_of}
use Rattle.table.specs.Calls.{arrives, buffers}
use Rattle.table.proofs.Found.{named-is, named-none}
use Rattle.table.proofs.Table.arrive.Goals as goal

pub returns-in_default : goal.returns-in_default
unfolding arrives buffers
returns-in_default c =
    let none = named-none (owner_of c.args.self c.args.id) c.in_default.ensures in
    record { value = rw (c.tell.ensures, none); buffer_after = rw none }

pub returns : goal.returns
unfolding arrives buffers
returns c =
    let owner = named-is (owner_of c.args.self c.args.id) c.in-Some.p c.in-Some.ensures in
    record { value = rw (owner.0, c.arrive-r.ensures.value, ← owner.1); buffer_after = rw (owner.0, ← owner.1) c.arrive-r.ensures.buffer_after }
