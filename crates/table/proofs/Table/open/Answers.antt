use Rattle.std.proofs.Common.{sym, ◌∙◌}
use Rattle.table.specs.Table.{free_of}
use Rattle.table.specs.Calls.{opens}
use Rattle.table.proofs.Found.{named-is, named-none}
use Rattle.table.proofs.Table.open.Goals.{then-reserved-via-then-reserved, then-reserved-via-else-reserved+then-is_used, then-reserved-via-else-reserved+else-is_used+then-not-in_range}
use Rattle.table.proofs.Table.open.Goals as goal

pub returns-in_default : goal.returns-in_default
unfolding opens
returns-in_default c = rw (c.tell.ensures, named-none (free_of c.args.self) c.in_default.ensures)

pub returns-then-reserved : goal.returns-then-reserved
unfolding opens
returns-then-reserved c =
    let free = named-is (free_of c.args.self) c.in-Some.p c.in-Some.ensures in
    elim c.then-reserved.branch [
      | then-reserved-via-then-reserved w ↦ rw (c.tell-then-reserved.ensures, free.0, sym c.reserved.ensures ∙ w.if-reserved.true)
      | then-reserved-via-else-reserved+then-is_used w ↦
          rw (c.tell-then-reserved.ensures, free.0, sym c.reserved.ensures ∙ w.if-reserved.false, sym w.is_used.ensures ∙ w.if-is_used.true)
      | then-reserved-via-else-reserved+else-is_used+then-not-in_range w ↦
          rw (c.tell-then-reserved.ensures, free.0, sym c.reserved.ensures ∙ w.if-reserved.false, sym w.is_used.ensures ∙ w.if-is_used.false, ← w.in_range.ensures, w.if-not-in_range.true)
    ]

pub returns : goal.returns
unfolding opens
returns c =
    let free = named-is (free_of c.args.self) c.in-Some.p c.in-Some.ensures in
    rw (free.0, sym c.reserved.ensures ∙ c.if-reserved.false, sym c.is_used.ensures ∙ c.if-is_used.false, ← c.in_range.ensures, c.if-not-in_range.false, c.open-r.ensures, ← free.1)
