use Rattle.laws.proofs.Branches.{branches}
use Rattle.unit.specs.Calls.{arrived, buffered}
use Rattle.unit.proofs.ControlUnit.arrive.Goals as goal

pub returns-then-id-eq-REQUEST_ID : goal.returns-then-id-eq-REQUEST_ID
unfolding arrived buffered
returns-then-id-eq-REQUEST_ID c = record { value = rw (c.marked.ensures, c.on_request.ensures, c.read_request.ensures) (search branches); buffer_after = search branches }

pub returns-then-is_closed : goal.returns-then-is_closed
unfolding arrived buffered
returns-then-is_closed c = record { value = rw (c.marked-then-is_closed.ensures, c.gives.ensures) (search branches); buffer_after = search branches }

pub returns-then-id-receive : goal.returns-then-id-receive
unfolding arrived buffered
returns-then-id-receive c = record { value = rw (c.marked-then-id-receive.ensures, c.not_for_us.ensures) (search branches); buffer_after = search branches }

pub returns-then-not-is_open : goal.returns-then-not-is_open
unfolding arrived buffered
returns-then-not-is_open c = record { value = rw (c.marked-then-not-is_open.ensures, c.on_opening.ensures, c.sort-s.ensures) (search branches); buffer_after = search branches }

pub returns : goal.returns
unfolding arrived buffered
returns c = record { value = rw (c.marked-2.ensures, c.on_open.ensures.value, c.sort-s.ensures) (search (branches, c.if-id-eq-REQUEST_ID.false, c.is_closed.ensures, c.if-is_closed.false, c.if-id-receive.false, c.is_open.ensures, c.if-not-is_open.false)); buffer_after = rw (c.on_open.ensures.buffer_after, c.sort-s.ensures) (search (branches, c.if-id-eq-REQUEST_ID.false, c.is_closed.ensures, c.if-is_closed.false, c.if-id-receive.false, c.is_open.ensures, c.if-not-is_open.false)) }
