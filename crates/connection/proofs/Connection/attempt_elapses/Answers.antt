use Rattle.laws.proofs.Branches.{branches}
use Rattle.connection.specs.Calls.{attempt_elapsed}
use Rattle.connection.proofs.Connection.attempt_elapses.Goals as goal

pub returns-then-wait-eq0 : goal.returns-then-wait-eq0
unfolding attempt_elapsed
returns-then-wait-eq0 c = rw c.gives.ensures (search branches)

pub returns-then-tenths-wait : goal.returns-then-tenths-wait
unfolding attempt_elapsed
returns-then-tenths-wait c = rw (c.gives-then-tenths-wait.ensures, c.less.ensures) (search branches)

pub returns-then-repeats-most : goal.returns-then-repeats-most
unfolding attempt_elapsed
returns-then-repeats-most c = rw c.gives-then-repeats-most.ensures (search branches)

pub returns : goal.returns
unfolding attempt_elapsed
returns c = rw (c.gives-2.ensures, c.closed.ensures) (search branches)
