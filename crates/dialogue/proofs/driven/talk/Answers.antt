-- It begins with no turn, and each time one is added.
use Rattle.std.proofs.Common.{rules, ◌+◌}
use Rattle.dialogue.specs.Driven.{no_turn, one_more}
use Rattle.dialogue.proofs.driven.talk.Goals as goal

pub loop-init : goal.loop-init
loop-init g c = rw c.closed.ensures (rw c.fresh.ensures no_turn)

pub returns-then-is_over : goal.returns-then-is_over
returns-then-is_over g c = record {
  turns = c.loop.counter + 1;
  after = c.turn-c.new.lent;
  turned = one_more c.loop.invariant c.turn-c.ensures;
  until = λ h. search rules;
}

pub loop-preserved : goal.loop-preserved
loop-preserved g c = one_more c.loop.invariant c.turn-c.ensures

pub returns : goal.returns
returns g c = record { turns = c.loop.counter; after = c.loop.lent; turned = c.loop.invariant; until = λ h. search rules }
