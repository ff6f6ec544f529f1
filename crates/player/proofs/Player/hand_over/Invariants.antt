-- What is left to hand over is as before.
use Rattle.std.proofs.Common.{◌≡◌, ◌-◌}
use Rattle.player.specs.Player.{handed, most_due}
use Rattle.player.proofs.Player.hand_over.Given as goal

abbrev pub invariant-loop : goal.invariant-loop
invariant-loop g l =
    handed most_due l.fn.self.connection l.fn.message ≡ handed (most_due - l.counter) l.p.connection l.fn.message
