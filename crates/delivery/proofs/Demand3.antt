-- Demand 3, for any two lawful ends and every list of calls.
use Rattle.delivery.specs.Claim.{Demand3Holds}
use Rattle.delivery.specs.Laws.{TwoEnds}
use Rattle.delivery.proofs.First.{first-half}
use Rattle.delivery.proofs.Second.{stays_open, second-half}

pub demand3 : (two : TwoEnds) → Demand3Holds two.near two.far
demand3 two s f cs q =
    record {
      first = first-half two s f cs q;
      second = λ a i k rest few. second-half two s f cs q a i k few rest;
      stays = stays_open two s f cs q;
    }
