-- 02, request 5: the claim on the opening, and what holds from it on.
use Prim.Native.Nat.{ℕ, ◌≤◌}
use Rattle.delivery.specs.System.{turned}
use Rattle.delivery.specs.Claim.{Fresh}
use Rattle.delivery.proofs.Beginning.{turned-fresh}
use Rattle.unit_delivery.proofs.Demand3.{demand3, both_ways}
use Rattle.unit_opening.specs.Opening.{Bench, anew, Delivers, OpeningHolds}
use Rattle.unit_opening.proofs.Agrees.{opening-agrees}
use Rattle.unit_opening.proofs.Fresh.{opening-fresh}
use Rattle.unit_opening.proofs.Moments.{opening-moments}

-- demand 3 and request 14 of the pair, as instances
delivers : (limit : ℕ) → limit ≤ 4095 → (b : Bench limit) → Fresh (anew limit b) → Delivers limit (anew limit b)
delivers limit small b f =
    record {
      forth = (demand3 limit small).0 (anew limit b) f;
      back = (demand3 limit small).1 (turned (anew limit b)) (turned-fresh (anew limit b) f);
      both = both_ways limit small (anew limit b) f;
    }

pub opening-holds : OpeningHolds
opening-holds = record { agrees = opening-agrees; fresh = opening-fresh; moments = opening-moments; delivers = delivers }
