-- Demand 3 and 02, 14 for a connection record and a control unit.
use mathlib.Core.Bool.{true}
use Rattle.delivery.proofs.Demand3.{demand3 as any-demand3}
use Rattle.delivery.proofs.BothWays.{both_ways as any-both-ways}
use Rattle.connection_delivery.proofs.Around.{two_ends}
use Rattle.connection_delivery.proofs.Lawful.{connection-lawful}
use Rattle.unit_delivery.specs.Ends.{Demand3WithUnit, BothWaysWithUnit}
use Rattle.unit_delivery.proofs.Lawful.{unit_lawful}

-- either end sending
pub demand3 : Demand3WithUnit
demand3 limit small =
    (any-demand3 (two_ends limit small (connection-lawful limit true) (unit_lawful limit)), any-demand3 (two_ends limit small (unit_lawful limit) (connection-lawful limit true)))

-- for each direction
pub both_ways : BothWaysWithUnit
both_ways limit small = any-both-ways (two_ends limit small (connection-lawful limit true) (unit_lawful limit))
