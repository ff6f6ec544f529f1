-- Demand 3 and 02, 14 for two connection records.
use Rattle.delivery.proofs.Demand3.{demand3 as any-demand3}
use Rattle.delivery.proofs.BothWays.{both_ways as any-both-ways}
use Rattle.connection_delivery.specs.Ends.{Demand3OfRecords, BothWaysOfRecords}
use Rattle.connection_delivery.proofs.Around.{two_ends}
use Rattle.connection_delivery.proofs.Lawful.{connection-lawful}

pub demand3 : Demand3OfRecords
demand3 limit small tests = any-demand3 (two_ends limit small (connection-lawful limit tests) (connection-lawful limit tests))

pub both_ways : BothWaysOfRecords
both_ways limit small tests = any-both-ways (two_ends limit small (connection-lawful limit tests) (connection-lawful limit tests))
