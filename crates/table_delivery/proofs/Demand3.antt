-- Demand 3 and 02, 14 for each place of a table.
use Prim.Native.Nat.{ℕ, ◌≤◌, ◌<◌}
use mathlib.Core.Bool.{true}
use Rattle.table.specs.Table.{places}
use Rattle.delivery.specs.End.{End}
use Rattle.delivery.specs.Line.{Line}
use Rattle.delivery.specs.Laws.{Carried, Lawful}
use Rattle.delivery.proofs.Demand3.{demand3 as any-demand3}
use Rattle.delivery.proofs.BothWays.{both_ways as any-both-ways}
use Rattle.connection_delivery.proofs.Around.{two_ends}
use Rattle.connection_delivery.proofs.Lawful.{connection-lawful}
use Rattle.unit_delivery.proofs.Lawful.{unit_lawful}
use Rattle.table_delivery.specs.Ends.{ForAPlace, PlacesDeliver}
use Rattle.table_delivery.proofs.Lawful.{place-lawful}

module _ (limit : ℕ) (small : limit ≤ 4095) where
  -- a place and any lawful end
  for-a-place : (p : ℕ) → p < places → {F : End} {S : (receive transmit : ℕ) → F.State → Line → Type 0} → Lawful limit Carried F S → ForAPlace limit p F
  for-a-place p within {F} {S} far =
      (let near = place-lawful limit p within in
      record { sends = any-demand3 (two_ends limit small near far); receives = any-demand3 (two_ends limit small far near); both = any-both-ways (two_ends limit small near far) })

-- with a unit, a record, or a place of another table
pub places-deliver : PlacesDeliver
places-deliver limit small p within = (
  for-a-place limit small p within (unit_lawful limit),
  for-a-place limit small p within (connection-lawful limit true),
  λ q inside. for-a-place limit small p within (place-lawful limit q inside),
)
