-- What becomes of an open unit, by the course that its end takes.
use mathlib.Core.Path.{◌≡◌, refl}
use Rattle.channel.specs.declared.Channel.{Channel}
use Rattle.open_end.specs.declared.Course.{Course}
use Rattle.open_end.specs.declared.Course.TheVariants.{GoesOn, GivenUp, Leaves}
use Rattle.open_end.specs.OpenEnd.{with_channel}
use Rattle.unit.specs.declared.ControlUnit.{ControlUnit}
use Rattle.unit.specs.Calls.{settled}
use Rattle.open_rows.proofs.Open.{Ways}
use Rattle.open_rows.proofs.Ends.{settled_by}
use Rattle.unit_rows.specs.Records.{closed_record, leaving, on_channel}

abbrev pub ways_of : ControlUnit → Ways ControlUnit
ways_of c = record { goes_on = on_channel c; given_up = closed_record c; leaves = leaving c }

pub settled-by : (c : ControlUnit) (k : Course) (ch : Channel) → settled c k (with_channel c.end ch) ≡ settled_by (ways_of c) k ch
unfolding settled
settled-by c GoesOn ch = refl
settled-by c GivenUp ch = refl
settled-by c Leaves ch = refl
