-- The control unit as an end of `delivery`: each call by the very definition of its contract.
use Rattle.std.specs.Prelude.{ℕ, ◌≤◌, true, not, ◌&&◌, eqb}
use Rattle.std.specs.Option.{is_some}
use Rattle.open_end.specs.OpenEnd.{given_frame}
use Rattle.telegram.specs.Outgoing.{bytes_of}
use Rattle.opening.specs.Opening.{request_id}
use Rattle.open_end.specs.declared.answers.Said.{Said}
use Rattle.unit.specs.declared.ControlUnit.{ControlUnit}
use Rattle.open_end.specs.declared.answers.Due.{Due}
use Rattle.open_end.specs.declared.answers.TakeStep.{TakeStep}
use Rattle.unit.specs.Record.{is_open}
use Rattle.unit.specs.Calls.{sent_by, taken_by, elapsed, due_of, arrived, buffered}
use Rattle.delivery.specs.End.{Told, Taken, Given, End}
use Rattle.delivery.specs.Claim.{Demand3Holds}
use Rattle.delivery.specs.BothWays.{BothWaysHolds}
use Rattle.connection_delivery.specs.Ends.{connection_end}

-- what a call says, and the unit that it leaves
abbrev pub tells : Said → ControlUnit → Told ControlUnit
tells s c = record { number = s.number; done = s.done; state = c }

-- the same of a take
abbrev pub shows : TakeStep ControlUnit → Taken ControlUnit
shows t = record { number = t.told.said.number; message = record { length = t.len; flags = t.flags }; state = t.left }

-- the same of what is due: the frame's ID and bytes
abbrev pub hands : Due ControlUnit → Given ControlUnit
hands d = record { given = is_some d.frame; id = (given_frame d.frame).id; bytes = bytes_of (given_frame d.frame).payload; state = d.left }

-- the unit's calls. Open means here: open, with a receive ID other than 0x200, as `set` sees to
abbrev pub unit_end : (limit : ℕ) → End
unit_end limit =
    record {
      State = ControlUnit;
      send = λ c n. (let r = sent_by limit c n in tells r.told.said r.left);
      take = λ c room. shows (taken_by c room);
      time = λ c n. (let r = elapsed c n in tells r.told.said r.left);
      due = λ c m. hands (due_of c m);
      arrive = λ c id bytes room. (let r = arrived limit c id bytes room in tells r.told.said r.left);
      buffered = buffered limit;
      open' = λ c. is_open c && not (eqb c.settings.receive request_id);
      channel = λ c. c.end.channel;
      receives = λ c. c.settings.receive;
      transmits = λ c. c.end.transmit;
    }

-- demand 3 of a connection record in TP 2.0 and a control unit, either end sending, for every limit on lengths that twelve bits can say
abbrev pub Demand3WithUnit : Type 0
Demand3WithUnit = (limit : ℕ) → limit ≤ 4095 → Demand3Holds (connection_end limit true) (unit_end limit) × Demand3Holds (unit_end limit) (connection_end limit true)

-- 02, 14, of the two
abbrev pub BothWaysWithUnit : Type 0
BothWaysWithUnit = (limit : ℕ) → limit ≤ 4095 → BothWaysHolds (connection_end limit true) (unit_end limit)
