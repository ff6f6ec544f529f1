-- The connection record as an end of `delivery`: each call by the very definition of its contract.
use Rattle.std.specs.Prelude.{ℕ, ◌≤◌, Bool, true, false, not, ◌&&◌, eqb}
use Rattle.std.specs.Option.{is_some}
use Rattle.open_end.specs.OpenEnd.{given_frame}
use Rattle.telegram.specs.Outgoing.{bytes_of}
use Rattle.open_end.specs.declared.answers.Said.{Said}
use Rattle.connection.specs.declared.Connection.{Connection}
use Rattle.open_end.specs.declared.answers.Due.{Due}
use Rattle.open_end.specs.declared.answers.TakeStep.{TakeStep}
use Rattle.connection.specs.Record.{is_open}
use Rattle.connection.specs.Calls.{sent_by, taken_by, elapsed, due_of, arrived, buffered}
use Rattle.delivery.specs.End.{Told, Taken, Given, End}
use Rattle.delivery.specs.Claim.{Demand3Holds}
use Rattle.delivery.specs.BothWays.{BothWaysHolds}

-- what a call says, and the record that it leaves
abbrev pub tells : Said → Connection → Told Connection
tells s c = record { number = s.number; done = s.done; state = c }

-- the same of a take
abbrev pub shows : TakeStep Connection → Taken Connection
shows t = record { number = t.told.said.number; message = record { length = t.len; flags = t.flags }; state = t.left }

-- the same of what is due: the frame's ID and bytes
abbrev pub hands : Due Connection → Given Connection
hands d = record { given = is_some d.frame; id = (given_frame d.frame).id; bytes = bytes_of (given_frame d.frame).payload; state = d.left }

-- a record goes by a profile with tests; or by one without, and then none is agreed: its interval is 0
abbrev pub goes_by : (tests : Bool) → Connection → Bool
goes_by true c = c.profile.tests
goes_by false c = not c.profile.tests && eqb c.end.channel.parameters.interval 0

-- the record's calls, of profiles with tests (TP 2.0) or without (TP 1.6): what else profiles differ in are numbers of the opening.
-- Open means here: open, and of such a profile; its channel and its two IDs are those of its open end
abbrev pub connection_end : (limit : ℕ) → (tests : Bool) → End
connection_end limit tests =
    record {
      State = Connection;
      send = λ c n. (let r = sent_by limit c n in tells r.told.said r.left);
      take = λ c room. shows (taken_by c room);
      time = λ c n. (let r = elapsed c n in tells r.told.said r.left);
      due = λ c m. hands (due_of c m);
      arrive = λ c id bytes room. (let r = arrived limit c id bytes room in tells r.told.said r.left);
      buffered = buffered limit;
      open' = λ c. is_open c && goes_by tests c;
      channel = λ c. c.end.channel;
      receives = λ c. c.end.receive;
      transmits = λ c. c.end.transmit;
    }

-- demand 3, of two records, with tests or without, for every limit on lengths that twelve bits can say
abbrev pub Demand3OfRecords : Type 0
Demand3OfRecords = (limit : ℕ) → limit ≤ 4095 → (tests : Bool) → Demand3Holds (connection_end limit tests) (connection_end limit tests)

-- 02, 14, of two records
abbrev pub BothWaysOfRecords : Type 0
BothWaysOfRecords = (limit : ℕ) → limit ≤ 4095 → (tests : Bool) → BothWaysHolds (connection_end limit tests) (connection_end limit tests)
