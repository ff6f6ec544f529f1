-- 01, "The record and its calls" and "Opening": the record of the side that opens, and what it stands at.
use Rattle.std.specs.Prelude.{ℕ, Bool, true, false, not, ◌||◌, eqb, if◌then◌else◌}
use Rattle.std.proofs.Math.Option.{Option, none, some}
use Rattle.telegram.specs.declared.kinds.Parameters.{Parameters as Fields}
use Rattle.profile.specs.Profile.{tp20}
use Rattle.profile.specs.Opening.{reply_id}
use Rattle.profile.specs.declared.Profile.{Profile}
use Rattle.settings.specs.Settings.{defaults, used}
use Rattle.settings.specs.declared.Settings.{Settings}
use Rattle.settings.specs.Agreed.{agreed}
use Rattle.open_end.specs.OpenEnd.{unopened, fresh_end}
use Rattle.open_end.specs.declared.OpenEnd.{OpenEnd}
use Rattle.connection.specs.declared.attempt.Attempt.{Attempt}
use Rattle.connection.specs.declared.Connection.{Connection}

-- the phase of a closed record
abbrev pub phase_closed : ℕ
phase_closed = 0

-- the C0 is unanswered
abbrev pub phase_requesting : ℕ
phase_requesting = 1

-- the A0 is unanswered
abbrev pub phase_agreeing : ℕ
phase_agreeing = 2

-- open
abbrev pub phase_open : ℕ
phase_open = 3

-- a record is closed
abbrev pub is_closed : Connection → Bool
is_closed c = eqb c.phase phase_closed

-- its C0 is unanswered
abbrev pub is_requesting : Connection → Bool
is_requesting c = eqb c.phase phase_requesting

-- its A0 is unanswered
abbrev pub is_agreeing : Connection → Bool
is_agreeing c = eqb c.phase phase_agreeing

-- open: none of these
abbrev pub is_open : Connection → Bool
is_open c = not (is_closed c || is_requesting c || is_agreeing c)

-- no request of the opening is out or due
abbrev pub no_attempt : Attempt
no_attempt = record { due = false; asked = false; wait = 0; repeats = 0 }

-- a request that is due for the first time
abbrev pub new_attempt : Attempt
new_attempt = record { due = true; asked = false; wait = 0; repeats = 0 }

-- a closed connection, had without any input: nothing due; the profile of no connection is TP 2.0
abbrev pub closed_record : Connection
closed_record = record { phase = phase_closed; profile = tp20; settings = defaults; attempt = no_attempt; leaving = false; end = unopened 0 0 }

-- a closed connection with one A8 due on a transmit ID
abbrev pub leaving_on : ℕ → Connection
leaving_on transmit = record { phase = phase_closed; profile = tp20; settings = defaults; attempt = no_attempt; leaving = true; end = unopened transmit 0 }

-- opening in a profile: the C0 is due
abbrev pub requesting_as : Profile → Settings → Connection
requesting_as p s = record { phase = phase_requesting; profile = p; settings = s; attempt = new_attempt; leaving = false; end = unopened 0 0 }

-- the same in TP 2.0
abbrev pub requesting : Settings → Connection
requesting s = requesting_as tp20 s

-- the D0 named the transmit ID: the A0 is due, and we listen on our receive ID
abbrev pub agreeing : Connection → ℕ → Connection
agreeing c transmit =
    record { phase = phase_agreeing; profile = c.profile; settings = c.settings; attempt = new_attempt; leaving = false; end = unopened transmit c.settings.receive }

-- the A1 opens the channel: all numbers start at 0, and nothing is left from before; where the profile has no tests, none is agreed
abbrev pub opened : Connection → Fields → Connection
opened c p =
    record {
      phase = phase_open;
      profile = c.profile;
      settings = c.settings;
      attempt = no_attempt;
      leaving = false;
      end = fresh_end c.end.transmit c.end.receive (agreed (used c.profile c.settings) p);
    }

-- a record with another request of the opening
abbrev pub with_attempt : Connection → Attempt → Connection
with_attempt c a = record { phase = c.phase; profile = c.profile; settings = c.settings; attempt = a; leaving = c.leaving; end = c.end }

-- a record with another end
abbrev pub with_open_end : Connection → OpenEnd → Connection
with_open_end c e = record { phase = c.phase; profile = c.profile; settings = c.settings; attempt = c.attempt; leaving = c.leaving; end = e }

-- the ID that a record listens on: none when it is closed, the unit's (0x200 + unit in TP 2.0) until the D0, then our receive ID
unfoldable pub listens_on : Connection → Option ℕ
listens_on c =
    if is_closed c then none
    else if is_requesting c then some (reply_id c.profile c.settings.unit)
    else some c.end.receive

-- an ID is the one that is listened on
abbrev pub is_that : ℕ → Option ℕ → Bool
is_that id none = false
is_that id (some x) = eqb id x

-- row 3 asks whether a frame comes on the ID that the record listens on
unfoldable pub hears : Connection → (id : ℕ) → Bool
hears c id = is_that id (listens_on c)
