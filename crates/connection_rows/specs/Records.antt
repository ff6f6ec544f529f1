-- The records of a connection, field by field: closed, opening and just opened, and what it is to change one part of one.
use Rattle.std.specs.Prelude.{ℕ, Bool, true, false, not, ◌||◌, eqb}
use Rattle.profile.specs.declared.Profile.{Profile}
use Rattle.settings.specs.declared.Settings.{Settings}
use Rattle.channel.specs.declared.Channel.{Channel}
use Rattle.open_end.specs.declared.OpenEnd.{OpenEnd}
use Rattle.open_rows.specs.Records.{fresh_channel, no_channel, defaults, tp20_numbers, agreed_by}
use Rattle.connection.specs.declared.attempt.Attempt.{Attempt}
use Rattle.connection.specs.declared.Connection.{Connection}

-- ---- the phases of a record

-- closed
abbrev pub is_closed : Connection → Bool
is_closed c = eqb c.phase 0

-- the C0 is unanswered
abbrev pub is_requesting : Connection → Bool
is_requesting c = eqb c.phase 1

-- the A0 is unanswered
abbrev pub is_agreeing : Connection → Bool
is_agreeing c = eqb c.phase 2

-- open
abbrev pub is_open : Connection → Bool
is_open c = not (is_closed c || is_requesting c || is_agreeing c)

-- ---- whole records

-- closed, with one A8 due on a transmit ID or nothing due; the profile is TP 2.0 and the settings are the defaults
abbrev pub closed_with : (leaving : Bool) → (transmit : ℕ) → Connection
closed_with leaving transmit =
    (let none : Attempt = record { due = false; asked = false; wait = 0; repeats = 0 } in
    record { phase = 0; profile = tp20_numbers; settings = defaults; attempt = none; leaving = leaving; end = record { transmit = transmit; receive = 0; channel = no_channel } })

-- "record closed, nothing due"
abbrev pub closed_record : Connection
closed_record = closed_with false 0

-- "closed, one A8 due"
abbrev pub leaving_on : ℕ → Connection
leaving_on transmit = closed_with true transmit

-- the profile p and the settings s, with the C0 (phase 1) or the A0 (phase 2) due for the first time
abbrev pub asking : (phase : ℕ) → Profile → Settings → (transmit receive : ℕ) → Connection
asking phase p s transmit receive =
    (let first : Attempt = record { due = true; asked = false; wait = 0; repeats = 0 } in
    record { phase = phase; profile = p; settings = s; attempt = first; leaving = false; end = record { transmit = transmit; receive = receive; channel = no_channel } })

-- what that A1 opens; where the profile has no tests, none is agreed
abbrev pub opened_by : Connection → (block t3 : ℕ) → Connection
opened_by c block t3 =
    (let none : Attempt = record { due = false; asked = false; wait = 0; repeats = 0 } in
    let end : OpenEnd = record { transmit = c.end.transmit; receive = c.end.receive; channel = fresh_channel (agreed_by c.profile.tests c.settings block t3) } in
    record { phase = 3; profile = c.profile; settings = c.settings; attempt = none; leaving = false; end = end })

-- a record with another request of the opening, and nothing else changed
abbrev pub on_attempt : Connection → Attempt → Connection
on_attempt c a = record { phase = c.phase; profile = c.profile; settings = c.settings; attempt = a; leaving = c.leaving; end = c.end }

-- a record with another channel, and nothing else changed
abbrev pub on_channel : Connection → Channel → Connection
on_channel c ch =
    (let end : OpenEnd = record { transmit = c.end.transmit; receive = c.end.receive; channel = ch } in
    record { phase = c.phase; profile = c.profile; settings = c.settings; attempt = c.attempt; leaving = c.leaving; end = end })
