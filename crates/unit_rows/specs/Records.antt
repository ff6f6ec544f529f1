-- The records of a control unit, field by field: closed, asked and about to open, and what it is to change one part of one.
use Rattle.std.specs.Prelude.{ℕ, Bool, true, ltb, eqb, if◌then◌else◌}
use Rattle.settings.specs.declared.Settings.{Settings}
use Rattle.channel.specs.declared.Channel.{Channel}
use Rattle.open_end.specs.declared.OpenEnd.{OpenEnd}
use Rattle.open_rows.specs.Records.{fresh_channel, no_channel, agreed_by}
use Rattle.unit.specs.declared.ControlUnit.{ControlUnit}

-- ---- the phases of a record

-- closed, with nothing due (0), one A8 due (1), or the reply D6, D7 or D8 due (2)
abbrev pub is_closed : ControlUnit → Bool
is_closed c = ltb c.phase 3

-- closed, with one A8 due
abbrev pub is_leaving : ControlUnit → Bool
is_leaving c = eqb c.phase 1

-- closed, with the reply D6, D7 or D8 due
abbrev pub is_refusing : ControlUnit → Bool
is_refusing c = eqb c.phase 2

-- the D0 is due
abbrev pub is_replying : ControlUnit → Bool
is_replying c = eqb c.phase 3

-- the A1 that opens is due; between the two, with phase 4, the D0 is out
abbrev pub is_accepting : ControlUnit → Bool
is_accepting c = eqb c.phase 5

-- open, "from that A1's hand-over"
abbrev pub is_open : ControlUnit → Bool
is_open c = ltb 5 c.phase

-- ---- whole records

-- the settings' defaults: 01's, with receive ID 0x740 (house) and block size 8 (02, request 3)
abbrev pub unit_defaults : Settings
unit_defaults =
    record { receive = 0x740; unit = 0x01; block = 8; t1 = 0x8A; t3 = 0x32; t_e = 1000; mntc = 10; mntb = 5; t_wait = 1000; t_ct = 10000; mnct = 5 }

-- an end that is not open, with the IDs that are known of it
abbrev pub not_open : (transmit receive : ℕ) → OpenEnd
not_open transmit receive = record { transmit = transmit; receive = receive; channel = no_channel }

-- these settings and this reply, closed, nothing due
abbrev pub closed_with : Settings → (reply : ℕ) → ControlUnit
closed_with s reply = record { phase = 0; reply = reply; settings = s; end = not_open 0 0 }

-- "record closed, nothing due": the settings and the reply stay
abbrev pub closed_record : ControlUnit → ControlUnit
closed_record c = closed_with c.settings c.reply

-- "closed, one A8 due", on the asker's ID
abbrev pub leaving : ControlUnit → ControlUnit
leaving c = record { phase = 1; reply = c.reply; settings = c.settings; end = not_open c.end.transmit 0 }

-- asked by an end with this receive ID: "with D0, D6, D7 or D8 as set (.. after the last three it is closed), ending what was there"
abbrev pub asked : ControlUnit → (receive : ℕ) → ControlUnit
asked c receive =
    record { phase = if eqb c.reply 0xD0 then 3 else 2; reply = c.reply; settings = c.settings; end = not_open receive c.settings.receive }

-- an A0 of this block size and T3: the A1 is due; "numbers at 0, nothing received or due left from before"
abbrev pub accepting : ControlUnit → (block t3 : ℕ) → ControlUnit
accepting c block t3 =
    (let end : OpenEnd = record { transmit = c.end.transmit; receive = c.settings.receive; channel = fresh_channel (agreed_by true c.settings block t3) } in
    record { phase = 5; reply = c.reply; settings = c.settings; end = end })

-- a record at another phase, and nothing else changed
abbrev pub at_phase : ControlUnit → (phase : ℕ) → ControlUnit
at_phase c phase = record { phase = phase; reply = c.reply; settings = c.settings; end = c.end }

-- a record with another channel, and nothing else changed
abbrev pub on_channel : ControlUnit → Channel → ControlUnit
on_channel c ch =
    (let end : OpenEnd = record { transmit = c.end.transmit; receive = c.end.receive; channel = ch } in
    record { phase = c.phase; reply = c.reply; settings = c.settings; end = end })
