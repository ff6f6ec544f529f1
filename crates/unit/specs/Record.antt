-- 02, request 5, "The car's side for the bench": the record of the side that is asked, and what it stands at.
use Rattle.std.specs.Prelude.{ℕ, Bool, not, ◌&&◌, ◌||◌, ltb, eqb, if◌then◌else◌}
use Rattle.telegram.specs.declared.kinds.Parameters.{Parameters as Fields}
use Rattle.opening.specs.Opening.{request_id, refusal}
use Rattle.settings.specs.Settings.{defaults, allowed}
use Rattle.settings.specs.Agreed.{agreed}
use Rattle.settings.specs.declared.Settings.{Settings}
use Rattle.sender.specs.Sending.{idle}
use Rattle.open_end.specs.OpenEnd.{unopened, fresh_end}
use Rattle.open_end.specs.declared.OpenEnd.{OpenEnd}
use Rattle.unit.specs.declared.ControlUnit.{ControlUnit}

-- ---- the phases

-- closed, nothing due
abbrev pub phase_closed : ℕ
phase_closed = 0

-- closed, one A8 due
abbrev pub phase_leaving : ℕ
phase_leaving = 1

-- closed, the reply D6, D7 or D8 due
abbrev pub phase_refusing : ℕ
phase_refusing = 2

-- the D0 due
abbrev pub phase_replying : ℕ
phase_replying = 3

-- the D0 out
abbrev pub phase_replied : ℕ
phase_replied = 4

-- the A1 of the opening due
abbrev pub phase_accepting : ℕ
phase_accepting = 5

-- open
abbrev pub phase_open : ℕ
phase_open = 6

-- closed, with nothing or one frame due
abbrev pub is_closed : ControlUnit → Bool
is_closed c = ltb c.phase phase_replying

-- its D0 is due
abbrev pub is_replying : ControlUnit → Bool
is_replying c = eqb c.phase phase_replying

-- open, from the A1's hand-over on
abbrev pub is_open : ControlUnit → Bool
is_open c = ltb phase_accepting c.phase

-- open, with an accepted message that is not done
abbrev pub in_sending : ControlUnit → Bool
in_sending c = is_open c && not (idle c.end.channel.sender)

-- ---- settings

-- the defaults of 01 and of 02, 3, with receive ID 0x740 (house)
abbrev pub unit_defaults : Settings
unit_defaults =
    record {
      receive = 0x740;
      unit = defaults.unit;
      block = defaults.block;
      t1 = defaults.t1;
      t3 = defaults.t3;
      t_e = defaults.t_e;
      mntc = defaults.mntc;
      mntb = defaults.mntb;
      t_wait = defaults.t_wait;
      t_ct = defaults.t_ct;
      mnct = defaults.mnct;
    }

-- "D0, D6, D7 or D8 as set"
abbrev pub is_reply : ℕ → Bool
is_reply opcode = eqb opcode 0xD0 || refusal opcode

-- 01's ranges, a receive ID "which is never 0x200", and a reply that there is
unfoldable pub settable : Settings → (reply : ℕ) → Bool
settable s reply = allowed s && not (eqb s.receive request_id) && is_reply reply

-- ---- records

-- closed, nothing due
abbrev pub closed_with : Settings → (reply : ℕ) → ControlUnit
closed_with s reply = record { phase = phase_closed; reply = reply; settings = s; end = unopened 0 0 }

-- a closed unit, had without any input: default settings, and D0 to reply
abbrev pub closed_unit : ControlUnit
closed_unit = closed_with unit_defaults 0xD0

-- a unit closed, nothing due: its settings and its reply stay
abbrev pub closed_of : ControlUnit → ControlUnit
closed_of c = closed_with c.settings c.reply

-- a unit closed, one A8 due on the asker's ID
abbrev pub leaving_of : ControlUnit → ControlUnit
leaving_of c = record { phase = phase_leaving; reply = c.reply; settings = c.settings; end = unopened c.end.transmit 0 }

-- a C0 came, by an end that receives on this ID: "with D0, D6, D7 or D8 as set (.. after the last three it is closed), ending what was there"
abbrev pub asked_by : ControlUnit → (receive : ℕ) → ControlUnit
asked_by c receive =
    record {
      phase = if eqb c.reply 0xD0 then phase_replying else phase_refusing;
      reply = c.reply;
      settings = c.settings;
      end = unopened receive c.settings.receive;
    }

-- an A0 came: the A1 is due, and with its hand-over this end is open: "numbers at 0, nothing received or due left from before"
abbrev pub accepting : ControlUnit → Fields → ControlUnit
accepting c p =
    record {
      phase = phase_accepting;
      reply = c.reply;
      settings = c.settings;
      end = fresh_end c.end.transmit c.settings.receive (agreed c.settings p);
    }

-- a unit at another phase
abbrev pub at_phase : ControlUnit → ℕ → ControlUnit
at_phase c n = record { phase = n; reply = c.reply; settings = c.settings; end = c.end }

-- a unit with another end
abbrev pub with_open_end : ControlUnit → OpenEnd → ControlUnit
with_open_end c e = record { phase = c.phase; reply = c.reply; settings = c.settings; end = e }
