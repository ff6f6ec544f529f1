-- The records of an open channel, field by field: just opened, and what it is to change one part of one; the settings' defaults,
-- the numbers of TP 2.0, and what two ends agree on.
use Rattle.std.specs.Prelude.{ℕ, zero, suc, ◌*◌, ◌/◌, ◌%◌, Bool, true, false, ltb, if◌then◌else◌}
use Rattle.telegram.specs.declared.cutting.Message.{Message}
use Rattle.profile.specs.declared.Profile.{Profile}
use Rattle.settings.specs.declared.Settings.{Settings}
use Rattle.sender.specs.declared.Terms.{Terms}
use Rattle.sender.specs.declared.Sender.{Sender}
use Rattle.receiver.specs.declared.Standing.{Standing}
use Rattle.receiver.specs.declared.Receiver.{Receiver}
use Rattle.channel.specs.declared.Parameters.{Parameters}
use Rattle.channel.specs.declared.Tests.{Tests}
use Rattle.channel.specs.declared.Channel.{Channel}

-- no message begun or complete: it has no length and no flags
abbrev pub none_received : Message
none_received = record { length = 0; flags = 0 }

-- nothing received and nothing in sending: "all numbers start at 0, and no message received or in sending, due frame, wait or hold remains"
abbrev pub fresh_channel : Parameters → Channel
fresh_channel p =
    (let start : Standing = record { expected = 0; discarding = false; begun = none_received; fill = 0 } in
    record {
      parameters = p;
      sender = record { length = 0; acked = 0; high = 0; next = 0; oldest = 0; count = 0; wait = 0; hold = 0; gap = 0 };
      receiver = record { at = start; back = start; complete = none_received; ack = record { due = false; ready = false; number = 0 } };
      tests = record { out = false; again = false; wait = 0; unanswered = 0; interval = p.interval };
      accept = false;
    })

-- the channel of a record that is not open
abbrev pub no_channel : Channel
no_channel =
    (let terms : Terms = record { block = 0; t1 = 0; t3 = 0; repeats = 0; t_wait = 0 } in
    fresh_channel (record { terms = terms; interval = 0; allowed = 0; own = record { block = 0; t1 = 0; t3 = 0 } }))

-- the settings' defaults, the names being the standard's: "own receive ID .. (0x300); unit address .. (0x01); .. unanswered tests allowed .. (5, house)"; "Change the default block size from 15 to 8" (02, request 3)
abbrev pub defaults : Settings
defaults =
    record { receive = 0x300; unit = 0x01; block = 8; t1 = 0x8A; t3 = 0x32; t_e = 1000; mntc = 10; mntb = 5; t_wait = 1000; t_ct = 10000; mnct = 5 }

-- TP 2.0: "From CAN ID 0x200"; "The reply comes from 0x200 + unit"; IDs of eleven bits, named whole, and units 0x00..0xEF; opening frames of seven bytes; tests and breaks; T3 and T_WAIT free
abbrev pub tp20_numbers : Profile
tp20_numbers =
    record {
      request = 0x200;
      reply = 0x200;
      offset = 0;
      units = record { least = 0x00; most = 0xEF };
      receives = record { least = 0; most = 0x7FF };
      transmits = record { least = 0; most = 0x7FF };
      short = false;
      tests = true;
      least_t3 = 0;
      bounded = false;
    }

-- "Bits 7-6: unit 1, 10, 100 or 1,000 tenths"; above a byte it goes on in the same way
unfoldable pub unit : ℕ → ℕ
unit zero = 1
unit (suc zero) = 10
unit (suc (suc zero)) = 100
unit (suc (suc (suc zero))) = 1000
unit (suc (suc (suc (suc n)))) = 10000 * unit n

-- "Bits 5-0: multiplier"
unfoldable pub tenths : (code : ℕ) → ℕ
tenths code = unit (code / 64) * (code % 64)

-- "The smaller block size holds"
unfoldable pub smaller : ℕ → ℕ → ℕ
smaller m n = if ltb n m then n else m

-- what is agreed by an A0 or A1 of this block size and T3: our own T1, the peer's T3, and the fields of our own A0 and A1; "no test (those settings lie unused)" (02, request 10): without tests the interval is 0
abbrev pub agreed_by : (tests : Bool) → Settings → (block t3 : ℕ) → Parameters
agreed_by tests s block t3 =
    record {
      terms = record { block = smaller s.block block; t1 = tenths s.t1; t3 = tenths t3; repeats = s.mntb; t_wait = s.t_wait };
      interval = if tests then s.t_ct else 0;
      allowed = s.mnct;
      own = record { block = s.block; t1 = s.t1; t3 = s.t3 };
    }

-- a channel with these parts, on the same terms
abbrev pub channel_of : Channel → Sender → Receiver → Tests → (accept : Bool) → Channel
channel_of ch s r t a = record { parameters = ch.parameters; sender = s; receiver = r; tests = t; accept = a }

-- a channel with another sending half, and nothing else changed
abbrev pub on_sender : Channel → Sender → Channel
on_sender ch s = channel_of ch s ch.receiver ch.tests ch.accept

-- a channel with another receiving half, and nothing else changed
abbrev pub on_receiver : Channel → Receiver → Channel
on_receiver ch r = channel_of ch ch.sender r ch.tests ch.accept
