-- 02, 10, "TP 1.6 cars": the profiles as numbers, from the tables of SAE J3054 (001), and the telegrams that each has.
use Rattle.std.specs.Prelude.{ℕ, Bool, true, false, not, ◌&&◌, List, leb, if◌then◌else◌}
use Rattle.telegram.specs.Kinds.{sorted}
use Rattle.telegram.specs.declared.kinds.Sorted.{Sorted}
use Rattle.telegram.specs.declared.kinds.Telegram.{Telegram}
use Rattle.telegram.specs.declared.kinds.Telegram.TheVariants.{Data, Ack, Test, Break, Disconnect, Setup, Accept, Malformed}
use Rattle.profile.specs.declared.Range.{Range}
use Rattle.profile.specs.declared.Profile.{Profile}

-- ---- ranges

-- the numbers from one to another
abbrev pub from : (least most : ℕ) → Range
from least most = record { least = least; most = most }

-- a number lies in a range, both ends belonging to it
unfoldable pub within : Range → ℕ → Bool
within r n = leb r.least n && leb n r.most

-- ---- the profiles

-- TP 2.0, as 01 has it: C0 from 0x200, the reply from 0x200 + unit, whole IDs of eleven bits, seven bytes; T3 and T_WAIT are free
abbrev pub tp20 : Profile
tp20 =
    record {
      request = 0x200;
      reply = 0x200;
      offset = 0x000;
      units = from 0x00 0xEF;
      receives = from 0x000 0x7FF;
      transmits = from 0x000 0x7FF;
      short = false;
      tests = true;
      least_t3 = 0;
      bounded = false;
    }

-- a row of TP 1.6: three bytes, "no test .. and no break", T3 from 10 ms on and T_WAIT strictly between T3 and T1
abbrev pub tp16 : (request reply offset : ℕ) → (units receives transmits : Range) → Profile
tp16 request reply offset units receives transmits =
    record {
      request = request;
      reply = reply;
      offset = offset;
      units = units;
      receives = receives;
      transmits = transmits;
      short = true;
      tests = false;
      least_t3 = 100;
      bounded = true;
    }

-- drive: tables 1, 2, 3 and 5
abbrev pub drive : Profile
drive = tp16 0x200 0x200 0x700 (from 0x00 0x1F) (from 0x740 0x7BF) (from 0x740 0x7BF)

-- comfort
abbrev pub comfort : Profile
comfort = tp16 0x2D0 0x2E0 0x300 (from 0x00 0x1F) (from 0x300 0x31F) (from 0x320 0x33F)

-- infotainment, high priority: "0x4D0 to 0x4DF with offset 0x4A0 stands as printed"
abbrev pub high : Profile
high = tp16 0x2D0 0x4A0 0x400 (from 0x30 0x3F) (from 0x4E0 0x4EF) (from 0x4F0 0x4FF)

-- infotainment, low priority
abbrev pub low : Profile
low = tp16 0x2D0 0x4A0 0x600 (from 0x30 0x3F) (from 0x690 0x69F) (from 0x6B0 0x6BF)

-- ---- the telegrams of a profile

-- a test or a break, which TP 1.6 does not have (001, table 9)
abbrev pub test_or_break : Telegram → Bool
test_or_break (Data asks last number) = false
test_or_break (Ack ready number) = false
test_or_break Test = true
test_or_break Break = true
test_or_break Disconnect = false
test_or_break (Setup p) = false
test_or_break (Accept p) = false
test_or_break Malformed = false

-- sorted into its kind: "A3 and A4 are answer 1 there", padded or not
unfoldable pub sorted_by : Profile → List ℕ → Sorted
sorted_by p s = if test_or_break (sorted s).kind && not p.tests then record { kind = Malformed; padded = false } else sorted s
