-- Worked tables: what is shut out, on records written out field by field.
use Prim.Native.Nat.{ℕ}
use mathlib.Core.Bool.{true, false}
use mathlib.Core.List.{List, [], ◌∷◌}
use mathlib.Core.Path.{◌≡◌, refl}
use lib.ListN.{set}
use Rattle.opening.specs.Opening.{reply_read}
use Rattle.telegram.specs.Kinds.{bad_block, kind_of}
use Rattle.telegram.specs.Time.{tenths_of}
use Rattle.profile.specs.Profile.{within, sorted_by}
use Rattle.profile.specs.Opening.{reply_for, named as named_by}
use Rattle.settings.specs.Settings.{allowed_by}
use Rattle.settings.specs.declared.Settings.{Settings}
use Rattle.channel.specs.declared.Answer.TheVariants.{Good, Disconnected}
use Rattle.open_end.proofs.Rules.{no_channel, plainly}
use Rattle.connection.specs.declared.Connection.{Connection}
use Rattle.connection.specs.Record.{listens_on, hears}
use Rattle.connection.specs.Calls.{opening_as, on_reply, on_agreeing, arrived, request_due, due_of, closed}
use Rattle.connection.proofs.Rules.{plain, at_rest}
use Rattle.table.specs.declared.Table.{Table}
use Rattle.std.specs.Prelude.{Some, None}
use Rattle.table.specs.declared.Opened.{Opened}
use Rattle.table.specs.Table.{empty, named, owner_of, free_of, uses_either, is_used, reserved}
use Rattle.table.specs.Calls.{opens, arrives, hands, closes}
use Rattle.table.proofs.Rules.{asking, thirteen, ten}
use Rattle.table.proofs.Places.{three}

-- ---- literals

-- the default settings, with a unit and a receive ID
abbrev pub unit_at : (unit receive : ℕ) → Settings
unit_at unit receive =
    record { receive = receive; unit = unit; block = 8; t1 = 138; t3 = 50; t_e = 1000; mntc = 10; mntb = 5; t_wait = 1000; t_ct = 10000; mnct = 5 }

-- a record in a phase, with a transmit ID, and nothing due
abbrev pub in_phase : (phase unit receive transmit : ℕ) → Connection
in_phase phase unit receive transmit =
    record {
      phase = phase;
      profile = plain;
      settings = unit_at unit receive;
      attempt = record { due = false; asked = false; wait = 0; repeats = 0 };
      leaving = false;
      end = record { transmit = transmit; receive = receive; channel = no_channel };
    }

-- open
abbrev pub opened : (unit receive transmit : ℕ) → Connection
opened = in_phase 3

-- its D0 is here, and its A0 is due
abbrev pub granted : (unit receive transmit : ℕ) → Connection
granted unit receive transmit =
    record {
      phase = 2;
      profile = plain;
      settings = unit_at unit receive;
      attempt = record { due = true; asked = false; wait = 0; repeats = 0 };
      leaving = false;
      end = record { transmit = transmit; receive = receive; channel = no_channel };
    }

-- closed, with nothing due
abbrev pub rest : Connection
rest = at_rest false 0

-- three records, and five places at rest
abbrev pub row : (a b c : Connection) → Table
row a b c = record { places = a ∷ b ∷ c ∷ rest ∷ rest ∷ rest ∷ rest ∷ rest ∷ [] }

-- an empty table is eight closed records with nothing due
pub empty-is : empty ≡ row rest rest rest
empty-is = refl

-- ---- open

-- eight places open or opening: the units 1 to 8 on 0x301 to 0x308
abbrev pub full_table : Table
full_table =
    record {
      places =
          asking (unit_at 1 0x301) ∷ granted 2 0x302 0x742 ∷ opened 3 0x303 0x743 ∷ opened 4 0x304 0x744
          ∷ opened 5 0x305 0x745 ∷ granted 6 0x306 0x746 ∷ asking (unit_at 7 0x307) ∷ opened 8 0x308 0x748 ∷ [];
    }

-- what an opening gives that took a place
abbrev pub took : (place : ℕ) → Table → Opened
took p t = record { told = plainly Good 0; place = Some p; left = t }

-- a ninth opening overwrites no place
pub ninth-refused : opens full_table (unit_at 9 0x309) ≡ thirteen full_table
unfolding opens free_of reserved is_used uses_either allowed_by within bad_block tenths_of opening_as
ninth-refused = refl

-- with the last place closed it is not full
pub eighth-taken : opens (record { places = set full_table.places 7 rest }) (unit_at 9 0x309) ≡ took 7 (record { places = set full_table.places 7 (asking (unit_at 9 0x309)) })
unfolding opens free_of reserved is_used uses_either allowed_by within bad_block tenths_of opening_as
eighth-taken = refl

-- 13 "comes before 10": a unit and a receive ID in use, a reserved receive ID, a unit out of range
pub full-before-in-use : opens full_table (unit_at 1 0x301) ≡ thirteen full_table
unfolding opens free_of reserved is_used uses_either allowed_by within bad_block tenths_of opening_as
full-before-in-use = refl

pub full-before-reserved : opens full_table (unit_at 9 0x200) ≡ thirteen full_table
unfolding opens free_of reserved is_used uses_either allowed_by within bad_block tenths_of opening_as
full-before-reserved = refl

pub full-before-out-of-range : opens full_table (unit_at 0xF0 0x309) ≡ thirteen full_table
unfolding opens free_of reserved is_used uses_either allowed_by within bad_block tenths_of opening_as
full-before-out-of-range = refl

-- "the lowest closed place", and no other: of 1 and of 3 to 7 it is 1
pub lowest-taken : opens (row (opened 1 0x301 0x741) rest (opened 2 0x302 0x742)) (unit_at 3 0x303)
    ≡ took 1 (row (opened 1 0x301 0x741) (asking (unit_at 3 0x303)) (opened 2 0x302 0x742))
unfolding opens free_of reserved is_used uses_either allowed_by within bad_block tenths_of opening_as
lowest-taken = refl

-- a closed place with its A8 due is taken like any other, and its A8 is discarded
pub leaving-taken : opens (row (opened 1 0x301 0x741) (at_rest true 0x742) (opened 3 0x303 0x743)) (unit_at 4 0x304)
    ≡ took 1 (row (opened 1 0x301 0x741) (asking (unit_at 4 0x304)) (opened 3 0x303 0x743))
unfolding opens free_of reserved is_used uses_either allowed_by within bad_block tenths_of opening_as
leaving-taken = refl

-- "a receive ID from 0x200 to 0x2EF", both sides of each limit
pub receive-1FF : opens (row rest rest rest) (unit_at 5 0x1FF) ≡ took 0 (row (asking (unit_at 5 0x1FF)) rest rest)
unfolding opens free_of reserved is_used uses_either allowed_by within bad_block tenths_of opening_as
receive-1FF = refl

pub receive-200 : opens (row rest rest rest) (unit_at 5 0x200) ≡ ten (row rest rest rest)
unfolding opens free_of reserved is_used uses_either allowed_by within bad_block tenths_of opening_as
receive-200 = refl

pub receive-2EF : opens (row rest rest rest) (unit_at 5 0x2EF) ≡ ten (row rest rest rest)
unfolding opens free_of reserved is_used uses_either allowed_by within bad_block tenths_of opening_as
receive-2EF = refl

pub receive-2F0 : opens (row rest rest rest) (unit_at 5 0x2F0) ≡ took 0 (row (asking (unit_at 5 0x2F0)) rest rest)
unfolding opens free_of reserved is_used uses_either allowed_by within bad_block tenths_of opening_as
receive-2F0 = refl

-- a range of 01: the unit 0xF0
pub unit-F0 : opens (row rest rest rest) (unit_at 0xF0 0x305) ≡ ten (row rest rest rest)
unfolding opens free_of reserved is_used uses_either allowed_by within bad_block tenths_of opening_as
unit-F0 = refl

-- a transmit ID in common does not matter
pub transmit-in-common : opens (row (opened 1 0x301 0x740) (opened 2 0x302 0x740) rest) (unit_at 3 0x303)
    ≡ took 2 (row (opened 1 0x301 0x740) (opened 2 0x302 0x740) (asking (unit_at 3 0x303)))
unfolding opens free_of reserved is_used uses_either allowed_by within bad_block tenths_of opening_as
transmit-in-common = refl

-- a receive ID that is another's transmit ID is not in use
pub transmit-not-in-use : opens (row (opened 1 0x301 0x740) rest rest) (unit_at 3 0x740) ≡ took 1 (row (opened 1 0x301 0x740) (asking (unit_at 3 0x740)) rest)
unfolding opens free_of reserved is_used uses_either allowed_by within bad_block tenths_of opening_as
transmit-not-in-use = refl

-- a closed place's unit and receive ID do not count
pub closed-not-in-use : opens (row (opened 1 0x301 0x741) (in_phase 0 5 0x305 0x745) rest) (unit_at 5 0x305)
    ≡ took 1 (row (opened 1 0x301 0x741) (asking (unit_at 5 0x305)) rest)
unfolding opens free_of reserved is_used uses_either allowed_by within bad_block tenths_of opening_as
closed-not-in-use = refl

-- ---- a unit from its opening to its D0, and behind it

-- a C0 for unit 5 from an empty table, and its D0: our receive ID 0x305 back, transmit ID 0x740
abbrev pub asked : Table
asked = (hands (opens empty (unit_at 5 0x305)).left 0 []).left

abbrev pub replied : Table
replied = (arrives 1024 asked 0x205 (0x00 ∷ 0xD0 ∷ 0x05 ∷ 0x03 ∷ 0x40 ∷ 0x07 ∷ 0x01 ∷ []) 0).left

pub replied-is : replied ≡ row (granted 5 0x305 0x740) rest rest
unfolding opens free_of reserved is_used uses_either allowed_by within bad_block tenths_of opening_as hands due_of request_due arrives owner_of hears listens_on arrived reply_read reply_for named_by on_reply
replied-is = refl

-- "0x200 + unit until its D0, then its receive ID"
pub before-its-d0 : (named (owner_of asked 0x205) ≡ Some 0) × (named (owner_of asked 0x305) ≡ None)
unfolding opens free_of reserved is_used uses_either allowed_by within bad_block tenths_of opening_as hands due_of request_due owner_of hears listens_on
before-its-d0 = (refl, refl)

pub behind-its-d0 : (named (owner_of (row (granted 5 0x305 0x740) rest rest) 0x205) ≡ None) × (named (owner_of (row (granted 5 0x305 0x740) rest rest) 0x305) ≡ Some 0)
unfolding owner_of hears listens_on
behind-its-d0 = (refl, refl)

-- a unit in use is refused behind its D0, and so is a receive ID
pub unit-in-use : opens (row (granted 5 0x305 0x740) rest rest) (unit_at 5 0x306) ≡ ten (row (granted 5 0x305 0x740) rest rest)
unfolding opens free_of reserved is_used uses_either allowed_by within bad_block tenths_of opening_as
unit-in-use = refl

pub receive-in-use : opens (row (granted 5 0x305 0x740) rest rest) (unit_at 6 0x305) ≡ ten (row (granted 5 0x305 0x740) rest rest)
unfolding opens free_of reserved is_used uses_either allowed_by within bad_block tenths_of opening_as
receive-in-use = refl

-- and on an open connection
pub open-in-use : opens (row rest (opened 5 0x305 0x740) rest) (unit_at 5 0x306) ≡ ten (row rest (opened 5 0x305 0x740) rest)
unfolding opens free_of reserved is_used uses_either allowed_by within bad_block tenths_of opening_as
open-in-use = refl

-- ---- a frame arrives

-- a frame for the second place, here an A8, is not given to the first, though that is open
pub second-hears : arrives 1024 (row (opened 1 0x301 0x741) (granted 2 0x302 0x742) (opened 3 0x303 0x743)) 0x302 (0xA8 ∷ []) 0
    ≡ record { told = plainly Disconnected 0; padded = false; place = Some 1; left = row (opened 1 0x301 0x741) (at_rest true 0x742) (opened 3 0x303 0x743) }
unfolding arrives owner_of hears listens_on arrived sorted_by on_agreeing kind_of
second-hears = refl

-- "closed, none": a closed place owns neither its receive ID nor 0x200 + unit
pub closed-owns-none : (named (owner_of (row (in_phase 0 5 0x305 0x745) rest rest) 0x305) ≡ None) × (named (owner_of (row (in_phase 0 5 0x305 0x745) rest rest) 0x205) ≡ None)
unfolding owner_of hears listens_on
closed-owns-none = (refl, refl)

-- with every place closed a frame is 3, whatever its ID and its bytes
pub all_closed : (limit id : ℕ) (s : List ℕ) (room : ℕ) → arrives limit (row rest rest rest) id s room ≡ three (row rest rest rest)
unfolding arrives owner_of hears listens_on
all_closed limit id s room = refl

-- a place that is closed by a call owns its ID no more
pub closed-by-a-call : named (owner_of (closes (row (opened 1 0x301 0x741) (opened 2 0x302 0x742) rest) 1).left 0x302) ≡ None
unfolding closes closed owner_of hears listens_on
closed-by-a-call = refl
