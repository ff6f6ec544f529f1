-- The rules of a C0 and of its replies in other words: on 0x200 in every state, as bytes, and the record that is left, field by field.
use Prim.Native.Nat.{ℕ, ◌+◌, ◌*◌, ◌/◌, ◌%◌, ◌<◌, ◌≤◌}
use mathlib.Core.Bool.{false, not}
use mathlib.Core.List.{List, [], ◌∷◌}
use mathlib.Core.Logic.{◌≢◌, ◌⊎◌, inl, inr}
use mathlib.Core.Path.{◌≡◌, refl}
use lib.Dec.{eqb}
use borrow.Author.Tests.{lt-ltb, le-ltb, eq-eqb, ne_eqb}
use Rattle.laws.proofs.Branches.{and-off'}
use Rattle.std.specs.declared.option.Option.TheVariants.{Some}
use Rattle.telegram.specs.Forms.{Bytes, formless}
use Rattle.opening.specs.Opening.{request_read, Request, NoRequest}
use Rattle.opening.specs.Forms.{RequestForm}
use Rattle.opening.proofs.Rules.{request-reads}
use Rattle.channel.specs.declared.Answer.TheVariants.{Good, Malformed}
use Rattle.open_end.specs.declared.answers.Answer.TheVariants.{OtherId, Ended}
use Rattle.open_end.specs.declared.answers.Told.{Told}
use Rattle.open_end.specs.declared.Frame.{Frame}
use Rattle.open_end.proofs.Rules.{no_channel, plainly}
use Rattle.unit.specs.declared.ControlUnit.{ControlUnit}
use Rattle.unit.specs.Record.{is_open}
use Rattle.unit.specs.Calls.{ends, on_request, arrived, buffered, due_of}
use Rattle.unit.proofs.Rules.{resting}

-- ---- literals

-- "A C0 or A0 that ends a message in sending is answered 8"
abbrev pub ended : Told
ended = record { answer = Ended; said = record { number = 8; done = false; opcode = 0 } }

-- 3, nothing more
abbrev pub elsewhere : Told
elsewhere = record { answer = OtherId; said = record { number = 3; done = false; opcode = 0 } }

-- a reply due to an asker: nothing is left of what was there
abbrev pub replying : ControlUnit → (phase : ℕ) → (asker : ℕ) → ControlUnit
replying c phase asker =
    record { phase = phase; reply = c.reply; settings = c.settings; end = record { transmit = asker; receive = c.settings.receive; channel = no_channel } }

-- no message is in sending: the unit is not open, or has none
abbrev pub NoneInSending : ControlUnit → Type 0
NoneInSending c = (c.phase ≤ 5) ⊎ (c.end.channel.sender.length ≡ 0)

-- ---- the answer to a C0 or an A0

module _ (c next : ControlUnit) where
  -- where no message is in sending, 0 (B46)
  pub ends-good : NoneInSending c → ends c next ≡ record { told = plainly Good 0; left = next }
  unfolding ends
  ends-good (inl h) = rw (le-ltb 5 c.phase h)
  ends-good (inr e) = rw (and-off' (is_open c) (not (eqb c.end.channel.sender.length 0)) (rw e))

  -- and where one is, 8
  pub ends-sending : 6 ≤ c.phase → c.end.channel.sender.length ≢ 0 → ends c next ≡ record { told = ended; left = next }
  unfolding ends
  ends-sending h some = rw (lt-ltb 5 c.phase h, ne_eqb c.end.channel.sender.length 0 some)

-- ---- a C0

module _ (c : ControlUnit) (limit room : ℕ) where
  -- a C0 in bytes, for this unit, by an end that receives on low + 256 * high: it is our transmit ID from then on (B42)
  module _ (low high : ℕ) (h : high < 8) where
    -- "it answers C0 in any state with D0 .. as set": the D0 is due, and nothing else; "ending what was there"
    pub arrived-request : c.reply ≡ 0xD0 → NoneInSending c
        → arrived limit c 0x200 (c.settings.unit ∷ 0xC0 ∷ 0x00 ∷ 0x10 ∷ low ∷ high ∷ 0x01 ∷ []) room
        ≡ record { told = plainly Good 0; padded = false; left = replying c 3 (low + 256 * high) }
    unfolding arrived request_read on_request
    arrived-request d none = rw (lt-ltb high 8 h, eq-eqb c.settings.unit c.settings.unit refl, ends-good c _ none, d)

    -- "D6, D7 or D8 as set (.. after the last three it is closed)": closed, the refusal due
    pub arrived-refused : c.reply ≢ 0xD0 → NoneInSending c
        → arrived limit c 0x200 (c.settings.unit ∷ 0xC0 ∷ 0x00 ∷ 0x10 ∷ low ∷ high ∷ 0x01 ∷ []) room
        ≡ record { told = plainly Good 0; padded = false; left = replying c 2 (low + 256 * high) }
    unfolding arrived request_read on_request
    arrived-refused d none = rw (lt-ltb high 8 h, eq-eqb c.settings.unit c.settings.unit refl, ends-good c _ none, ne_eqb c.reply 0xD0 d)

    -- "A C0 .. that ends a message in sending is answered 8, its reply due"
    pub arrived-request-ending : c.reply ≡ 0xD0 → 6 ≤ c.phase → c.end.channel.sender.length ≢ 0
        → arrived limit c 0x200 (c.settings.unit ∷ 0xC0 ∷ 0x00 ∷ 0x10 ∷ low ∷ high ∷ 0x01 ∷ []) room
        ≡ record { told = ended; padded = false; left = replying c 3 (low + 256 * high) }
    unfolding arrived request_read on_request
    arrived-request-ending d o some = rw (lt-ltb high 8 h, eq-eqb c.settings.unit c.settings.unit refl, ends-sending c _ o some, d)

    pub arrived-refused-ending : c.reply ≢ 0xD0 → 6 ≤ c.phase → c.end.channel.sender.length ≢ 0
        → arrived limit c 0x200 (c.settings.unit ∷ 0xC0 ∷ 0x00 ∷ 0x10 ∷ low ∷ high ∷ 0x01 ∷ []) room
        ≡ record { told = ended; padded = false; left = replying c 2 (low + 256 * high) }
    unfolding arrived request_read on_request
    arrived-refused-ending d o some = rw (lt-ltb high 8 h, eq-eqb c.settings.unit c.settings.unit refl, ends-sending c _ o some, ne_eqb c.reply 0xD0 d)

    -- "one for another unit 3", in every state, nothing changed
    pub arrived-other-unit : (unit : ℕ) → unit ≢ c.settings.unit
        → arrived limit c 0x200 (unit ∷ 0xC0 ∷ 0x00 ∷ 0x10 ∷ low ∷ high ∷ 0x01 ∷ []) room ≡ record { told = elsewhere; padded = false; left = c }
    unfolding arrived request_read on_request
    arrived-other-unit unit other = rw (lt-ltb high 8 h, ne_eqb unit c.settings.unit other)

  -- "all but a well-formed C0 gives 1 there", in every state, nothing changed
  pub arrived-no-request : (s : List ℕ) → ((q : Request) → RequestForm s q → ⊥) → Bytes s → arrived limit c 0x200 s room ≡ record { told = plainly Malformed 1; padded = false; left = c }
  unfolding arrived on_request
  arrived-no-request s none bytes = rw ((request-reads s bytes NoRequest).1 (formless none))

  -- 0x200 is heard before the receive ID, and writes to no buffer
  pub buffered-request : (s b : List ℕ) → buffered limit c 0x200 s b ≡ b
  unfolding buffered
  buffered-request s b = refl

-- ---- the replies

-- 7 bytes from 0x200 + unit: 00, opcode, the asker's receive ID low and high, our own receive ID low and high, 01
abbrev pub reply_bytes : ControlUnit → (opcode : ℕ) → Frame
reply_bytes c opcode =
    record {
      id = 0x200 + c.settings.unit;
      payload =
          record {
            len = 7;
            bytes =
                0x00 ∷ opcode ∷ c.end.transmit % 256 ∷ c.end.transmit / 256 % 8 ∷ c.settings.receive % 256 ∷ c.settings.receive / 256 % 8 ∷ 0x01 ∷ 0 ∷ [];
          };
    }

module _ (c : ControlUnit) (m : List ℕ) where
  -- the D0: with its hand-over it is out, and nothing else changes
  pub due_of-replying : c.phase ≡ 3
      → due_of c m
      ≡ record { told = plainly Good 0; frame = Some (reply_bytes c 0xD0); left = record { phase = 4; reply = c.reply; settings = c.settings; end = c.end } }
  unfolding due_of
  due_of-replying e = rw e

  -- "all filled in like D0; after the last three it is closed": nothing is due then, and the settings stay
  pub due_of-refusing : c.phase ≡ 2
      → due_of c m ≡ record { told = plainly Good 0; frame = Some (reply_bytes c c.reply); left = resting c.settings c.reply }
  unfolding due_of
  due_of-refusing e = rw e
