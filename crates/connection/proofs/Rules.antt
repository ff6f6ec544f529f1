-- The rules of a record in other words: phases as numbers, requests and replies as bytes, and whole records field by field, none through the definitions that they speak of.
use Prim.Native.Nat.{ℕ, ◌+◌, ◌*◌, ◌/◌, ◌%◌, ◌<◌, ◌≤◌}
use native.Mathlib.Omega.{arith}
use mathlib.Core.Bool.{Bool, true, false, and-false}
use mathlib.Core.List.{List, [], ◌∷◌}
use mathlib.Core.Logic.{◌≢◌, ◌⊎◌, inl, inr}
use mathlib.Core.Path.{◌≡◌, refl}
use lib.ListN.{length}
use borrow.Author.Tests.{eq-eqb, ne_eqb, lt-ltb, le-leb, lt-leb}
use Rattle.laws.proofs.Branches.{and-off'}
use Rattle.laws.proofs.Cases.{either}
use Rattle.std.specs.declared.option.Option.TheVariants.{None, Some}
use Rattle.opening.specs.Opening.{clear, reply_read}
use Rattle.opening.specs.Short.{short_reply_read}
use Rattle.profile.specs.Profile.{within}
use Rattle.profile.specs.Opening.{request_for, named, reply_for}
use Rattle.profile.specs.declared.Profile.{Profile}
use Rattle.settings.specs.Settings.{allowed_by, allowed}
use Rattle.settings.specs.declared.Settings.{Settings}
use Rattle.channel.specs.declared.Answer.TheVariants.{Good, Malformed, NotDue}
use Rattle.open_end.specs.declared.answers.Answer.TheVariants.{OtherId, OutOfRange, Refused}
use Rattle.open_end.proofs.Rules.{no_channel, plainly}
use Rattle.connection.specs.declared.Connection.{Connection}
use Rattle.connection.specs.Record.{closed_record, leaving_on, listens_on, hears}
use Rattle.connection.specs.Calls.{opening_as, opening, on_reply, arrived, buffered, elapsed, closed_due, request_due, due_of, sent_by, taken_by, closed}

-- ---- literals

-- the default settings: receive ID 0x300, unit 0x01, block size 8, T1 0x8A, T3 0x32, T_E 1,000, MNTC 10, repeats 5, T_WAIT 1,000, interval 10,000, tests 5
abbrev pub standard : Settings
standard =
    record {
      receive = 768;
      unit = 1;
      block = 8;
      t1 = 138;
      t3 = 50;
      t_e = 1000;
      mntc = 10;
      mntb = 5;
      t_wait = 1000;
      t_ct = 10000;
      mnct = 5;
    }

-- TP 2.0: C0 from 0x200, the reply from 0x200 + unit, units to 0xEF, IDs of eleven bits
abbrev pub plain : Profile
plain =
    record {
      request = 512;
      reply = 512;
      offset = 0;
      units = record { least = 0; most = 239 };
      receives = record { least = 0; most = 2047 };
      transmits = record { least = 0; most = 2047 };
      short = false;
      tests = true;
      least_t3 = 0;
      bounded = false;
    }

-- a closed record; with an A8 due or not, on a transmit ID
abbrev pub at_rest : (leaving : Bool) → (transmit : ℕ) → Connection
at_rest leaving transmit =
    record {
      phase = 0;
      profile = plain;
      settings = standard;
      attempt = record { due = false; asked = false; wait = 0; repeats = 0 };
      leaving = leaving;
      end = record { transmit = transmit; receive = 0; channel = no_channel };
    }

-- ---- closed records

-- "A closed connection .. can be had without any input": with the default settings, no IDs, an empty channel, and nothing due
pub closed_is : closed_record ≡ at_rest false 0
closed_is = refl

-- a closed connection with one A8 due has that transmit ID, and nothing else
pub leaving-is : (transmit : ℕ) → leaving_on transmit ≡ at_rest true transmit
leaving-is transmit = refl

module _ (c : Connection) (closed' : c.phase ≡ 0) where
  -- a closed record listens on no ID
  pub hears-closed : (id : ℕ) → hears c id ≡ false
  unfolding listens_on hears
  hears-closed id = rw closed'

  -- "any frame, send, take or close on a closed record" gives 4, and nothing changes
  pub arrived-closed : (limit id : ℕ) (s : List ℕ) (room : ℕ) → arrived limit c id s room ≡ record { told = plainly NotDue 4; padded = false; left = c }
  unfolding arrived
  arrived-closed limit id s room = rw closed'

  pub sent_by-closed : (limit n : ℕ) → sent_by limit c n ≡ record { told = plainly NotDue 4; left = c }
  unfolding sent_by
  sent_by-closed limit n = rw closed'

  pub taken_by-closed : (room : ℕ) → taken_by c room ≡ record { told = plainly NotDue 4; len = 0; flags = 0; left = c }
  unfolding taken_by
  taken_by-closed room = rw closed'

  pub closed-closed : closed c ≡ record { told = plainly NotDue 4; left = c }
  unfolding closed
  closed-closed = rw closed'

  -- no buffer is written
  pub buffered-closed : (limit id : ℕ) (s b : List ℕ) → buffered limit c id s b ≡ b
  unfolding buffered
  buffered-closed limit id s b = rw closed'

  -- "Time and due calls are good in every state: with nothing due the answer is 0 and no frame"
  pub elapsed-closed : (n : ℕ) → elapsed c n ≡ record { told = plainly Good 0; left = c }
  unfolding elapsed
  elapsed-closed n = rw closed'

  pub due_of-closed : (m : List ℕ) → c.leaving ≡ false → due_of c m ≡ record { told = plainly Good 0; frame = None; left = c }
  unfolding due_of closed_due
  due_of-closed m l = rw (closed', l)

  -- the A8 goes out once, on the transmit ID: behind it nothing is due, and no ID is kept
  pub due_of-leaving : (m : List ℕ) → c.leaving ≡ true
      → due_of c m
      ≡ record {
        told = plainly Good 0;
        frame = Some (record { id = c.end.transmit; payload = record { len = 1; bytes = 0xA8 ∷ 0 ∷ 0 ∷ 0 ∷ 0 ∷ 0 ∷ 0 ∷ 0 ∷ [] } });
        left = at_rest false 0;
      }
  unfolding due_of closed_due
  due_of-leaving m l = rw (closed', l)

-- ---- open

-- what opening in a profile leaves: profile and settings as given, the C0 due, unasked, unrepeated, no wait running; an A8 that was due is discarded, and no ID is known
pub opening_as-leaves : (c : Connection) (p : Profile) (s : Settings) → c.phase ≡ 0 → allowed_by p s ≡ true
    → opening_as c p s
    ≡ record {
      told = plainly Good 0;
      left =
          record {
            phase = 1;
            profile = p;
            settings = s;
            attempt = record { due = true; asked = false; wait = 0; repeats = 0 };
            leaving = false;
            end = record { transmit = 0; receive = 0; channel = no_channel };
          };
    }
unfolding opening_as
opening_as-leaves c p s z a = rw (z, a)

-- "Open: 4 if not closed", whatever the profile and the settings
pub opening_as-not-closed : (c : Connection) (p : Profile) (s : Settings) → c.phase ≢ 0 → opening_as c p s ≡ record { told = plainly NotDue 4; left = c }
unfolding opening_as
opening_as-not-closed c p s n = rw (ne_eqb c.phase 0 n)

-- "then 10": nothing changes, and an A8 that was due stays due
pub opening_as-out-of-range : (c : Connection) (p : Profile) (s : Settings) → c.phase ≡ 0 → allowed_by p s ≡ false
    → opening_as c p s ≡ record { told = record { answer = OutOfRange; said = record { number = 10; done = false; opcode = 0 } }; left = c }
unfolding opening_as
opening_as-out-of-range c p s z a = rw (z, a)

-- open is opening in TP 2.0
pub opening-plain : (c : Connection) (s : Settings) → opening c s ≡ opening_as c plain s
opening-plain c s = refl

pub opening-leaves : (c : Connection) (s : Settings) → c.phase ≡ 0 → allowed s ≡ true
    → opening c s
    ≡ record {
      told = plainly Good 0;
      left =
          record {
            phase = 1;
            profile = plain;
            settings = s;
            attempt = record { due = true; asked = false; wait = 0; repeats = 0 };
            leaving = false;
            end = record { transmit = 0; receive = 0; channel = no_channel };
          };
    }
opening-leaves c s = opening_as-leaves c plain s

-- ---- the ID asked by 3

-- "The ID asked by 3 is 0x200 + unit until D0": the profile's, 0x200 in TP 2.0
pub arrived-other-id-1 : (limit : ℕ) (c : Connection) (id : ℕ) (s : List ℕ) (room : ℕ) → c.phase ≡ 1 → id ≢ c.profile.reply + c.settings.unit
    → arrived limit c id s room ≡ record { told = record { answer = OtherId; said = record { number = 3; done = false; opcode = 0 } }; padded = false; left = c }
unfolding arrived hears listens_on
arrived-other-id-1 limit c id s room p other = rw (p, ne_eqb id (c.profile.reply + c.settings.unit) other)

-- "then our receive ID"
pub arrived-other-id : (limit : ℕ) (c : Connection) (id : ℕ) (s : List ℕ) (room : ℕ) → 2 ≤ c.phase → id ≢ c.end.receive
    → arrived limit c id s room ≡ record { told = record { answer = OtherId; said = record { number = 3; done = false; opcode = 0 } }; padded = false; left = c }
unfolding arrived hears listens_on
arrived-other-id limit c id s room p other =
    rw (ne_eqb c.phase 0 (λ e. omega arith), ne_eqb c.phase 1 (λ e. omega arith), ne_eqb id c.end.receive other)

-- ---- the C0 is unanswered

module _ (c : Connection) (requesting' : c.phase ≡ 1) where
  -- the record once its C0 was handed over: T_E starts, and it is asked
  abbrev asked : Connection
  asked =
      record {
        phase = 1;
        profile = c.profile;
        settings = c.settings;
        attempt = record { due = false; asked = true; wait = c.settings.t_e; repeats = c.attempt.repeats };
        leaving = c.leaving;
        end = c.end;
      }

  -- "From CAN ID 0x200, 7 bytes: unit, C0, 00, 10, receive ID low, receive ID high, 01"
  pub due_of-request : (m : List ℕ) → c.profile ≡ plain → c.attempt.due ≡ true
      → due_of c m
      ≡ record {
        told = plainly Good 0;
        frame =
            Some
            (record {
              id = 0x200;
              payload =
                  record {
                    len = 7;
                    bytes = c.settings.unit ∷ 0xC0 ∷ 0x00 ∷ 0x10 ∷ c.settings.receive % 256 ∷ c.settings.receive / 256 % 8 ∷ 0x01 ∷ 0 ∷ [];
                  };
            });
        left = asked;
      }
  unfolding due_of request_due request_for
  due_of-request m t d = rw (requesting', d, t)

  -- in TP 1.6 three bytes, on the profile's ID: unit, C0, the lower 8 bits of our receive ID (001, 5.1)
  pub due_of-request-16 : (m : List ℕ) → c.profile.short ≡ true → c.attempt.due ≡ true
      → due_of c m
      ≡ record {
        told = plainly Good 0;
        frame = Some (record { id = c.profile.request; payload = record { len = 3; bytes = c.settings.unit ∷ 0xC0 ∷ c.settings.receive % 256 ∷ 0 ∷ 0 ∷ 0 ∷ 0 ∷ 0 ∷ [] } });
        left = asked;
      }
  unfolding due_of request_due request_for
  due_of-request-16 m t d = rw (requesting', d, t)

  pub due_of-requested : (m : List ℕ) → c.attempt.due ≡ false → due_of c m ≡ record { told = plainly Good 0; frame = None; left = c }
  unfolding due_of request_due
  due_of-requested m d = rw (requesting', d)

  -- the record once the D0 named a transmit ID: the A0 is due, unasked and unrepeated, and we listen on our receive ID
  abbrev answered : (transmit : ℕ) → Connection
  answered transmit =
      record {
        phase = 2;
        profile = c.profile;
        settings = c.settings;
        attempt = record { due = true; asked = false; wait = 0; repeats = 0 };
        leaving = false;
        end = record { transmit = transmit; receive = c.settings.receive; channel = no_channel };
      }

  module _ (limit id room : ℕ) (heard : id ≡ c.profile.reply + c.settings.unit) where
    -- ---- in TP 2.0, seven bytes

    module _ (tp20 : c.profile ≡ plain) where
      -- the reply 00, D0, our receive ID, our transmit ID, 01
      pub arrived-positive : (low high tlow thigh : ℕ) → high < 8 → low + 256 * high ≡ c.settings.receive → tlow < 256 → thigh < 8 → c.attempt.asked ≡ true
          → arrived limit c id (0x00 ∷ 0xD0 ∷ low ∷ high ∷ tlow ∷ thigh ∷ 0x01 ∷ []) room ≡ record { told = plainly Good 0; padded = false; left = answered (tlow + 256 * thigh) }
      unfolding arrived hears listens_on reply_read reply_for named within on_reply
      arrived-positive low high tlow thigh h own l t a =
          let whole : 0 + (tlow + 256 * thigh) ≡ tlow + 256 * thigh = omega arith in
          rw (requesting', eq-eqb _ _ heard, tp20, lt-ltb _ _ h, eq-eqb _ _ own, lt-ltb _ _ t, whole, le-leb 0 (tlow + 256 * thigh) (omega arith), le-leb (tlow + 256 * thigh) 2047 (omega arith), a)

      -- "A reply before its request was ever handed over gives 4"
      pub arrived-positive-early : (low high tlow thigh : ℕ) → high < 8 → low + 256 * high ≡ c.settings.receive → tlow < 256 → thigh < 8 → c.attempt.asked ≡ false
          → arrived limit c id (0x00 ∷ 0xD0 ∷ low ∷ high ∷ tlow ∷ thigh ∷ 0x01 ∷ []) room ≡ record { told = plainly NotDue 4; padded = false; left = c }
      unfolding arrived hears listens_on reply_read reply_for named within on_reply
      arrived-positive-early low high tlow thigh h own l t a =
          let whole : 0 + (tlow + 256 * thigh) ≡ tlow + 256 * thigh = omega arith in
          rw (requesting', eq-eqb _ _ heard, tp20, lt-ltb _ _ h, eq-eqb _ _ own, lt-ltb _ _ t, whole, le-leb 0 (tlow + 256 * thigh) (omega arith), le-leb (tlow + 256 * thigh) 2047 (omega arith), a)

      -- "D6 .., D7 .., D8 .. end the opening at once; of these only length, byte 0 and opcode are checked": 11 with that opcode, "record closed, nothing due"
      pub arrived-refused : (opcode x y z w v : ℕ) → (opcode ≡ 0xD6) ⊎ ((opcode ≡ 0xD7) ⊎ (opcode ≡ 0xD8)) → c.attempt.asked ≡ true
          → arrived limit c id (0x00 ∷ opcode ∷ x ∷ y ∷ z ∷ w ∷ v ∷ []) room
          ≡ record { told = record { answer = Refused opcode; said = record { number = 11; done = false; opcode = opcode } }; padded = false; left = at_rest false 0 }
      unfolding arrived hears listens_on reply_read reply_for named on_reply
      arrived-refused opcode x y z w v (inl e) a = rw (requesting', eq-eqb _ _ heard, tp20, e, a)
      arrived-refused opcode x y z w v (inr (inl e)) a = rw (requesting', eq-eqb _ _ heard, tp20, e, a)
      arrived-refused opcode x y z w v (inr (inr e)) a = rw (requesting', eq-eqb _ _ heard, tp20, e, a)

      pub arrived-refused-early : (opcode x y z w v : ℕ) → (opcode ≡ 0xD6) ⊎ ((opcode ≡ 0xD7) ⊎ (opcode ≡ 0xD8)) → c.attempt.asked ≡ false
          → arrived limit c id (0x00 ∷ opcode ∷ x ∷ y ∷ z ∷ w ∷ v ∷ []) room ≡ record { told = plainly NotDue 4; padded = false; left = c }
      unfolding arrived hears listens_on reply_read reply_for named on_reply
      arrived-refused-early opcode x y z w v (inl e) a = rw (requesting', eq-eqb _ _ heard, tp20, e, a)
      arrived-refused-early opcode x y z w v (inr (inl e)) a = rw (requesting', eq-eqb _ _ heard, tp20, e, a)
      arrived-refused-early opcode x y z w v (inr (inr e)) a = rw (requesting', eq-eqb _ _ heard, tp20, e, a)

      -- "All else from that ID is badly formed": what has not seven bytes gives 1, asked or not
      pub arrived-other-length : (s : List ℕ) → length s ≢ 7 → arrived limit c id s room ≡ record { told = plainly Malformed 1; padded = false; left = c }
      unfolding arrived hears listens_on reply_read reply_for named on_reply
      arrived-other-length s other = rw (requesting', eq-eqb _ _ heard, tp20, ne_eqb (length s) 7 other)

      -- and a positive reply that gives another receive ID back
      pub arrived-other-back : (low high tlow thigh : ℕ) → low + 256 * high ≢ c.settings.receive
          → arrived limit c id (0x00 ∷ 0xD0 ∷ low ∷ high ∷ tlow ∷ thigh ∷ 0x01 ∷ []) room ≡ record { told = plainly Malformed 1; padded = false; left = c }
      unfolding arrived hears listens_on reply_read reply_for named on_reply
      arrived-other-back low high tlow thigh other =
          rw (requesting', eq-eqb _ _ heard, tp20, ne_eqb (low + 256 * high) c.settings.receive other, and-off' (clear high) false refl)

    -- ---- in TP 1.6, three bytes (001, 5.1)

    module _ (three : c.profile.short ≡ true) where
      -- 00, D0, channel ID: it is added to the offset, and the sum lies in the profile's range
      pub arrived-positive-16 : (b : ℕ) → c.profile.transmits.least ≤ c.profile.offset + b → c.profile.offset + b ≤ c.profile.transmits.most → c.attempt.asked ≡ true
          → arrived limit c id (0x00 ∷ 0xD0 ∷ b ∷ []) room ≡ record { told = plainly Good 0; padded = false; left = answered (c.profile.offset + b) }
      unfolding arrived hears listens_on short_reply_read reply_for named within on_reply
      arrived-positive-16 b least most a = rw (requesting', eq-eqb _ _ heard, three, le-leb _ _ least, le-leb _ _ most, a)

      -- before the C0 was ever handed over it gives 4
      pub arrived-positive-early-16 : (b : ℕ) → c.profile.transmits.least ≤ c.profile.offset + b → c.profile.offset + b ≤ c.profile.transmits.most → c.attempt.asked ≡ false
          → arrived limit c id (0x00 ∷ 0xD0 ∷ b ∷ []) room ≡ record { told = plainly NotDue 4; padded = false; left = c }
      unfolding arrived hears listens_on short_reply_read reply_for named within on_reply
      arrived-positive-early-16 b least most a = rw (requesting', eq-eqb _ _ heard, three, le-leb _ _ least, le-leb _ _ most, a)

      -- "an ID in a reply [outside is] answer 1", below the range and beyond it, asked or not
      pub arrived-below-16 : (b : ℕ) → c.profile.offset + b < c.profile.transmits.least
          → arrived limit c id (0x00 ∷ 0xD0 ∷ b ∷ []) room ≡ record { told = plainly Malformed 1; padded = false; left = c }
      unfolding arrived hears listens_on short_reply_read reply_for named within on_reply
      arrived-below-16 b below = rw (requesting', eq-eqb _ _ heard, three, lt-leb _ _ below)

      pub arrived-beyond-16 : (b : ℕ) → c.profile.transmits.most < c.profile.offset + b
          → arrived limit c id (0x00 ∷ 0xD0 ∷ b ∷ []) room ≡ record { told = plainly Malformed 1; padded = false; left = c }
      unfolding arrived hears listens_on short_reply_read reply_for named within on_reply
      arrived-beyond-16 b beyond = rw (requesting', eq-eqb _ _ heard, three, lt-leb _ _ beyond, and-false)

      -- "negative reply D8 only": 11 with that opcode, whatever byte is behind it; before the C0 was handed over 4
      pub arrived-refused-16 : (b : ℕ) → c.attempt.asked ≡ true
          → arrived limit c id (0x00 ∷ 0xD8 ∷ b ∷ []) room
          ≡ record { told = record { answer = Refused 0xD8; said = record { number = 11; done = false; opcode = 0xD8 } }; padded = false; left = at_rest false 0 }
      unfolding arrived hears listens_on short_reply_read reply_for named on_reply
      arrived-refused-16 b a = rw (requesting', eq-eqb _ _ heard, three, a)

      pub arrived-refused-early-16 : (b : ℕ) → c.attempt.asked ≡ false
          → arrived limit c id (0x00 ∷ 0xD8 ∷ b ∷ []) room ≡ record { told = plainly NotDue 4; padded = false; left = c }
      unfolding arrived hears listens_on short_reply_read reply_for named on_reply
      arrived-refused-early-16 b a = rw (requesting', eq-eqb _ _ heard, three, a)

      -- so every other opcode gives 1, D6 and D7 too
      pub arrived-other-opcode-16 : (opcode b : ℕ) → opcode ≢ 0xD0 → opcode ≢ 0xD8
          → arrived limit c id (0x00 ∷ opcode ∷ b ∷ []) room ≡ record { told = plainly Malformed 1; padded = false; left = c }
      unfolding arrived hears listens_on short_reply_read reply_for named on_reply
      arrived-other-opcode-16 opcode b not-d0 not-d8 = rw (requesting', eq-eqb _ _ heard, three, ne_eqb opcode 0xD8 not-d8, ne_eqb opcode 0xD0 not-d0)

      -- and what has not three bytes, or a first byte that is not 00
      pub arrived-other-length-16 : (s : List ℕ) → length s ≢ 3 → arrived limit c id s room ≡ record { told = plainly Malformed 1; padded = false; left = c }
      unfolding arrived hears listens_on short_reply_read reply_for named on_reply
      arrived-other-length-16 s other = rw (requesting', eq-eqb _ _ heard, three, ne_eqb (length s) 3 other)

      pub arrived-other-first-16 : (first opcode b : ℕ) → first ≢ 0x00
          → arrived limit c id (first ∷ opcode ∷ b ∷ []) room ≡ record { told = plainly Malformed 1; padded = false; left = c }
      unfolding arrived hears listens_on short_reply_read reply_for named on_reply
      arrived-other-first-16 first opcode b other = rw (requesting', eq-eqb _ _ heard, three, ne_eqb first 0x00 other)

  -- no buffer is written
  pub buffered-requesting : (limit id : ℕ) (s b : List ℕ) → buffered limit c id s b ≡ b
  unfolding buffered
  buffered-requesting limit id s b = either (hears c id) (λ h. rw (h, requesting')) (λ h. rw (h, requesting'))

  -- row 4, "send or take while opening"
  pub sent_by-requesting : (limit n : ℕ) → sent_by limit c n ≡ record { told = plainly NotDue 4; left = c }
  unfolding sent_by
  sent_by-requesting limit n = rw requesting'

  pub taken_by-requesting : (room : ℕ) → taken_by c room ≡ record { told = plainly NotDue 4; len = 0; flags = 0; left = c }
  unfolding taken_by
  taken_by-requesting room = rw requesting'

  -- "leaves one A8 due if the transmit ID is known, else nothing": before the D0 it isn't
  pub closed-requesting : closed c ≡ record { told = plainly Good 0; left = at_rest false 0 }
  unfolding closed
  closed-requesting = rw requesting'
