-- The rules while the A1 is awaited, and of what it opens, in other words: the A0 as bytes, and what is agreed field by field.
use Rattle.std.specs.Prelude.{if◌then◌else◌}
use Prim.Native.Nat.{ℕ, ◌*◌, ◌/◌, ◌%◌, ◌<◌, ◌≤◌, min}
use native.Mathlib.Omega.{arith}
use mathlib.Core.Bool.{true, false}
use mathlib.Core.List.{List, [], ◌∷◌}
use mathlib.Core.Path.{◌≡◌}
use borrow.Author.Tests.{eq-eqb, ne_eqb, lt-ltb, le-ltb}
use Rattle.laws.proofs.Cases.{either}
use Rattle.std.specs.declared.option.Option.TheVariants.{None, Some}
use Rattle.telegram.specs.Kinds.{bad_block, kind_of}
use Rattle.profile.specs.Profile.{sorted_by}
use Rattle.settings.proofs.Agreement.{unit, tenths-are}
use Rattle.channel.specs.declared.Answer.TheVariants.{Good, Disconnected, Malformed, BlockSize, NotDue}
use Rattle.connection.specs.declared.Connection.{Connection}
use Rattle.connection.specs.Record.{listens_on, hears}
use Rattle.connection.specs.Calls.{on_accept, on_agreeing, arrived, buffered, request_due, due_of, sent_by, taken_by, closed}
use Rattle.open_end.proofs.Rules.{plainly}
use Rattle.connection.proofs.Rules.{at_rest}

-- ---- the A0

module _ (c : Connection) (agreeing' : c.phase ≡ 2) where
  -- "Then on the transmit ID: A0, block size, T1, FF, T3, FF"; T_E starts, and it is asked
  pub due_of-setup : (m : List ℕ) → c.attempt.due ≡ true
      → due_of c m
      ≡ record {
        told = plainly Good 0;
        frame =
            Some
            (record {
              id = c.end.transmit;
              payload = record { len = 6; bytes = 0xA0 ∷ c.settings.block ∷ c.settings.t1 ∷ 0xFF ∷ c.settings.t3 ∷ 0xFF ∷ 0 ∷ 0 ∷ [] };
            });
        left =
            record {
              phase = 2;
              profile = c.profile;
              settings = c.settings;
              attempt = record { due = false; asked = true; wait = c.settings.t_e; repeats = c.attempt.repeats };
              leaving = c.leaving;
              end = c.end;
            };
      }
  unfolding due_of request_due
  due_of-setup m d = rw (agreeing', d)

  pub due_of-setup-out : (m : List ℕ) → c.attempt.due ≡ false → due_of c m ≡ record { told = plainly Good 0; frame = None; left = c }
  unfolding due_of request_due
  due_of-setup-out m d = rw (agreeing', d)

  -- no buffer is written
  pub buffered-agreeing : (limit id : ℕ) (s b : List ℕ) → buffered limit c id s b ≡ b
  unfolding buffered
  buffered-agreeing limit id s b = either (hears c id) (λ h. rw (h, agreeing')) (λ h. rw (h, agreeing'))

  -- row 4, "send or take while opening"
  pub sent_by-agreeing : (limit n : ℕ) → sent_by limit c n ≡ record { told = plainly NotDue 4; left = c }
  unfolding sent_by
  sent_by-agreeing limit n = rw agreeing'

  pub taken_by-agreeing : (room : ℕ) → taken_by c room ≡ record { told = plainly NotDue 4; len = 0; flags = 0; left = c }
  unfolding taken_by
  taken_by-agreeing room = rw agreeing'

  -- from the D0 on the transmit ID is known: close leaves one A8 due on it
  pub closed-agreeing : closed c ≡ record { told = plainly Good 0; left = at_rest true c.end.transmit }
  unfolding closed
  closed-agreeing = rw agreeing'

  -- ---- the A1

  module _ (limit id room : ℕ) (heard : id ≡ c.end.receive) (b t1 t2 t3 t4 : ℕ) where
    -- the A1 opens, and what is agreed: the smaller block size, our own T1, the peer's T3; repeats, T_WAIT, interval and allowance are ours, and without tests the interval is 0.
    -- "After the A1 all numbers start at 0, and no message received or in sending, due frame, wait or hold remains from before it"
    pub arrived-accept : 1 ≤ b → b ≤ 15 → c.attempt.asked ≡ true → c.settings.t1 < 256 → t3 < 256
        → arrived limit c id (0xA1 ∷ b ∷ t1 ∷ t2 ∷ t3 ∷ t4 ∷ []) room
        ≡ record {
          told = plainly Good 0;
          padded = false;
          left =
              record {
                phase = 3;
                profile = c.profile;
                settings = c.settings;
                attempt = record { due = false; asked = false; wait = 0; repeats = 0 };
                leaving = false;
                end =
                    record {
                      transmit = c.end.transmit;
                      receive = c.end.receive;
                      channel =
                          record {
                            parameters =
                                record {
                                  terms =
                                      record {
                                        block = min c.settings.block b;
                                        t1 = c.settings.t1 % 64 * unit (c.settings.t1 / 64);
                                        t3 = t3 % 64 * unit (t3 / 64);
                                        repeats = c.settings.mntb;
                                        t_wait = c.settings.t_wait;
                                      };
                                  interval = if c.profile.tests then c.settings.t_ct else 0;
                                  allowed = c.settings.mnct;
                                  own = record { block = c.settings.block; t1 = c.settings.t1; t3 = c.settings.t3 };
                                };
                            sender = record { length = 0; acked = 0; high = 0; next = 0; oldest = 0; count = 0; wait = 0; hold = 0; gap = 0 };
                            receiver =
                                record {
                                  at = record { expected = 0; discarding = false; begun = record { length = 0; flags = 0 }; fill = 0 };
                                  back = record { expected = 0; discarding = false; begun = record { length = 0; flags = 0 }; fill = 0 };
                                  complete = record { length = 0; flags = 0 };
                                  ack = record { due = false; ready = false; number = 0 };
                                };
                            tests = record { out = false; again = false; wait = 0; unanswered = 0; interval = if c.profile.tests then c.settings.t_ct else 0 };
                            accept = false;
                          };
                    };
              };
        }
    unfolding arrived hears listens_on kind_of sorted_by on_agreeing on_accept bad_block
    arrived-accept low high a s t =
        rw (agreeing', eq-eqb _ _ heard, a, ne_eqb b 0 (λ z. omega arith), le-ltb 15 b high, tenths-are c.settings.t1 s, tenths-are t3 t)

    -- "A reply before its request was ever handed over gives 4", whatever stands in it
    pub arrived-accept-early : c.attempt.asked ≡ false → arrived limit c id (0xA1 ∷ b ∷ t1 ∷ t2 ∷ t3 ∷ t4 ∷ []) room ≡ record { told = plainly NotDue 4; padded = false; left = c }
    unfolding arrived hears listens_on kind_of sorted_by on_agreeing on_accept
    arrived-accept-early a = rw (agreeing', eq-eqb _ _ heard, a)

    -- row 2, "A1 block size 0 or over 15": nothing changes
    pub arrived-accept-none : b ≡ 0 → c.attempt.asked ≡ true → arrived limit c id (0xA1 ∷ b ∷ t1 ∷ t2 ∷ t3 ∷ t4 ∷ []) room ≡ record { told = plainly BlockSize 2; padded = false; left = c }
    unfolding arrived hears listens_on kind_of sorted_by on_agreeing on_accept bad_block
    arrived-accept-none z a = rw (agreeing', eq-eqb _ _ heard, a, z)

    pub arrived-accept-over : 15 < b → c.attempt.asked ≡ true → arrived limit c id (0xA1 ∷ b ∷ t1 ∷ t2 ∷ t3 ∷ t4 ∷ []) room ≡ record { told = plainly BlockSize 2; padded = false; left = c }
    unfolding arrived hears listens_on kind_of sorted_by on_agreeing on_accept bad_block
    arrived-accept-over o a = rw (agreeing', eq-eqb _ _ heard, a, ne_eqb b 0 (λ z. omega arith), lt-ltb 15 b o)

  module _ (limit id room : ℕ) (heard : id ≡ c.end.receive) where
    -- "While A1 is awaited, only A1 and A8 are due kinds": "Disconnect: closed, one A8 due", asked or not
    pub arrived-agreeing-disconnect : arrived limit c id (0xA8 ∷ []) room ≡ record { told = plainly Disconnected 0; padded = false; left = at_rest true c.end.transmit }
    unfolding arrived hears listens_on kind_of sorted_by on_agreeing
    arrived-agreeing-disconnect = rw (agreeing', eq-eqb _ _ heard)

    -- so a test, a break and an A0 give 4; where the profile has no tests, "A3 and A4 are answer 1" (02, 10: `no-test-awaited`)
    pub arrived-agreeing-test : c.profile.tests ≡ true → arrived limit c id (0xA3 ∷ []) room ≡ record { told = plainly NotDue 4; padded = false; left = c }
    unfolding arrived hears listens_on kind_of sorted_by on_agreeing
    arrived-agreeing-test t = rw (agreeing', eq-eqb _ _ heard, t)

    pub arrived-agreeing-break : c.profile.tests ≡ true → arrived limit c id (0xA4 ∷ []) room ≡ record { told = plainly NotDue 4; padded = false; left = c }
    unfolding arrived hears listens_on kind_of sorted_by on_agreeing
    arrived-agreeing-break t = rw (agreeing', eq-eqb _ _ heard, t)

    pub arrived-agreeing-setup : (b t1 t2 t3 t4 : ℕ) → arrived limit c id (0xA0 ∷ b ∷ t1 ∷ t2 ∷ t3 ∷ t4 ∷ []) room ≡ record { told = plainly NotDue 4; padded = false; left = c }
    unfolding arrived hears listens_on kind_of sorted_by on_agreeing
    arrived-agreeing-setup b t1 t2 t3 t4 = rw (agreeing', eq-eqb _ _ heard)

    -- and a ready Ack, and data of two bytes with AR and EOM, both of number 0
    pub arrived-agreeing-ack : arrived limit c id (0xB0 ∷ []) room ≡ record { told = plainly NotDue 4; padded = false; left = c }
    unfolding arrived hears listens_on kind_of sorted_by on_agreeing
    arrived-agreeing-ack = rw (agreeing', eq-eqb _ _ heard)

    pub arrived-agreeing-data : (x : ℕ) → arrived limit c id (0x10 ∷ x ∷ []) room ≡ record { told = plainly NotDue 4; padded = false; left = c }
    unfolding arrived hears listens_on kind_of sorted_by on_agreeing
    arrived-agreeing-data x = rw (agreeing', eq-eqb _ _ heard)

    -- what is badly formed gives 1: an A2, an A1 of a byte
    pub arrived-agreeing-malformed : (arrived limit c id (0xA2 ∷ []) room ≡ record { told = plainly Malformed 1; padded = false; left = c }) × (arrived limit c id (0xA1 ∷ []) room ≡ record { told = plainly Malformed 1; padded = false; left = c })
    unfolding arrived hears listens_on kind_of sorted_by on_agreeing
    arrived-agreeing-malformed = (rw (agreeing', eq-eqb _ _ heard), rw (agreeing', eq-eqb _ _ heard))
