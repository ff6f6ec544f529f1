-- The rules from the C0 to the A1's hand-over in other words: which kinds are due, the A0 and the A1 as bytes, and what is agreed field by field.
use Prim.Native.Nat.{ℕ, ◌*◌, ◌/◌, ◌%◌, ◌<◌, ◌≤◌, min}
use native.Mathlib.Omega.{arith}
use mathlib.Core.Bool.{true, false}
use mathlib.Core.List.{List, [], ◌∷◌}
use mathlib.Core.Logic.{◌≢◌}
use mathlib.Core.Path.{◌≡◌, ◌∙◌}
use borrow.Author.Tests.{lt-ltb, le-ltb, eq-eqb, ne_eqb}
use Rattle.laws.proofs.Cases.{by_le}
use Rattle.std.specs.declared.option.Option.TheVariants.{Some}
use Rattle.telegram.specs.Kinds.{bad_block, kind_of, sorted}
use Rattle.settings.proofs.Agreement.{unit, tenths-are}
use Rattle.channel.specs.declared.Answer.TheVariants.{Good, Disconnected, Malformed, BlockSize, NotDue}
use Rattle.open_end.proofs.Rules.{no_channel, plainly}
use Rattle.unit.specs.declared.ControlUnit.{ControlUnit}
use Rattle.unit.specs.Calls.{on_setup, on_opening, on_open, arrived, due_of}
use Rattle.unit.proofs.Requests.{ended, elsewhere, NoneInSending, ends-good, ends-sending}

-- ---- literals

-- the A1 due, and what opens with its hand-over: the smaller block size, our own T1, the asker's T3; repeats, T_WAIT, interval and allowance are ours.
-- "numbers at 0, nothing received or due left from before"
abbrev pub accepted : ControlUnit → (block t3 : ℕ) → ControlUnit
accepted c block t3 =
    record {
      phase = 5;
      reply = c.reply;
      settings = c.settings;
      end =
          record {
            transmit = c.end.transmit;
            receive = c.settings.receive;
            channel =
                record {
                  parameters =
                      record {
                        terms =
                            record {
                              block = min c.settings.block block;
                              t1 = c.settings.t1 % 64 * unit (c.settings.t1 / 64);
                              t3 = t3 % 64 * unit (t3 / 64);
                              repeats = c.settings.mntb;
                              t_wait = c.settings.t_wait;
                            };
                        interval = c.settings.t_ct;
                        allowed = c.settings.mnct;
                        own = record { block = c.settings.block; t1 = c.settings.t1; t3 = c.settings.t3 };
                      };
                  sender = record { length = 0; acked = 0; high = 0; next = 0; oldest = 0; count = 0; wait = 0; hold = 0; gap = 0 };
                  receiver =
                      record {
                        at = record { expected = 0; discarding = false; begun = record { length = 0; flags = 0 }; fill = 0 };
                        back = record { expected = 0; discarding = false; begun = record { length = 0; flags = 0 }; fill = 0 };
                        complete = record { length = 0; flags = 0 };
                        ack = record { due = false; ready = false; number = 0 };
                      };
                  tests = record { out = false; again = false; wait = 0; unanswered = 0; interval = c.settings.t_ct };
                  accept = false;
                };
          };
    }

-- ---- an A0 on the receive ID

module _ (c : ControlUnit) (limit id room : ℕ) (heard : id ≡ c.settings.receive) (other : id ≢ 0x200) (b t1 t2 t3 t4 : ℕ) where
  -- what an A0 comes to, once the D0 is out: before the A1's hand-over, and on an open connection
  set-up : 4 ≤ c.phase → arrived limit c id (0xA0 ∷ b ∷ t1 ∷ t2 ∷ t3 ∷ t4 ∷ []) room
      ≡ (let r = on_setup c (record { block = b; t1 = t1; t3 = t3 }) in record { told = r.told; padded = false; left = r.left })
  unfolding arrived kind_of on_opening on_open
  set-up h =
      by_le (λ (_ : ℕ). arrived limit c id (0xA0 ∷ b ∷ t1 ∷ t2 ∷ t3 ∷ t4 ∷ []) room ≡ (let r = on_setup c (record { block = b; t1 = t1; t3 = t3 }) in record { told = r.told; padded = false; left = r.left })) c.phase 5 {x = 0} {y = 0}
      (λ k. rw (ne_eqb id 0x200 other, le-ltb c.phase 3 (omega arith), eq-eqb id c.settings.receive heard, le-ltb 5 c.phase k))
      (λ k. rw (ne_eqb id 0x200 other, le-ltb c.phase 3 (omega arith), eq-eqb id c.settings.receive heard, lt-ltb 5 c.phase k))

  -- "From the D0's hand-over it answers A0": the A1 is due; again before the A1's hand-over too, and the newer fields hold (B45); "An A0 on an open connection begins it anew"
  pub arrived-setup : 4 ≤ c.phase → NoneInSending c → 1 ≤ b → b ≤ 15 → c.settings.t1 < 256 → t3 < 256
      → arrived limit c id (0xA0 ∷ b ∷ t1 ∷ t2 ∷ t3 ∷ t4 ∷ []) room ≡ record { told = plainly Good 0; padded = false; left = accepted c b t3 }
  unfolding on_setup bad_block
  arrived-setup h none low high s t =
      set-up h ∙ rw (ne_eqb c.phase 3 (λ z. omega arith), ne_eqb b 0 (λ z. omega arith), le-ltb 15 b high, ends-good c _ none, tenths-are c.settings.t1 s, tenths-are t3 t)

  -- "A C0 or A0 that ends a message in sending is answered 8, its reply due"
  pub arrived-setup-ending : 6 ≤ c.phase → c.end.channel.sender.length ≢ 0 → 1 ≤ b → b ≤ 15 → c.settings.t1 < 256 → t3 < 256
      → arrived limit c id (0xA0 ∷ b ∷ t1 ∷ t2 ∷ t3 ∷ t4 ∷ []) room ≡ record { told = ended; padded = false; left = accepted c b t3 }
  unfolding on_setup bad_block
  arrived-setup-ending h some low high s t =
      set-up (omega arith) ∙ rw (ne_eqb c.phase 3 (λ z. omega arith), ne_eqb b 0 (λ z. omega arith), le-ltb 15 b high, ends-sending c _ h some, tenths-are c.settings.t1 s, tenths-are t3 t)

  -- "row 2 covers it too": block size 0 or over 15 once the D0 is out, or open; nothing changes
  pub arrived-setup-none : 4 ≤ c.phase → b ≡ 0 → arrived limit c id (0xA0 ∷ b ∷ t1 ∷ t2 ∷ t3 ∷ t4 ∷ []) room ≡ record { told = plainly BlockSize 2; padded = false; left = c }
  unfolding on_setup bad_block
  arrived-setup-none h z = set-up h ∙ rw (ne_eqb c.phase 3 (λ z. omega arith), z)

  pub arrived-setup-over : 4 ≤ c.phase → 15 < b → arrived limit c id (0xA0 ∷ b ∷ t1 ∷ t2 ∷ t3 ∷ t4 ∷ []) room ≡ record { told = plainly BlockSize 2; padded = false; left = c }
  unfolding on_setup bad_block
  arrived-setup-over h o = set-up h ∙ rw (ne_eqb c.phase 3 (λ z. omega arith), ne_eqb b 0 (λ z. omega arith), lt-ltb 15 b o)

  -- before the D0's hand-over an A0 gives 4, with a bad block size too (B45)
  pub arrived-setup-early : c.phase ≡ 3 → arrived limit c id (0xA0 ∷ b ∷ t1 ∷ t2 ∷ t3 ∷ t4 ∷ []) room ≡ record { told = plainly NotDue 4; padded = false; left = c }
  unfolding arrived kind_of on_opening on_setup
  arrived-setup-early e = rw (ne_eqb id 0x200 other, e, eq-eqb id c.settings.receive heard)

-- ---- other kinds before the A1's hand-over

module _ (c : ControlUnit) (limit id room : ℕ) (other : id ≢ 0x200) (begun : 3 ≤ c.phase) where
  -- 3: on every ID but 0x200 and its receive ID, open or not
  pub arrived-other-id : (s : List ℕ) → id ≢ c.settings.receive → arrived limit c id s room ≡ record { told = elsewhere; padded = false; left = c }
  unfolding arrived
  arrived-other-id s d = rw (ne_eqb id 0x200 other, le-ltb c.phase 3 begun, ne_eqb id c.settings.receive d)

  module _ (heard : id ≡ c.settings.receive) (before : c.phase ≤ 5) where
    -- what is sorted is answered by its kind, with its mark
    sorted-so : (s : List ℕ) → arrived limit c id s room ≡ (let r = on_opening c (sorted s).kind in record { told = r.told; padded = (sorted s).padded; left = r.left })
    unfolding arrived
    sorted-so s = rw (ne_eqb id 0x200 other, le-ltb c.phase 3 begun, eq-eqb id c.settings.receive heard, le-ltb 5 c.phase before)

    -- an A8: 0, closed, one A8 due on the asker's ID (B47)
    pub arrived-before-disconnect : arrived limit c id (0xA8 ∷ []) room
        ≡ record {
          told = plainly Disconnected 0;
          padded = false;
          left = record { phase = 1; reply = c.reply; settings = c.settings; end = record { transmit = c.end.transmit; receive = 0; channel = no_channel } };
        }
    unfolding kind_of on_opening
    arrived-before-disconnect = sorted-so (0xA8 ∷ [])

    -- other kinds give 4: a test, and padded, with its mark (B42)
    pub arrived-before-test : arrived limit c id (0xA3 ∷ []) room ≡ record { told = plainly NotDue 4; padded = false; left = c }
    unfolding kind_of on_opening
    arrived-before-test = sorted-so (0xA3 ∷ [])

    pub arrived-before-padded : (p q r s t u v : ℕ) → arrived limit c id (0xA3 ∷ p ∷ q ∷ r ∷ s ∷ t ∷ u ∷ v ∷ []) room ≡ record { told = plainly NotDue 4; padded = true; left = c }
    unfolding kind_of on_opening
    arrived-before-padded p q r s t u v = sorted-so (0xA3 ∷ p ∷ q ∷ r ∷ s ∷ t ∷ u ∷ v ∷ [])

    -- a break, an A1, a ready Ack, and data of two bytes with AR and EOM, both of number 0
    pub arrived-before-break : arrived limit c id (0xA4 ∷ []) room ≡ record { told = plainly NotDue 4; padded = false; left = c }
    unfolding kind_of on_opening
    arrived-before-break = sorted-so (0xA4 ∷ [])

    pub arrived-before-accept : (b t1 t2 t3 t4 : ℕ) → arrived limit c id (0xA1 ∷ b ∷ t1 ∷ t2 ∷ t3 ∷ t4 ∷ []) room ≡ record { told = plainly NotDue 4; padded = false; left = c }
    unfolding kind_of on_opening
    arrived-before-accept b t1 t2 t3 t4 = sorted-so (0xA1 ∷ b ∷ t1 ∷ t2 ∷ t3 ∷ t4 ∷ [])

    pub arrived-before-ack : arrived limit c id (0xB0 ∷ []) room ≡ record { told = plainly NotDue 4; padded = false; left = c }
    unfolding kind_of on_opening
    arrived-before-ack = sorted-so (0xB0 ∷ [])

    pub arrived-before-data : (x : ℕ) → arrived limit c id (0x10 ∷ x ∷ []) room ≡ record { told = plainly NotDue 4; padded = false; left = c }
    unfolding kind_of on_opening
    arrived-before-data x = sorted-so (0x10 ∷ x ∷ [])

    -- what is badly formed gives 1: an A2, an A0 of a byte
    pub arrived-before-malformed : (arrived limit c id (0xA2 ∷ []) room ≡ record { told = plainly Malformed 1; padded = false; left = c }) × (arrived limit c id (0xA0 ∷ []) room ≡ record { told = plainly Malformed 1; padded = false; left = c })
    unfolding kind_of on_opening
    arrived-before-malformed = (sorted-so (0xA2 ∷ []), sorted-so (0xA0 ∷ []))

-- ---- the A1 of the opening

-- "with A1 of its own settings": A1, block size, T1, FF, T3, FF on the asker's ID; "from that A1's hand-over" it is open
pub due_of-accepting : (c : ControlUnit) (m : List ℕ) → c.phase ≡ 5
    → due_of c m
    ≡ record {
      told = plainly Good 0;
      frame =
          Some
          (record {
            id = c.end.transmit;
            payload = record { len = 6; bytes = 0xA1 ∷ c.settings.block ∷ c.settings.t1 ∷ 0xFF ∷ c.settings.t3 ∷ 0xFF ∷ 0 ∷ 0 ∷ [] };
          });
      left = record { phase = 6; reply = c.reply; settings = c.settings; end = c.end };
    }
unfolding due_of
due_of-accepting c m e = rw e
