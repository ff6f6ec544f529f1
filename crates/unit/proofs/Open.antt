-- The rules of an open unit in other words: "it sends and receives as in 01", on its IDs, and when it is closed. An A0 is in Setups.antt, a C0 in Requests.antt.
use Prim.Native.Nat.{ℕ, ◌<◌, ◌≤◌}
use native.Mathlib.Omega.{arith}
use mathlib.Core.Bool.{false}
use mathlib.Core.List.{List, [], ◌∷◌}
use mathlib.Core.Logic.{◌≢◌}
use mathlib.Core.Path.{◌≡◌, refl}
use lib.Dec.{eqb}
use lib.ListN.{length}
use borrow.Author.Tests.{lt-ltb, le-ltb, eq-eqb, ne_eqb}
use Rattle.laws.proofs.Cases.{or-first, or-second}
use Rattle.std.specs.declared.option.Option.TheVariants.{None, Some}
use Rattle.telegram.specs.declared.payload.Payload.{Payload}
use Rattle.telegram.specs.Kinds.{kind_of, sorted}
use Rattle.telegram.specs.declared.kinds.Telegram.{Telegram}
use Rattle.telegram.specs.declared.kinds.Telegram.TheVariants.{Data, Ack, Test, Break, Disconnect, Setup, Accept, Malformed}
use Rattle.receiver.specs.Receiving.{received, buffered as buffered_by, took}
use Rattle.channel.specs.declared.Answer.TheVariants.{Good, Disconnected, Busy, ShortBuffer, UsedUp}
use Rattle.channel.specs.declared.Channel.{Channel}
use Rattle.channel.specs.Numbers.{said, closes}
use Rattle.channel.specs.Opened.{elapsed as channel_elapsed, due, sent}
use Rattle.arrival.specs.Arrived.{answered, arrived as channel_arrived}
use Rattle.open_end.specs.declared.answers.Answer.TheVariants.{Channel as ByChannel}
use Rattle.open_end.specs.OpenEnd.{course_of, arrived_at, buffered_at, elapsed_at, frame_on, due_at, sent_at, taken_at}
use Rattle.open_end.proofs.Rules.{no_channel, plainly}
use Rattle.unit.specs.declared.ControlUnit.{ControlUnit}
use Rattle.unit.specs.Calls.{settled, at_end, on_open, arrived, buffered, open_elapsed, elapsed, open_due, due_of, open_sent, sent_by, open_taken, taken_by}
use Rattle.unit.proofs.Rules.{resting}

-- the same unit with another channel
abbrev pub holding : ControlUnit → Channel → ControlUnit
holding c ch =
    record {
      phase = c.phase;
      reply = c.reply;
      settings = c.settings;
      end = record { transmit = c.end.transmit; receive = c.end.receive; channel = ch };
    }

-- ---- kinds other than an A0

-- no A0
abbrev pub NotSetup : Telegram → Type 0
NotSetup (Setup p) = ⊥
NotSetup (Data asks last number) = Unit {0}
NotSetup (Ack ready number) = Unit {0}
NotSetup Test = Unit {0}
NotSetup Break = Unit {0}
NotSetup Disconnect = Unit {0}
NotSetup (Accept p) = Unit {0}
NotSetup Malformed = Unit {0}

-- the open end takes it
pub at-the-end : (limit : ℕ) (c : ControlUnit) (t : Telegram) (s : List ℕ) (room : ℕ) → NotSetup t → on_open limit c t s room ≡ at_end limit c t s room
unfolding on_open
at-the-end limit c (Data asks last number) s room k = refl
at-the-end limit c (Ack ready number) s room k = refl
at-the-end limit c Test s room k = refl
at-the-end limit c Break s room k = refl
at-the-end limit c Disconnect s room k = refl
at-the-end limit c (Setup p) s room k = absurd k
at-the-end limit c (Accept p) s room k = refl
at-the-end limit c Malformed s room k = refl

module _ (c : ControlUnit) (open' : 6 ≤ c.phase) where
  -- no other phase
  not_at : (n : ℕ) → n < 6 → eqb c.phase n ≡ false
  not_at n h = ne_eqb c.phase n (λ z. omega arith)

  -- ---- a frame on our receive ID

  module _ (limit id : ℕ) (heard : id ≡ c.settings.receive) (other : id ≢ 0x200) where
    module _ (b : ℕ) (p : List ℕ) where
      -- an answer that neither is 8 nor to a disconnect: the unit goes on with the channel that is left
      pub arrived-goes-on : (room : ℕ) → NotSetup (sorted (b ∷ p)).kind → (let r = channel_arrived limit c.end.channel (sorted (b ∷ p)).kind p room in
          closes r.answer ≡ false
          → arrived limit c id (b ∷ p) room
          ≡ record {
            told = record { answer = ByChannel r.answer; said = record { number = (said r.answer).number; done = (said r.answer).done; opcode = 0 } };
            padded = (sorted (b ∷ p)).padded;
            left = holding c r.channel;
          })
      unfolding arrived at_end arrived_at course_of settled
      arrived-goes-on room d h =
          let a = (channel_arrived limit c.end.channel (sorted (b ∷ p)).kind p room).answer in
          rw (ne_eqb id 0x200 other, le-ltb c.phase 3 (omega arith), eq-eqb _ _ heard, lt-ltb 5 c.phase open', at-the-end limit c (sorted (b ∷ p)).kind (b ∷ p) room d, or-first (eqb (said a).number 8) (said a).disconnected h, or-second (eqb (said a).number 8) (said a).disconnected h)

      -- 8: closed, nothing due; the settings stay
      pub arrived-used-up : (room : ℕ) → NotSetup (sorted (b ∷ p)).kind → (channel_arrived limit c.end.channel (sorted (b ∷ p)).kind p room).answer ≡ UsedUp
          → arrived limit c id (b ∷ p) room ≡ record { told = plainly UsedUp 8; padded = (sorted (b ∷ p)).padded; left = resting c.settings c.reply }
      unfolding arrived at_end arrived_at course_of settled
      arrived-used-up room d e =
          rw (ne_eqb id 0x200 other, le-ltb c.phase 3 (omega arith), eq-eqb _ _ heard, lt-ltb 5 c.phase open', at-the-end limit c (sorted (b ∷ p)).kind (b ∷ p) room d, e)

      -- the lent buffer is what the receiving half makes of it
      pub buffered-open : (buffer : List ℕ)
          → buffered limit c id (b ∷ p) buffer
          ≡ buffered_by c.end.channel.receiver (received limit c.end.channel.receiver (sorted (b ∷ p)).kind p (length buffer)).note p buffer
      unfolding buffered buffered_at
      buffered-open buffer = rw (ne_eqb id 0x200 other, le-ltb c.phase 3 (omega arith), eq-eqb _ _ heard, lt-ltb 5 c.phase open')

    -- an A8: 0, closed, one A8 due on the asker's ID (B47)
    pub arrived-disconnect : (room : ℕ) → arrived limit c id (0xA8 ∷ []) room
        ≡ record {
          told = plainly Disconnected 0;
          padded = false;
          left = record { phase = 1; reply = c.reply; settings = c.settings; end = record { transmit = c.end.transmit; receive = 0; channel = no_channel } };
        }
    unfolding arrived on_open at_end arrived_at channel_arrived answered kind_of course_of settled
    arrived-disconnect room = rw (ne_eqb id 0x200 other, le-ltb c.phase 3 (omega arith), eq-eqb _ _ heard, lt-ltb 5 c.phase open')

  -- on another ID no buffer is written
  pub buffered-other-id : (limit id : ℕ) (s buffer : List ℕ) → id ≢ 0x200 → id ≢ c.settings.receive → buffered limit c id s buffer ≡ buffer
  unfolding buffered
  buffered-other-id limit id s buffer other d = rw (ne_eqb id 0x200 other, le-ltb c.phase 3 (omega arith), ne_eqb _ _ d)

  -- ---- time passes

  pub elapsed-open : (n : ℕ) → (channel_elapsed c.end.channel n).answer ≡ Good
      → elapsed c n ≡ record { told = plainly Good 0; left = holding c (channel_elapsed c.end.channel n).channel }
  unfolding elapsed open_elapsed elapsed_at course_of settled
  elapsed-open n e = rw (lt-ltb 5 c.phase open', e)

  -- its own repeats or tests used up: closed, nothing due; settings and reply stay (B47)
  pub elapsed-used-up : (n : ℕ) → (channel_elapsed c.end.channel n).answer ≡ UsedUp → elapsed c n ≡ record { told = plainly UsedUp 8; left = resting c.settings c.reply }
  unfolding elapsed open_elapsed elapsed_at course_of settled
  elapsed-used-up n e = rw (lt-ltb 5 c.phase open', e)

  -- ---- what is due

  -- a telegram of the channel goes out on the transmit ID
  pub due_of-given : (m : List ℕ) (p : Payload) → (let d = due c.end.channel m in
      d.payload ≡ Some p
      → due_of c m
      ≡ record {
        told = record { answer = ByChannel d.answer; said = record { number = (said d.answer).number; done = (said d.answer).done; opcode = 0 } };
        frame = Some (record { id = c.end.transmit; payload = p });
        left = holding c d.channel;
      })
  unfolding due_of open_due due_at frame_on
  due_of-given m p g = rw (not_at 1 (omega arith), not_at 2 (omega arith), not_at 3 (omega arith), not_at 5 (omega arith), lt-ltb 5 c.phase open', g)

  -- and with none there is no frame
  pub due_of-none : (m : List ℕ) → (let d = due c.end.channel m in
      d.payload ≡ None
      → due_of c m
      ≡ record {
        told = record { answer = ByChannel d.answer; said = record { number = (said d.answer).number; done = (said d.answer).done; opcode = 0 } };
        frame = None;
        left = holding c d.channel;
      })
  unfolding due_of open_due due_at frame_on
  due_of-none m g = rw (not_at 1 (omega arith), not_at 2 (omega arith), not_at 3 (omega arith), not_at 5 (omega arith), lt-ltb 5 c.phase open', g)

  -- ---- send and take

  pub sent_by-open : (limit n : ℕ) → (let r = sent limit c.end.channel n in
      sent_by limit c n
      ≡ record {
        told = record { answer = ByChannel r.answer; said = record { number = (said r.answer).number; done = (said r.answer).done; opcode = 0 } };
        left = holding c r.channel;
      })
  unfolding sent_by open_sent sent_at
  sent_by-open limit n = rw (lt-ltb 5 c.phase open')

  -- row 5, "take with none complete"; then row 7, "lent buffer shorter than the declared length": nothing changes
  pub taken_by-none : (room : ℕ) → c.end.channel.receiver.complete.length ≡ 0 → taken_by c room ≡ record { told = plainly Busy 5; len = 0; flags = 0; left = c }
  unfolding taken_by open_taken taken_at took
  taken_by-none room z = rw (lt-ltb 5 c.phase open', z)

  pub taken_by-short : (room : ℕ) → room < c.end.channel.receiver.complete.length → taken_by c room ≡ record { told = plainly ShortBuffer 7; len = 0; flags = 0; left = c }
  unfolding taken_by open_taken taken_at took
  taken_by-short room h = rw (lt-ltb 5 c.phase open', lt-ltb 0 c.end.channel.receiver.complete.length (omega arith), lt-ltb _ _ h)

  -- else all of the message is shown, with its flags, and none is complete any more
  pub taken_by-shown : (room : ℕ) → (let r = c.end.channel.receiver in
      0 < r.complete.length → r.complete.length ≤ room
      → taken_by c room
      ≡ record {
        told = plainly Good 0;
        len = r.complete.length;
        flags = r.complete.flags;
        left =
            holding c
            (record {
              parameters = c.end.channel.parameters;
              sender = c.end.channel.sender;
              receiver = record { at = r.at; back = r.back; complete = record { length = 0; flags = 0 }; ack = r.ack };
              tests = c.end.channel.tests;
              accept = c.end.channel.accept;
            });
      })
  unfolding taken_by open_taken taken_at took
  taken_by-shown room some fits = rw (lt-ltb 5 c.phase open', lt-ltb 0 c.end.channel.receiver.complete.length some, le-ltb _ _ fits)
