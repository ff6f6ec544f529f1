-- The rules of an open record in other words: what its end answers and leaves, on its IDs, and when it is closed.
use Prim.Native.Nat.{ℕ, ◌<◌, ◌≤◌}
use native.Mathlib.Omega.{arith}
use mathlib.Core.Bool.{true, false}
use mathlib.Core.List.{List, [], ◌∷◌}
use mathlib.Core.Logic.{◌≢◌}
use mathlib.Core.Path.{◌≡◌}
use lib.Dec.{eqb}
use lib.ListN.{length}
use borrow.Author.Tests.{eq-eqb, ne_eqb, lt-ltb, le-ltb}
use Rattle.laws.proofs.Cases.{or-first, or-second}
use Rattle.std.specs.declared.option.Option.TheVariants.{None, Some}
use Rattle.telegram.specs.declared.payload.Payload.{Payload}
use Rattle.telegram.specs.Kinds.{kind_of}
use Rattle.profile.specs.Profile.{sorted_by}
use Rattle.receiver.specs.Receiving.{received, buffered as buffered_by, took}
use Rattle.channel.specs.declared.Answer.TheVariants.{Good, Disconnected, Busy, ShortBuffer, UsedUp}
use Rattle.channel.specs.declared.Channel.{Channel}
use Rattle.channel.specs.Numbers.{said, closes}
use Rattle.channel.specs.Opened.{elapsed as channel_elapsed, due, sent}
use Rattle.arrival.specs.Arrived.{answered, arrived as channel_arrived}
use Rattle.open_end.specs.declared.answers.Answer.TheVariants.{Channel as ByChannel}
use Rattle.open_end.specs.OpenEnd.{course_of, arrived_at, buffered_at, elapsed_at, frame_on, due_at, sent_at, taken_at}
use Rattle.connection.specs.declared.Connection.{Connection}
use Rattle.connection.specs.Record.{listens_on, hears}
use Rattle.connection.specs.Calls.{settled, on_open, arrived, buffered, open_elapsed, elapsed, open_due, due_of, open_sent, sent_by, open_taken, taken_by, closed}
use Rattle.open_end.proofs.Rules.{plainly}
use Rattle.connection.proofs.Rules.{at_rest}

-- the same record with another channel
abbrev pub holding : Connection → Channel → Connection
holding c ch =
    record {
      phase = c.phase;
      profile = c.profile;
      settings = c.settings;
      attempt = c.attempt;
      leaving = c.leaving;
      end = record { transmit = c.end.transmit; receive = c.end.receive; channel = ch };
    }

module _ (c : Connection) (open' : c.phase ≡ 3) where
  -- ---- a frame on our receive ID

  module _ (limit id : ℕ) (heard : id ≡ c.end.receive) (b : ℕ) (p : List ℕ) where
    -- an answer that neither is 8 nor to a disconnect: the record goes on with the channel that is left
    pub arrived-goes-on : (room : ℕ) → (let r = channel_arrived limit c.end.channel (sorted_by c.profile (b ∷ p)).kind p room in
        closes r.answer ≡ false
        → arrived limit c id (b ∷ p) room
        ≡ record {
          told = record { answer = ByChannel r.answer; said = record { number = (said r.answer).number; done = (said r.answer).done; opcode = 0 } };
          padded = (sorted_by c.profile (b ∷ p)).padded;
          left = holding c r.channel;
        })
    unfolding arrived hears listens_on on_open arrived_at course_of settled
    arrived-goes-on room h =
        let a = (channel_arrived limit c.end.channel (sorted_by c.profile (b ∷ p)).kind p room).answer in
        rw (open', eq-eqb _ _ heard, or-first (eqb (said a).number 8) (said a).disconnected h, or-second (eqb (said a).number 8) (said a).disconnected h)

    -- 8: "record closed, nothing due"
    pub arrived-used-up : (room : ℕ) → (channel_arrived limit c.end.channel (sorted_by c.profile (b ∷ p)).kind p room).answer ≡ UsedUp
        → arrived limit c id (b ∷ p) room ≡ record { told = plainly UsedUp 8; padded = (sorted_by c.profile (b ∷ p)).padded; left = at_rest false 0 }
    unfolding arrived hears listens_on on_open arrived_at course_of settled
    arrived-used-up room e = rw (open', eq-eqb _ _ heard, e)

    -- the lent buffer is what the receiving half makes of it
    pub buffered-open : (buffer : List ℕ)
        → buffered limit c id (b ∷ p) buffer
        ≡ buffered_by c.end.channel.receiver (received limit c.end.channel.receiver (sorted_by c.profile (b ∷ p)).kind p (length buffer)).note p buffer
    unfolding buffered hears listens_on buffered_at
    buffered-open buffer = rw (open', eq-eqb _ _ heard)

  -- "Disconnect: closed, one A8 due", on the transmit ID
  pub arrived-disconnect : (limit id room : ℕ) → id ≡ c.end.receive
      → arrived limit c id (0xA8 ∷ []) room ≡ record { told = plainly Disconnected 0; padded = false; left = at_rest true c.end.transmit }
  unfolding arrived hears listens_on on_open arrived_at channel_arrived answered kind_of sorted_by course_of settled
  arrived-disconnect limit id room heard = rw (open', eq-eqb _ _ heard)

  -- on another ID no buffer is written
  pub buffered-other-id : (limit id : ℕ) (s buffer : List ℕ) → id ≢ c.end.receive → buffered limit c id s buffer ≡ buffer
  unfolding buffered hears listens_on
  buffered-other-id limit id s buffer other = rw (open', ne_eqb _ _ other)

  -- ---- time passes

  pub elapsed-open : (n : ℕ) → (channel_elapsed c.end.channel n).answer ≡ Good
      → elapsed c n ≡ record { told = plainly Good 0; left = holding c (channel_elapsed c.end.channel n).channel }
  unfolding elapsed open_elapsed elapsed_at course_of settled
  elapsed-open n e = rw (open', e)

  -- 8: "record closed, nothing due"
  pub elapsed-used-up : (n : ℕ) → (channel_elapsed c.end.channel n).answer ≡ UsedUp → elapsed c n ≡ record { told = plainly UsedUp 8; left = at_rest false 0 }
  unfolding elapsed open_elapsed elapsed_at course_of settled
  elapsed-used-up n e = rw (open', e)

  -- ---- what is due

  -- a telegram of the channel goes out on the transmit ID
  pub due_of-given : (m : List ℕ) (p : Payload) → (let d = due c.end.channel m in
      d.payload ≡ Some p
      → due_of c m
      ≡ record {
        told = record { answer = ByChannel d.answer; said = record { number = (said d.answer).number; done = (said d.answer).done; opcode = 0 } };
        frame = Some (record { id = c.end.transmit; payload = p });
        left = holding c d.channel;
      })
  unfolding due_of open_due due_at frame_on
  due_of-given m p g = rw (open', g)

  -- and with none there is no frame
  pub due_of-none : (m : List ℕ) → (let d = due c.end.channel m in
      d.payload ≡ None
      → due_of c m
      ≡ record {
        told = record { answer = ByChannel d.answer; said = record { number = (said d.answer).number; done = (said d.answer).done; opcode = 0 } };
        frame = None;
        left = holding c d.channel;
      })
  unfolding due_of open_due due_at frame_on
  due_of-none m g = rw (open', g)

  -- ---- send, take and close

  pub sent_by-open : (limit n : ℕ) → (let r = sent limit c.end.channel n in
      sent_by limit c n
      ≡ record {
        told = record { answer = ByChannel r.answer; said = record { number = (said r.answer).number; done = (said r.answer).done; opcode = 0 } };
        left = holding c r.channel;
      })
  unfolding sent_by open_sent sent_at
  sent_by-open limit n = rw open'

  -- row 5, "take with none complete"; then row 7, "lent buffer shorter than the declared length": nothing changes
  pub taken_by-none : (room : ℕ) → c.end.channel.receiver.complete.length ≡ 0 → taken_by c room ≡ record { told = plainly Busy 5; len = 0; flags = 0; left = c }
  unfolding taken_by open_taken taken_at took
  taken_by-none room z = rw (open', z)

  pub taken_by-short : (room : ℕ) → room < c.end.channel.receiver.complete.length → taken_by c room ≡ record { told = plainly ShortBuffer 7; len = 0; flags = 0; left = c }
  unfolding taken_by open_taken taken_at took
  taken_by-short room h = rw (open', lt-ltb 0 c.end.channel.receiver.complete.length (omega arith), lt-ltb _ _ h)

  -- else all of the message is shown, with its flags, and none is complete any more
  pub taken_by-shown : (room : ℕ) → (let r = c.end.channel.receiver in
      0 < r.complete.length → r.complete.length ≤ room
      → taken_by c room
      ≡ record {
        told = plainly Good 0;
        len = r.complete.length;
        flags = r.complete.flags;
        left =
            holding c
            (record {
              parameters = c.end.channel.parameters;
              sender = c.end.channel.sender;
              receiver = record { at = r.at; back = r.back; complete = record { length = 0; flags = 0 }; ack = r.ack };
              tests = c.end.channel.tests;
              accept = c.end.channel.accept;
            });
      })
  unfolding taken_by open_taken taken_at took
  taken_by-shown room some fits = rw (open', lt-ltb 0 c.end.channel.receiver.complete.length some, le-ltb _ _ fits)

  -- "Close drops what is unfinished and leaves one A8 due"
  pub closed-open : closed c ≡ record { told = plainly Good 0; left = at_rest true c.end.transmit }
  unfolding closed
  closed-open = rw open'
