-- The rules of an open end in other words: IDs, numbers, bytes and whole records, none through the definitions that they speak of.
use Prim.Native.Nat.{ℕ, ◌<◌, ◌≤◌}
use native.Mathlib.Omega.{arith}
use mathlib.Core.Bool.{true, false, false≢true}
use mathlib.Core.List.{List, ◌∷◌}
use mathlib.Core.Path.{◌≡◌, refl}
use lib.ListN.{length}
use borrow.Author.Tests.{lt-ltb, le-ltb}
use Rattle.std.specs.Option.{is_some}
use Rattle.std.specs.declared.option.Option.{Option}
use Rattle.std.specs.declared.option.Option.TheVariants.{None, Some}
use Rattle.telegram.specs.declared.kinds.Telegram.{Telegram}
use Rattle.telegram.specs.declared.payload.Payload.{Payload}
use Rattle.receiver.specs.Receiving.{received, buffered, took}
use Rattle.receiver.specs.declared.Cause.{Cause}
use Rattle.receiver.specs.declared.Receiver.{Receiver}
use Rattle.channel.specs.declared.Parameters.{Parameters}
use Rattle.channel.specs.declared.Channel.{Channel}
use Rattle.channel.specs.declared.Answer.{Answer as ChannelAnswer}
use Rattle.channel.specs.declared.Answer.TheVariants.{Good, Done, Disconnected, Malformed, BlockSize, NotDue, Busy, BadLength, ShortBuffer, OtherLength, UsedUp, Broken, NoChange}
use Rattle.channel.specs.Opened.{given_payload, elapsed, due, sent}
use Rattle.arrival.specs.Arrived.{arrived}
use Rattle.open_end.specs.declared.answers.Answer.{Answer}
use Rattle.open_end.specs.declared.answers.Answer.TheVariants.{Channel as ByChannel, OtherId, OutOfRange, Refused, Ended, Full}
use Rattle.open_end.specs.declared.answers.Told.{Told}
use Rattle.open_end.specs.declared.OpenEnd.{OpenEnd}
use Rattle.open_end.specs.declared.Course.TheVariants.{GoesOn, GivenUp, Leaves}
use Rattle.open_end.specs.Answers.{said, told}
use Rattle.open_end.specs.OpenEnd.{given_frame, unopened, fresh_end, course_of, arrived_at, buffered_at, elapsed_at, frame_on, due_at, sent_at, taken_at}

-- ---- literals

-- an answer of an open channel: its number, and that no message in sending is done
abbrev pub plainly : ChannelAnswer → ℕ → Told
plainly a n = record { answer = ByChannel a; said = record { number = n; done = false; opcode = 0 } }

-- ---- the numbers

-- "Numbers we answer with": the number of each answer, whether the message in sending is done, and the opcode of a refusal
pub record Says : Type 0 where
  pub good : said (ByChannel Good) ≡ record { number = 0; done = false; opcode = 0 }
  -- "The message is done when its last frame is acknowledged, and the answer to that Ack says so"
  pub done : said (ByChannel Done) ≡ record { number = 0; done = true; opcode = 0 }
  pub disconnected : said (ByChannel Disconnected) ≡ record { number = 0; done = false; opcode = 0 }
  pub malformed : said (ByChannel Malformed) ≡ record { number = 1; done = false; opcode = 0 }
  pub block_size : said (ByChannel BlockSize) ≡ record { number = 2; done = false; opcode = 0 }
  pub other-id : said OtherId ≡ record { number = 3; done = false; opcode = 0 }
  pub not-due : said (ByChannel NotDue) ≡ record { number = 4; done = false; opcode = 0 }
  pub busy : said (ByChannel Busy) ≡ record { number = 5; done = false; opcode = 0 }
  pub bad-length : said (ByChannel BadLength) ≡ record { number = 6; done = false; opcode = 0 }
  pub short-buffer : said (ByChannel ShortBuffer) ≡ record { number = 7; done = false; opcode = 0 }
  pub other_length : said (ByChannel OtherLength) ≡ record { number = 7; done = false; opcode = 0 }
  pub used-up : said (ByChannel UsedUp) ≡ record { number = 8; done = false; opcode = 0 }
  pub broken : (c : Cause) → said (ByChannel (Broken c)) ≡ record { number = 9; done = false; opcode = 0 }
  pub out_of_range : said OutOfRange ≡ record { number = 10; done = false; opcode = 0 }
  -- "D6, D7 or D8, with that opcode"
  pub refused : (opcode : ℕ) → said (Refused opcode) ≡ record { number = 11; done = false; opcode = opcode }
  pub no_change : said (ByChannel NoChange) ≡ record { number = 12; done = false; opcode = 0 }
  -- "A C0 or A0 that ends a message in sending is answered 8" (02, 5)
  pub ended : said Ended ≡ record { number = 8; done = false; opcode = 0 }
  -- "A new answer 13, table full" (02, 7)
  pub full : said Full ≡ record { number = 13; done = false; opcode = 0 }

pub says : Says
says =
    record {
      good = refl;
      done = refl;
      disconnected = refl;
      malformed = refl;
      block_size = refl;
      other-id = refl;
      not-due = refl;
      busy = refl;
      bad-length = refl;
      short-buffer = refl;
      other_length = refl;
      used-up = refl;
      broken = λ c. refl;
      out_of_range = refl;
      refused = λ opcode. refl;
      no_change = refl;
      ended = refl;
      full = refl;
    }

-- a call tells its answer, and what that says
pub tells : (a : Answer) → told a ≡ record { answer = a; said = said a }
tells a = refl

-- 8: "record closed, nothing due"; "Disconnect: closed, one A8 due"; after every other answer the record goes on
pub record Courses : Type 0 where
  pub used-up : course_of UsedUp ≡ GivenUp
  pub disconnected : course_of Disconnected ≡ Leaves
  pub good : course_of Good ≡ GoesOn
  pub done : course_of Done ≡ GoesOn
  pub malformed : course_of Malformed ≡ GoesOn
  pub block_size : course_of BlockSize ≡ GoesOn
  pub not-due : course_of NotDue ≡ GoesOn
  pub busy : course_of Busy ≡ GoesOn
  pub bad-length : course_of BadLength ≡ GoesOn
  pub short-buffer : course_of ShortBuffer ≡ GoesOn
  pub other_length : course_of OtherLength ≡ GoesOn
  pub broken : (c : Cause) → course_of (Broken c) ≡ GoesOn
  pub no_change : course_of NoChange ≡ GoesOn

pub courses : Courses
unfolding course_of
courses =
    record {
      used-up = refl;
      disconnected = refl;
      good = refl;
      done = refl;
      malformed = refl;
      block_size = refl;
      not-due = refl;
      busy = refl;
      bad-length = refl;
      short-buffer = refl;
      other_length = refl;
      broken = λ c. refl;
      no_change = refl;
    }

-- ---- ends that are not open, and ends just opened

-- a channel that agreed on nothing and holds nothing
abbrev pub no_channel : Channel
no_channel =
    record {
      parameters =
          record {
            terms = record { block = 0; t1 = 0; t3 = 0; repeats = 0; t_wait = 0 };
            interval = 0;
            allowed = 0;
            own = record { block = 0; t1 = 0; t3 = 0 };
          };
      sender = record { length = 0; acked = 0; high = 0; next = 0; oldest = 0; count = 0; wait = 0; hold = 0; gap = 0 };
      receiver =
          record {
            at = record { expected = 0; discarding = false; begun = record { length = 0; flags = 0 }; fill = 0 };
            back = record { expected = 0; discarding = false; begun = record { length = 0; flags = 0 }; fill = 0 };
            complete = record { length = 0; flags = 0 };
            ack = record { due = false; ready = false; number = 0 };
          };
      tests = record { out = false; again = false; wait = 0; unanswered = 0; interval = 0 };
      accept = false;
    }

-- before it is open, an end has its IDs, and a channel that holds nothing
pub unopened-is : (transmit receive : ℕ) → unopened transmit receive ≡ record { transmit = transmit; receive = receive; channel = no_channel }
unopened-is transmit receive = refl

-- "After the A1 all numbers start at 0, and no message received or in sending, due frame, wait or hold remains from before it": what was agreed, an interval from its start, and zeros
pub fresh_end-is : (transmit receive : ℕ) (p : Parameters)
    → fresh_end transmit receive p
    ≡ record {
      transmit = transmit;
      receive = receive;
      channel =
          record {
            parameters = p;
            sender = no_channel.sender;
            receiver = no_channel.receiver;
            tests = record { out = false; again = false; wait = 0; unanswered = 0; interval = p.interval };
            accept = false;
          };
    }
fresh_end-is transmit receive p = refl

-- ---- the calls

module _ (limit : ℕ) (e : OpenEnd) (t : Telegram) (b : ℕ) (p : List ℕ) where
  -- a telegram's payload is what stands behind its first byte; the IDs stay
  pub arrived_at-is : (room : ℕ) → (let r = arrived limit e.channel t p room in
      arrived_at limit e t (b ∷ p) room
      ≡ record { answer = r.answer; end = record { transmit = e.transmit; receive = e.receive; channel = r.channel } })
  unfolding arrived_at
  arrived_at-is room = refl

  -- so is what it writes
  pub buffered_at-is : (buffer : List ℕ)
      → buffered_at limit e t (b ∷ p) buffer
      ≡ buffered e.channel.receiver (received limit e.channel.receiver t p (length buffer)).note p buffer
  unfolding buffered_at
  buffered_at-is buffer = refl

-- a frame goes out exactly where a telegram is given
pub frame_on-some : (id : ℕ) (p : Option Payload) → is_some (frame_on id p) ≡ is_some p
unfolding frame_on
frame_on-some id None = refl
frame_on-some id (Some p) = refl

-- on that ID
pub frame_on-id : (id : ℕ) (p : Option Payload) → is_some (frame_on id p) ≡ true → (given_frame (frame_on id p)).id ≡ id
unfolding frame_on
frame_on-id id None e = absurd (false≢true e)
frame_on-id id (Some p) e = refl

-- with its bytes, and none where none is given
pub frame_on-payload : (id : ℕ) (p : Option Payload) → (given_frame (frame_on id p)).payload ≡ given_payload p
unfolding frame_on
frame_on-payload id None = refl
frame_on-payload id (Some p) = refl

module _ (e : OpenEnd) where
  -- time runs for the channel, all of it; the IDs stay
  pub elapsed_at-is : (n : ℕ) → (let r = elapsed e.channel n in
      elapsed_at e n ≡ record { answer = r.answer; end = record { transmit = e.transmit; receive = e.receive; channel = r.channel } })
  unfolding elapsed_at
  elapsed_at-is n = refl

  -- a message offered is offered to the channel; the IDs stay
  pub sent_at-is : (limit n : ℕ) → (let r = sent limit e.channel n in
      sent_at limit e n ≡ record { answer = r.answer; end = record { transmit = e.transmit; receive = e.receive; channel = r.channel } })
  unfolding sent_at
  sent_at-is limit n = refl

  -- a telegram that the channel hands over goes out on the transmit ID
  pub due_at-given : (m : List ℕ) (p : Payload) → (due e.channel m).payload ≡ Some p → (let d = due e.channel m in
      due_at e m
      ≡ record {
        answer = d.answer;
        frame = Some (record { id = e.transmit; payload = p });
        end = record { transmit = e.transmit; receive = e.receive; channel = d.channel };
      })
  unfolding due_at frame_on
  due_at-given m p g = rw g

  -- with none there is no frame
  pub due_at-none : (m : List ℕ) → (due e.channel m).payload ≡ None → (let d = due e.channel m in
      due_at e m
      ≡ record {
        answer = d.answer;
        frame = None;
        end = record { transmit = e.transmit; receive = e.receive; channel = d.channel };
      })
  unfolding due_at frame_on
  due_at-none m g = rw g

module _ (e : OpenEnd) (room : ℕ) where
  abbrev held : Receiver
  held = e.channel.receiver

  -- row 5, "take with none complete": nothing is shown, flags 0, and nothing changes
  pub taken_at-none : held.complete.length ≡ 0 → taken_at e room ≡ record { answer = Busy; message = record { length = 0; flags = 0 }; end = e }
  unfolding taken_at took
  taken_at-none z = rw z

  -- row 7, "lent buffer shorter than the declared length": nothing is shown, flags 0, and nothing changes
  pub taken_at-short : room < held.complete.length → taken_at e room ≡ record { answer = ShortBuffer; message = record { length = 0; flags = 0 }; end = e }
  unfolding taken_at took
  taken_at-short h = rw (lt-ltb 0 held.complete.length (omega arith), lt-ltb _ _ h)

  -- else the message is shown, all of it, with its flags, and none is complete any more; nothing else changes
  pub taken_at-shown : 0 < held.complete.length → held.complete.length ≤ room
      → taken_at e room
      ≡ record {
        answer = Good;
        message = held.complete;
        end =
            record {
              transmit = e.transmit;
              receive = e.receive;
              channel =
                  record {
                    parameters = e.channel.parameters;
                    sender = e.channel.sender;
                    receiver = record { at = held.at; back = held.back; complete = record { length = 0; flags = 0 }; ack = held.ack };
                    tests = e.channel.tests;
                    accept = e.channel.accept;
                  };
            };
      }
  unfolding taken_at took
  taken_at-shown some fits = rw (lt-ltb 0 held.complete.length some, le-ltb _ _ fits)
