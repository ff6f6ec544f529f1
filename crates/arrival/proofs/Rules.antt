-- 01, "Others" and the numbers, rule by rule: what each telegram that arrives is answered with and leaves, field by field.
use Prim.Native.Nat.{ℕ, ◌≤◌, ◌<◌}
use native.Mathlib.Omega.{arith}
use mathlib.Core.Bool.{Bool, true, false, or-true}
use mathlib.Core.List.{List, [], ◌∷◌}
use mathlib.Core.Logic.{◌≢◌, ◌⊎◌, inl, inr}
use mathlib.Core.Path.{◌≡◌, refl}
use lib.ListN.{length, replicate}
use borrow.Author.Tests.{lt-ltb, le-ltb, ne_eqb}
use Rattle.telegram.specs.Kinds.{bad_block}
use Rattle.telegram.specs.declared.kinds.Parameters.{Parameters as Fields}
use Rattle.telegram.specs.declared.kinds.Telegram.{Telegram}
use Rattle.telegram.specs.declared.kinds.Telegram.TheVariants.{Data, Ack, Test, Break, Disconnect, Setup, Accept, Malformed}
use Rattle.sender.specs.Sending.{heard}
use Rattle.sender.specs.declared.Sender.{Sender}
use Rattle.sender.specs.declared.Heard.{Heard}
use Rattle.sender.specs.declared.Hearing.TheVariants.{Part, Done as LastAcknowledged, Held, Nothing, UsedUp as NotReadyTooOften, NoAck}
use Rattle.receiver.specs.Receiving.{received, buffered}
use Rattle.receiver.specs.declared.Cause.{Cause}
use Rattle.receiver.specs.declared.Receipt.{Receipt}
use Rattle.receiver.specs.declared.Receipt.TheVariants.{Used, Complete, ThrownAway, OutOfPlace, Untaken, ShortFirst, ShortLater, Broken as BrokenBy, NoData}
use Rattle.receiver.specs.declared.Received.{Received}
use Rattle.receiver.specs.declared.Receiver.{Receiver}
use Rattle.channel.specs.declared.Channel.{Channel}
use Rattle.channel.specs.declared.Answer.{Answer}
use Rattle.channel.specs.declared.Answer.TheVariants.{Good, Done, Disconnected, Malformed as BadForm, BlockSize, NotDue, Busy, ShortBuffer, UsedUp, Broken, NoChange}
use Rattle.channel.specs.declared.Answered.{Answered}
use Rattle.arrival.specs.Arrived.{data_answer, ack_answer, answered, on_data, on_ack, on_accept, arrived, buffered_by}
use Rattle.arrival.proofs.Arriving.{ArrivalOutcome, data-came, ack-came, test-came, break-came, disconnect-came, setup-came, accept-undue, accept-bad, accept-came, malformed-came, arrival-outcome}

-- ---- the numbers

-- data: 0 where it is used, completes its message or is thrown away; 12 out of place, 5 while one waits untaken, 7 for a short buffer, 9 for a broken message
pub data_answer-list : (e : ℕ) (c : Cause)
    → data_answer Used ∷ data_answer Complete ∷ data_answer ThrownAway ∷ data_answer (OutOfPlace e) ∷ data_answer Untaken ∷ data_answer ShortFirst ∷ data_answer ShortLater
    ∷ data_answer (BrokenBy c) ∷ data_answer NoData ∷ []
    ≡ Good ∷ Good ∷ Good ∷ NoChange ∷ Busy ∷ ShortBuffer ∷ ShortBuffer ∷ Broken c ∷ NotDue ∷ []
data_answer-list e c = refl

-- an Ack: 0 where it acknowledges or holds, and done with the last frame; 12 where it changes nothing, 8 where the repeats are used up
pub ack_answer-list
    : ack_answer Part ∷ ack_answer LastAcknowledged ∷ ack_answer Held ∷ ack_answer Nothing ∷ ack_answer NotReadyTooOften ∷ ack_answer NoAck ∷ []
    ≡ Good ∷ Done ∷ Good ∷ NoChange ∷ UsedUp ∷ NotDue ∷ []
ack_answer-list = refl

-- ---- each telegram

-- data answered 0
pub data Uses : Receipt → Type 0 where
  goes_in : Uses Used
  completes : Uses Complete
  thrown-away : Uses ThrownAway

-- and each other receipt with its answer
pub data Refuses : Receipt → Answer → Type 0 where
  out-of-place : {e : ℕ} → Refuses (OutOfPlace e) NoChange
  untaken : Refuses Untaken Busy
  short-first : Refuses ShortFirst ShortBuffer
  short-later : Refuses ShortLater ShortBuffer
  broken : {c : Cause} → Refuses (BrokenBy c) (Broken c)

module _ (limit : ℕ) (c : Channel) (p : List ℕ) (room : ℕ) where
  -- "Test: our A1, with the fields of our A0, becomes due"; answered 0, so the interval is whole
  pub test_fields : arrived limit c Test p room
      ≡ record {
        answer = Good;
        channel = record {
          parameters = c.parameters;
          sender = c.sender;
          receiver = c.receiver;
          tests = record { out = c.tests.out; again = c.tests.again; wait = c.tests.wait; unanswered = c.tests.unanswered; interval = c.parameters.interval };
          accept = true;
        };
      }
  unfolding arrived answered
  test_fields = refl

  -- "Break (004): the receiver returns to where it stood when an Ack last became due or a message last ended"; a complete message and a due Ack stay
  pub break-fields : arrived limit c Break p room
      ≡ record {
        answer = Good;
        channel = record {
          parameters = c.parameters;
          sender = c.sender;
          receiver = record { at = c.receiver.back; back = c.receiver.back; complete = c.receiver.complete; ack = c.receiver.ack };
          tests = record { out = c.tests.out; again = c.tests.again; wait = c.tests.wait; unanswered = c.tests.unanswered; interval = c.parameters.interval };
          accept = c.accept;
        };
      }
  unfolding arrived answered
  break-fields = refl

  -- "Disconnect: closed", by the record above; answered 0
  pub disconnect-fields : arrived limit c Disconnect p room
      ≡ record {
        answer = Disconnected;
        channel = record {
          parameters = c.parameters;
          sender = c.sender;
          receiver = c.receiver;
          tests = record { out = c.tests.out; again = c.tests.again; wait = c.tests.wait; unanswered = c.tests.unanswered; interval = c.parameters.interval };
          accept = c.accept;
        };
      }
  unfolding arrived answered
  disconnect-fields = refl

  -- row 4, "every A0": nothing changes
  pub setup-fields : (f : Fields) → arrived limit c (Setup f) p room ≡ record { answer = NotDue; channel = c }
  unfolding arrived answered
  setup-fields f = refl

  -- row 1, "badly formed": nothing changes
  pub malformed-fields : arrived limit c Malformed p room ≡ record { answer = BadForm; channel = c }
  unfolding arrived answered
  malformed-fields = refl

  -- "An A1 on an open connection only answers a test ..; with no test out it gives 4", whatever its block size
  pub accept-none-out : (f : Fields) → c.tests.out ≡ false → arrived limit c (Accept f) p room ≡ record { answer = NotDue; channel = c }
  unfolding arrived answered on_accept
  accept-none-out f o = rw o

  -- row 2, "A1 block size 0 or over 15": nothing changes
  pub accept-block-size : (f : Fields) → c.tests.out ≡ true → (f.block ≡ 0) ⊎ (15 < f.block) → arrived limit c (Accept f) p room ≡ record { answer = BlockSize; channel = c }
  unfolding arrived answered on_accept bad_block
  accept-block-size f o (inl e) = rw (o, e)
  accept-block-size f o (inr h) = rw (o, lt-ltb 15 f.block h, or-true)

  -- an A1 "sets the unanswered count to 0 and drops a due test"; none is out, no wait runs; "it resets nothing and its parameters are not taken"
  pub accept-fields : (f : Fields) → c.tests.out ≡ true → 1 ≤ f.block → f.block ≤ 15 → arrived limit c (Accept f) p room
      ≡ record {
        answer = Good;
        channel = record {
          parameters = c.parameters;
          sender = c.sender;
          receiver = c.receiver;
          tests = record { out = false; again = false; wait = 0; unanswered = 0; interval = c.parameters.interval };
          accept = c.accept;
        };
      }
  unfolding arrived answered on_accept bad_block
  accept-fields f o some most = rw (o, ne_eqb f.block 0 (omega arith), le-ltb 15 f.block most)

  module _ (asks last : Bool) (number : ℕ) (r : Receiver) where
    -- data answered 0: the receiving half is what it makes of it, the interval is whole, and nothing else changes
    pub data-good : {note : Receipt} → Uses note → received limit c.receiver (Data asks last number) p room ≡ record { note = note; receiver = r }
        → arrived limit c (Data asks last number) p room
        ≡ record {
          answer = Good;
          channel = record {
            parameters = c.parameters;
            sender = c.sender;
            receiver = r;
            tests = record { out = c.tests.out; again = c.tests.again; wait = c.tests.wait; unanswered = c.tests.unanswered; interval = c.parameters.interval };
            accept = c.accept;
          };
        }
    unfolding arrived on_data answered
    data-good goes_in e = rw e
    data-good completes e = rw e
    data-good thrown-away e = rw e

    -- data refused: the receiving half is what it makes of it, and nothing else changes, nor what is left of the interval
    pub data-refused : {note : Receipt} {a : Answer} → Refuses note a → received limit c.receiver (Data asks last number) p room ≡ record { note = note; receiver = r }
        → arrived limit c (Data asks last number) p room
        ≡ record { answer = a; channel = record { parameters = c.parameters; sender = c.sender; receiver = r; tests = c.tests; accept = c.accept } }
    unfolding arrived on_data answered
    data-refused out-of-place e = rw e
    data-refused untaken e = rw e
    data-refused short-first e = rw e
    data-refused short-later e = rw e
    data-refused broken e = rw e

  module _ (ready : Bool) (number : ℕ) (s : Sender) where
    -- an Ack that acknowledges frames, or holds the data: 0, the sending half is what it makes of it, the interval is whole, and nothing else changes
    pub ack-good : (heard c.parameters.terms c.sender (Ack ready number) ≡ record { note = Part; sender = s })
        ⊎ (heard c.parameters.terms c.sender (Ack ready number) ≡ record { note = Held; sender = s })
        → arrived limit c (Ack ready number) p room
        ≡ record {
          answer = Good;
          channel = record {
            parameters = c.parameters;
            sender = s;
            receiver = c.receiver;
            tests = record { out = c.tests.out; again = c.tests.again; wait = c.tests.wait; unanswered = c.tests.unanswered; interval = c.parameters.interval };
            accept = c.accept;
          };
        }
    unfolding arrived on_ack answered
    ack-good (inl e) = rw e
    ack-good (inr e) = rw e

    -- "The message is done when its last frame is acknowledged, and the answer to that Ack says so"
    pub ack-done : heard c.parameters.terms c.sender (Ack ready number) ≡ record { note = LastAcknowledged; sender = s }
        → arrived limit c (Ack ready number) p room
        ≡ record {
          answer = Done;
          channel = record {
            parameters = c.parameters;
            sender = s;
            receiver = c.receiver;
            tests = record { out = c.tests.out; again = c.tests.again; wait = c.tests.wait; unanswered = c.tests.unanswered; interval = c.parameters.interval };
            accept = c.accept;
          };
        }
    unfolding arrived on_ack answered
    ack-done e = rw e

  -- row 12, "an Ack that changes nothing", also not the interval
  pub ack-nothing : (ready : Bool) (number : ℕ) → heard c.parameters.terms c.sender (Ack ready number) ≡ record { note = Nothing; sender = c.sender }
      → arrived limit c (Ack ready number) p room ≡ record { answer = NoChange; channel = c }
  unfolding arrived on_ack answered
  ack-nothing ready number e = rw e

  -- row 8, "repeats .. used up"
  pub ack-spent : (ready : Bool) (number : ℕ) → heard c.parameters.terms c.sender (Ack ready number) ≡ record { note = NotReadyTooOften; sender = c.sender }
      → arrived limit c (Ack ready number) p room ≡ record { answer = UsedUp; channel = c }
  unfolding arrived on_ack answered
  ack-spent ready number e = rw e

  -- a test is "out from its hand-over until an A1": no other telegram ends that, its wait or a test due again, or changes the unanswered count
  pub arrived-out : (t : Telegram) → ((f : Fields) → t ≢ Accept f) → (let x = (arrived limit c t p room).channel.tests in
      (x.out ≡ c.tests.out) × (x.again ≡ c.tests.again) × (x.wait ≡ c.tests.wait) × (x.unanswered ≡ c.tests.unanswered))
  arrived-out t other = go refl (arrival-outcome limit c p room t)
    where
      go : {r : Received} {h : Heard} {u : Telegram} {x : Answered} → t ≡ u → ArrivalOutcome c r h u x
          → (x.channel.tests.out ≡ c.tests.out) × (x.channel.tests.again ≡ c.tests.again) × (x.channel.tests.wait ≡ c.tests.wait)
          × (x.channel.tests.unanswered ≡ c.tests.unanswered)
      go e data-came = (refl, refl, refl, refl)
      go e ack-came = (refl, refl, refl, refl)
      go e test-came = (refl, refl, refl, refl)
      go e break-came = (refl, refl, refl, refl)
      go e disconnect-came = (refl, refl, refl, refl)
      go e setup-came = (refl, refl, refl, refl)
      go e (accept-undue _) = (refl, refl, refl, refl)
      go e (accept-bad _ _) = (refl, refl, refl, refl)
      go e (accept-came _ _) = absurd (other _ e)
      go e malformed-came = (refl, refl, refl, refl)

-- ---- the lent buffer

module _ (limit : ℕ) (c : Channel) (p b : List ℕ) where
  -- data writes what the receiving half writes
  pub data-buffer : (asks last : Bool) (number : ℕ) → buffered_by limit c (Data asks last number) p b
      ≡ buffered c.receiver (received limit c.receiver (Data asks last number) p (length b)).note p b
  data-buffer asks last number = refl

  -- no other telegram writes
  pub others-buffer : (ready : Bool) (number : ℕ) (f : Fields)
      → buffered_by limit c (Ack ready number) p b ∷ buffered_by limit c Test p b ∷ buffered_by limit c Break p b ∷ buffered_by limit c Disconnect p b
      ∷ buffered_by limit c (Setup f) p b ∷ buffered_by limit c (Accept f) p b ∷ buffered_by limit c Malformed p b ∷ []
      ≡ replicate 7 b
  unfolding received buffered
  others-buffer ready number f = refl

  -- "A refusal never writes to the buffer"
  pub refused-buffer : (note : Receipt) {a : Answer} → Refuses note a → buffered c.receiver note p b ≡ b
  unfolding buffered
  refused-buffer note out-of-place = refl
  refused-buffer note untaken = refl
  refused-buffer note short-first = refl
  refused-buffer note short-later = refl
  refused-buffer note broken = refl
