-- 01, "Others", the sending order and the numbers, rule by rule: each law says what a call of a channel leaves, field by field, or exactly when.
use Prim.Native.Nat.{ℕ, ◌+◌, ◌-◌, ◌%◌, ◌≤◌, ◌<◌}
use native.Mathlib.Omega.{arith}
use mathlib.Core.Bool.{true, false, not, ◌&&◌, ◌||◌, or-true, and-false}
use mathlib.Core.List.{List, [], ◌∷◌}
use mathlib.Core.Logic.{◌↔◌, ◌≢◌, ◌⊎◌, inl, inr}
use mathlib.Core.Path.{◌≡◌, refl, ap, ◌∙◌}
use lib.Dec.{ltb, eqb}
use lib.ListN.{length}
use borrow.Author.Tests.{ltb-true, ltb-false, eqb-true, not-true, lt-ltb, le-ltb, le-leb, lt-leb, ne_eqb}
use Rattle.laws.proofs.Cases.{either, both, same}
use Rattle.std.specs.declared.option.Option.TheVariants.{None, Some}
use Rattle.sender.specs.declared.Handed.{Handed}
use Rattle.sender.specs.declared.Passed.{Passed}
use Rattle.sender.specs.declared.Passing.{Passing}
use Rattle.sender.specs.declared.Passing.TheVariants.{Quiet, Again, UsedUp as RanOut}
use Rattle.sender.specs.Sending.{handed_payload, handed, passed, offered}
use Rattle.sender.proofs.Rules.{offered-leaves, offered-busy, offered-empty, offered-over}
use Rattle.sender.proofs.Frames.{frame-given}
use Rattle.sender.proofs.FrameRules.{Ready, frame-exactly, frame-other-length, frame-none}
use Rattle.sender.proofs.Time.{passed-used_up}
use Rattle.receiver.specs.declared.Cause.{Cause}
use Rattle.channel.specs.declared.Parameters.{Parameters}
use Rattle.channel.specs.declared.Channel.{Channel}
use Rattle.channel.specs.declared.Answer.TheVariants.{Good, Done, Disconnected, Malformed, BlockSize, NotDue, Busy, BadLength, ShortBuffer, OtherLength, UsedUp, Broken, NoChange}
use Rattle.channel.specs.declared.Answered.{Answered}
use Rattle.channel.specs.declared.Due.{Due}
use Rattle.channel.specs.Numbers.{said, closes}
use Rattle.channel.specs.Opened.{fresh, elapsed, test_due, repeats_used_up, wait_ends, due, sent, hand_accept, hand_test, hand_ack}
use Rattle.channel.proofs.Passing.{TimeOutcome, repeats-used-up, runs_on, tests-used-up, test-again, time-outcome}
use Rattle.channel.proofs.Handing.{due-accept, due-test, due-ack, due-data, DueOutcome, accept-goes, test-goes, ack-goes, frame-goes, none-goes, other_length, due-outcome}

-- ---- the numbers

-- "Numbers we answer with": the number of each answer, and whether it says that the message is done or the peer gone
pub said-list : (c : Cause)
    → said Good ∷ said Done ∷ said Disconnected ∷ said Malformed ∷ said BlockSize ∷ said NotDue ∷ said Busy ∷ said BadLength
    ∷ said ShortBuffer ∷ said OtherLength ∷ said UsedUp ∷ said (Broken c) ∷ said NoChange ∷ []
    ≡ record { number = 0; done = false; disconnected = false }
    ∷ record { number = 0; done = true; disconnected = false }
    ∷ record { number = 0; done = false; disconnected = true }
    ∷ record { number = 1; done = false; disconnected = false }
    ∷ record { number = 2; done = false; disconnected = false }
    ∷ record { number = 4; done = false; disconnected = false }
    ∷ record { number = 5; done = false; disconnected = false }
    ∷ record { number = 6; done = false; disconnected = false }
    ∷ record { number = 7; done = false; disconnected = false }
    ∷ record { number = 7; done = false; disconnected = false }
    ∷ record { number = 8; done = false; disconnected = false }
    ∷ record { number = 9; done = false; disconnected = false }
    ∷ record { number = 12; done = false; disconnected = false }
    ∷ []
said-list c = refl

-- of these the disconnect and 8 close the record, and no other
pub closes-list : (c : Cause)
    → closes Good ∷ closes Done ∷ closes Disconnected ∷ closes Malformed ∷ closes BlockSize ∷ closes NotDue ∷ closes Busy ∷ closes BadLength
    ∷ closes ShortBuffer ∷ closes OtherLength ∷ closes UsedUp ∷ closes (Broken c) ∷ closes NoChange ∷ []
    ≡ false ∷ false ∷ true ∷ false ∷ false ∷ false ∷ false ∷ false ∷ false ∷ false ∷ true ∷ false ∷ false ∷ []
closes-list c = refl

-- ---- at the start

-- "After the A1 all numbers start at 0, and no message received or in sending, due frame, wait or hold remains from before it"; the interval starts
pub fresh-fields : (p : Parameters) → fresh p
    ≡ record {
      parameters = p;
      sender = record { length = 0; acked = 0; high = 0; next = 0; oldest = 0; count = 0; wait = 0; hold = 0; gap = 0 };
      receiver = record {
        at = record { expected = 0; discarding = false; begun = record { length = 0; flags = 0 }; fill = 0 };
        back = record { expected = 0; discarding = false; begun = record { length = 0; flags = 0 }; fill = 0 };
        complete = record { length = 0; flags = 0 };
        ack = record { due = false; ready = false; number = 0 };
      };
      tests = record { out = false; again = false; wait = 0; unanswered = 0; interval = p.interval };
      accept = false;
    }
fresh-fields p = refl

-- ---- when a test is due

-- "With none out, a test goes out after the test interval without a frame handed over or answered 0"; an interval of 0 means no tests
pub record AfterInterval (c : Channel) : Type 0 where
  pub none : c.tests.out ≡ false
  pub set : 0 < c.parameters.interval
  pub over : c.tests.interval ≡ 0

-- "and never while data is unacknowledged"; one whose wait ran out made another due
pub record TestDue (c : Channel) : Type 0 where
  pub acknowledged : c.sender.high ≤ c.sender.acked
  pub some : (c.tests.again ≡ true) ⊎ AfterInterval c

-- a test is due exactly then
pub test_due-exactly : (c : Channel) → test_due c ≡ true ↔ TestDue c
unfolding test_due
test_due-exactly c = (shows, told)
  where
    interval : (not c.tests.out && ltb 0 c.parameters.interval && eqb c.tests.interval 0) ≡ true → AfterInterval c
    interval e =
        let p = both _ _ e in let q = both _ _ p.0 in
        record { none = not-true _ q.0; set = ltb-true 0 _ q.1; over = eqb-true _ 0 p.1 }

    shows : test_due c ≡ true → TestDue c
    shows e =
        let p = both _ _ e in
        record {
          acknowledged = ltb-false c.sender.acked c.sender.high (not-true _ p.0);
          some = either c.tests.again (λ a. inl a) (λ a. inr (interval (rw a at p.1)));
        }

    told : TestDue c → test_due c ≡ true
    told d = rw (le-ltb c.sender.acked c.sender.high d.acknowledged) (go d.some)
      where
        go : (c.tests.again ≡ true) ⊎ AfterInterval c → (c.tests.again || (not c.tests.out && ltb 0 c.parameters.interval && eqb c.tests.interval 0)) ≡ true
        go (inl a) = rw a
        go (inr i) = rw (i.none, lt-ltb 0 c.parameters.interval i.set, i.over, or-true)

no_test : (c : Channel) → (TestDue c → ⊥) → test_due c ≡ false
no_test c none = either (test_due c) (λ e. absurd (none ((test_due-exactly c).0 e))) (λ e. e)

-- ---- what is handed over, by "CA and test, break, Ack, then data, CS, DC. Ties (house): CA, test"

module _ (c : Channel) (m : List ℕ) where
  -- "Test: our A1, with the fields of our A0, becomes due": it goes before all else, then none is due; the interval is whole
  pub due-accept-fields : c.accept ≡ true → due c m
      ≡ record {
        answer = Good;
        payload = Some (record { len = 6; bytes = 0xA1 ∷ c.parameters.own.block ∷ c.parameters.own.t1 ∷ 0xFF ∷ c.parameters.own.t3 ∷ 0xFF ∷ 0 ∷ 0 ∷ [] });
        channel = record {
          parameters = c.parameters;
          sender = c.sender;
          receiver = c.receiver;
          tests = record { out = c.tests.out; again = c.tests.again; wait = c.tests.wait; unanswered = c.tests.unanswered; interval = c.parameters.interval };
          accept = false;
        };
      }
  unfolding hand_accept
  due-accept-fields a = due-accept c m a

  -- then a test, A3: "Each waits T1 and is out from its hand-over"; it is not due again, and the unanswered count stays
  pub due-test-fields : c.accept ≡ false → TestDue c → due c m
      ≡ record {
        answer = Good;
        payload = Some (record { len = 1; bytes = 0xA3 ∷ 0 ∷ 0 ∷ 0 ∷ 0 ∷ 0 ∷ 0 ∷ 0 ∷ [] });
        channel = record {
          parameters = c.parameters;
          sender = c.sender;
          receiver = c.receiver;
          tests = record { out = true; again = false; wait = c.parameters.terms.t1; unanswered = c.tests.unanswered; interval = c.parameters.interval };
          accept = false;
        };
      }
  unfolding hand_test
  due-test-fields a t = due-test c m a ((test_due-exactly c).1 t) ∙ rw a

  -- then the Ack, "1 0 RS 1 number; RS 1 is ready", and none is due then
  pub due-ack-ready : c.accept ≡ false → (TestDue c → ⊥) → c.receiver.ack.due ≡ true → c.receiver.ack.ready ≡ true → due c m
      ≡ record {
        answer = Good;
        payload = Some (record { len = 1; bytes = (0xB0 + c.receiver.ack.number % 16) ∷ 0 ∷ 0 ∷ 0 ∷ 0 ∷ 0 ∷ 0 ∷ 0 ∷ [] });
        channel = record {
          parameters = c.parameters;
          sender = c.sender;
          receiver = record { at = c.receiver.at; back = c.receiver.back; complete = c.receiver.complete; ack = record { due = false; ready = false; number = 0 } };
          tests = record { out = c.tests.out; again = c.tests.again; wait = c.tests.wait; unanswered = c.tests.unanswered; interval = c.parameters.interval };
          accept = false;
        };
      }
  unfolding hand_ack
  due-ack-ready a t k r = due-ack c m a (no_test c t) k ∙ rw (a, r)

  -- RS 0 where it does not say ready
  pub due-ack-not-ready : c.accept ≡ false → (TestDue c → ⊥) → c.receiver.ack.due ≡ true → c.receiver.ack.ready ≡ false → due c m
      ≡ record {
        answer = Good;
        payload = Some (record { len = 1; bytes = (0x90 + c.receiver.ack.number % 16) ∷ 0 ∷ 0 ∷ 0 ∷ 0 ∷ 0 ∷ 0 ∷ 0 ∷ [] });
        channel = record {
          parameters = c.parameters;
          sender = c.sender;
          receiver = record { at = c.receiver.at; back = c.receiver.back; complete = c.receiver.complete; ack = record { due = false; ready = false; number = 0 } };
          tests = record { out = c.tests.out; again = c.tests.again; wait = c.tests.wait; unanswered = c.tests.unanswered; interval = c.parameters.interval };
          accept = false;
        };
      }
  unfolding hand_ack
  due-ack-not-ready a t k r = due-ack c m a (no_test c t) k ∙ rw (a, r)

  -- then data: what the sending half hands over, and the interval is whole
  pub due-frame-fields : c.accept ≡ false → (TestDue c → ⊥) → c.receiver.ack.due ≡ false → Ready c.sender → length m ≡ c.sender.length → due c m
      ≡ record {
        answer = Good;
        payload = Some (handed_payload (handed c.parameters.terms c.sender m).note);
        channel = record {
          parameters = c.parameters;
          sender = (handed c.parameters.terms c.sender m).sender;
          receiver = c.receiver;
          tests = record { out = c.tests.out; again = c.tests.again; wait = c.tests.wait; unanswered = c.tests.unanswered; interval = c.parameters.interval };
          accept = false;
        };
      }
  due-frame-fields a t k r e = due-data c m a (no_test c t) k ∙ rw (frame-given _ ((frame-exactly c.parameters.terms c.sender m).1 (r, e)), a)

  -- row 7, "lent message not of the accepted length", "only when the frame to hand over is data": nothing changes
  pub due-other-length : c.accept ≡ false → (TestDue c → ⊥) → c.receiver.ack.due ≡ false → Ready c.sender → length m ≢ c.sender.length → due c m
      ≡ record { answer = OtherLength; payload = None; channel = c }
  due-other-length a t k r e =
      due-data c m a (no_test c t) k ∙ rw (frame-other-length c.parameters.terms c.sender m r e)

  -- "with nothing due the answer is 0 and no frame"
  pub due-nothing : c.accept ≡ false → (TestDue c → ⊥) → c.receiver.ack.due ≡ false → (Ready c.sender → ⊥) → due c m
      ≡ record { answer = Good; payload = None; channel = c }
  due-nothing a t k r = due-data c m a (no_test c t) k ∙ rw (frame-none c.parameters.terms c.sender m r)

  -- no hand-over ends "out"
  pub due-out : c.tests.out ≡ true → (due c m).channel.tests.out ≡ true
  due-out e = go (due-outcome c m)
    where
      go : {h : Handed} {x : Due} → DueOutcome c h x → x.channel.tests.out ≡ true
      go (accept-goes _) = e
      go (test-goes _ _) = refl
      go (ack-goes _ _ _) = e
      go (frame-goes _) = e
      go (none-goes _) = e
      go (other_length _) = e

-- ---- time passes

-- the wait for an Ack runs out once more than the repeats allow
pub record RepeatsSpent (c : Channel) (n : ℕ) : Type 0 where
  pub runs : 0 < c.sender.wait
  pub over : c.sender.wait ≤ n
  pub spent : c.parameters.terms.repeats ≤ c.sender.count

-- a test's wait runs out: "gives 8 if the count would exceed the allowance"
pub record TestsSpent (c : Channel) (n : ℕ) : Type 0 where
  pub runs : 0 < c.tests.wait
  pub over : c.tests.wait ≤ n
  pub spent : c.parameters.allowed ≤ c.tests.unanswered

-- 0 is not 8
pub good-lasts : Good ≢ UsedUp
good-lasts e = let z : ◌≡◌ {A = ℕ} 0 1 = cc in omega arith

module _ (c : Channel) (n : ℕ) where
  lasts : (RepeatsSpent c n → ⊥) → repeats_used_up (passed c.parameters.terms c.sender n).note ≡ false
  lasts h = go (passed c.parameters.terms c.sender n).note λ e. let u = (passed-used_up c.parameters.terms c.sender n).0 e in h (omega arith)
    where
      go : (note : Passing) → (note ≡ RanOut → ⊥) → repeats_used_up note ≡ false
      go Quiet h = refl
      go Again h = refl
      go RanOut h = absurd (h refl)

  -- no test's wait ends: it and the interval are less by the time that passed, each stopping at zero; every timer of the sending half takes effect, and nothing else changes
  pub elapsed-on : (RepeatsSpent c n → ⊥) → (c.tests.wait ≡ 0) ⊎ (n < c.tests.wait) → elapsed c n
      ≡ record {
        answer = Good;
        channel = record {
          parameters = c.parameters;
          sender = (passed c.parameters.terms c.sender n).sender;
          receiver = c.receiver;
          tests = record { out = c.tests.out; again = c.tests.again; wait = c.tests.wait - n; unanswered = c.tests.unanswered; interval = c.tests.interval - n };
          accept = c.accept;
        };
      }
  unfolding elapsed wait_ends
  elapsed-on s (inl e) = rw (lasts s, e)
  elapsed-on s (inr h) = rw (lasts s, lt-leb c.tests.wait n h, and-false)

  -- "a wait that runs out adds one and makes another test due": it stays out, and every other timer takes effect too
  pub elapsed-test : (RepeatsSpent c n → ⊥) → 0 < c.tests.wait → c.tests.wait ≤ n → c.tests.unanswered < c.parameters.allowed → elapsed c n
      ≡ record {
        answer = Good;
        channel = record {
          parameters = c.parameters;
          sender = (passed c.parameters.terms c.sender n).sender;
          receiver = c.receiver;
          tests = record { out = c.tests.out; again = true; wait = 0; unanswered = c.tests.unanswered + 1; interval = c.tests.interval - n };
          accept = c.accept;
        };
      }
  unfolding elapsed wait_ends
  elapsed-test s runs over left = rw (lasts s, ne_eqb c.tests.wait 0 (omega arith), le-leb c.tests.wait n over, lt-leb c.parameters.allowed c.tests.unanswered left)

  -- 8 where the repeats or the tests are used up, and nothing changes
  pub elapsed-spent : RepeatsSpent c n ⊎ TestsSpent c n → elapsed c n ≡ record { answer = UsedUp; channel = c }
  unfolding elapsed wait_ends
  elapsed-spent (inl s) = rw ((passed-used_up c.parameters.terms c.sender n).1 (omega arith))
  elapsed-spent (inr s) =
      rw (ne_eqb c.tests.wait 0 (omega arith), le-leb c.tests.wait n s.over, le-leb c.parameters.allowed c.tests.unanswered s.spent)
      (same (repeats_used_up (passed c.parameters.terms c.sender n).note) _)

  -- 8 exactly then
  pub elapsed-used-up : (elapsed c n).answer ≡ UsedUp ↔ (RepeatsSpent c n ⊎ TestsSpent c n)
  elapsed-used-up = (go refl (time-outcome c n), λ s. ap (λ (x : Answered). x.answer) (elapsed-spent s))
    where
      go : {g : Passed} {x : Answered} → passed c.parameters.terms c.sender n ≡ g → TimeOutcome c n g x → x.answer ≡ UsedUp → RepeatsSpent c n ⊎ TestsSpent c n
      go p repeats-used-up e = let u = (passed-used_up c.parameters.terms c.sender n).0 (ap (λ (g : Passed). g.note) p) in inl (omega arith)
      go p (runs_on _ _) e = absurd (good-lasts e)
      go p (tests-used-up _ w u) e = inr (omega arith)
      go p (test-again _ _ _) e = absurd (good-lasts e)

  -- no time ends "out"
  pub elapsed-out : (elapsed c n).channel.tests.out ≡ c.tests.out
  elapsed-out = go (time-outcome c n)
    where
      go : {g : Passed} {x : Answered} → TimeOutcome c n g x → x.channel.tests.out ≡ c.tests.out
      go repeats-used-up = refl
      go (runs_on _ _) = refl
      go (tests-used-up _ _ _) = refl
      go (test-again _ _ _) = refl

-- ---- a message is offered

module _ (limit : ℕ) (c : Channel) (n : ℕ) where
  -- one of 1 to limit bytes, with none in sending: 0, and only the sending half changes
  pub sent-good : c.sender.length ≡ 0 → 1 ≤ n → n ≤ limit → sent limit c n
      ≡ record {
        answer = Good;
        channel = record { parameters = c.parameters; sender = (offered limit c.sender n).sender; receiver = c.receiver; tests = c.tests; accept = c.accept };
      }
  unfolding sent
  sent-good free some within = rw (offered-leaves limit c.sender n free some within)

  -- row 5, "send while a message is unfinished": nothing changes
  pub sent-busy : 0 < c.sender.length → sent limit c n ≡ record { answer = Busy; channel = c }
  unfolding sent
  sent-busy some = rw (offered-busy limit c.sender n some)

  -- row 6, "message to send empty or over 1,024": nothing changes
  pub sent-bad-length : c.sender.length ≡ 0 → (n ≡ 0) ⊎ (limit < n) → sent limit c n ≡ record { answer = BadLength; channel = c }
  unfolding sent
  sent-bad-length free (inl e) = rw (offered-empty limit c.sender n free e)
  sent-bad-length free (inr h) = rw (offered-over limit c.sender n free h)
