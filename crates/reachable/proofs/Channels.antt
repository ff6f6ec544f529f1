-- What every call keeps of an open channel: what is agreed, the sending half, the tests, and the receiving half's numbers.
use Prim.Native.Nat.{ℕ, ◌+◌, ◌-◌, ◌<◌, ◌≤◌, zero-le}
use native.Mathlib.Nat.{mod-lt}
use native.Mathlib.Omega.{arith}
use mathlib.Core.Bool.{Bool, true, false, not, ◌||◌, true≢false, false≢true}
use mathlib.Core.List.{List}
use mathlib.Core.Logic.{inl, inr}
use mathlib.Core.Path.{◌≡◌, refl, sym, ◌∙◌}
use Rattle.laws.proofs.Branches.{and-off'}
use Rattle.laws.proofs.Cases.{by, by-eq, by-lt, either}
use Rattle.telegram.specs.Forms.{Bytes}
use Rattle.telegram.specs.declared.kinds.Telegram.{Telegram}
use Rattle.telegram.specs.declared.kinds.Telegram.TheVariants.{Data, Ack, Test, Break, Disconnect, Setup, Accept, Malformed}
use Rattle.settings.specs.declared.Settings.{Settings}
use Rattle.sender.specs.declared.Heard.{Heard}
use Rattle.sender.specs.declared.Handed.{Handed}
use Rattle.sender.specs.declared.Offered.{Offered}
use Rattle.sender.specs.declared.Passed.{Passed}
use Rattle.sender.specs.Sending.{unacknowledged}
use Rattle.std.specs.Result.{result_unwrap_or}
use Rattle.telegram.specs.Cutting.{none}
use Rattle.receiver.specs.Receiving.{following, settled, numbered, discarded, used, completed, received, took}
use Rattle.receiver.specs.declared.AckDue.{AckDue}
use Rattle.telegram.specs.declared.cutting.Message.{Message}
use Rattle.receiver.specs.declared.Receiver.{Receiver}
use Rattle.receiver.specs.declared.Received.{Received}
use Rattle.receiver.specs.declared.Standing.{Standing}
use Rattle.receiver.specs.declared.Took.{Took}
use Rattle.receiver.proofs.Outcomes.{Brings, at_first, at-later, breaks, short-first, short-later, goes_on, ends, Outcome, out-of-place, untaken, thrown-away, in-order, outcome, TakeOutcome, none-complete, short-buffer, shows, take-outcome}
use Rattle.channel.specs.declared.Parameters.{Parameters}
use Rattle.channel.specs.declared.Tests.{Tests}
use Rattle.channel.specs.declared.Channel.{Channel}
use Rattle.channel.specs.declared.Answered.{Answered}
use Rattle.channel.specs.declared.Due.{Due}
use Rattle.channel.specs.Opened.{with_receiver, fresh, later, tests_ran_out, test_due, elapsed, due, sent}
use Rattle.channel.proofs.Handing.{DueOutcome, accept-goes, test-goes, ack-goes, frame-goes, none-goes, other_length, due-outcome}
use Rattle.channel.proofs.Passing.{TestEnds, TimeOutcome, repeats-used-up, runs_on, tests-used-up, test-again, time-outcome, SendOutcome, message-accepted, in-sending, bad-length, send-outcome}
use Rattle.arrival.specs.Arrived.{arrived}
use Rattle.arrival.proofs.Arriving.{ArrivalOutcome, data-came, ack-came, test-came, break-came, disconnect-came, setup-came, accept-undue, accept-bad, accept-came, malformed-came, arrival-outcome}
use Rattle.reachable.specs.Reachable.{Agreed, Ours, Declared, Stands, Receives, Tested}
use Rattle.reachable.proofs.Sending.{Kept, fresh_kept, heard-kept, pass_kept, hand-kept, offer-kept}

-- ---- the receiving half

-- no message
pub none-declared : {limit : ℕ} → Declared limit none
none-declared = record { within = zero-le; flags = omega arith; none = λ _. refl }

-- nothing begun
pub nothing-stands : {limit : ℕ} (n : ℕ) (discarding : Bool) → n < 16 → Stands limit (record { expected = n; discarding = discarding; begun = none; fill = 0 })
nothing-stands n discarding h = record { expected = h; begun = none-declared; empty = λ _. refl; short = λ some. absurd (omega arith); thrown = λ _. refl }

module _ {limit : ℕ} {r : Receiver} (k : Receives limit r) where
  -- what a frame leaves: a standing, a complete message or none, and the Ack for it, or what was there before
  settled-receives : (asks last : Bool) (standing : Standing) (message : Message) → Stands limit standing → Declared limit message
      → Receives limit (settled r asks last standing message)
  unfolding settled
  settled-receives asks last standing message h d =
      record {
        at = h;
        back = by (Stands limit) (asks || last) (λ _. h) (λ _. k.back);
        ack = by (λ (x : AckDue). x.number < 16) asks (λ _. h.expected) (λ _. k.ack);
        complete = d;
      }

  next-number : following r.at.expected < 16
  next-number = mod-lt (r.at.expected + 1) (omega arith)

  -- a frame whose message is thrown away
  discarded-receives : (asks last : Bool) → Receives limit (discarded r asks last)
  unfolding numbered
  discarded-receives asks last = settled-receives asks last _ _ (nothing-stands _ (not last) next-number) k.complete

  -- the message that a frame of bytes belongs to is within the limit, with four flags
  brings-declared : {p : List ℕ} {room : ℕ} {m : Message} {fill : ℕ} → Bytes p → Brings limit r p room m fill → Declared limit m
  brings-declared h (at_first f two some most) = let high = h 0 in record { within = most; flags = omega arith; none = λ z. absurd (omega arith) }
  brings-declared h (at-later f held) = k.at.begun

  -- one that is used leaves bytes to come
  used-receives : (asks : Bool) (m : Message) (fill : ℕ) → Declared limit m → fill < m.length → Receives limit (used r asks m fill)
  unfolding numbered
  used-receives asks m fill d less =
      settled-receives asks false _ _
      (record { expected = next-number; begun = d; empty = λ z. absurd (omega arith); short = λ _. less; thrown = λ e. absurd (false≢true e) })
      k.complete

  completed-receives : (asks : Bool) (m : Message) → Declared limit m → Receives limit (completed r asks m)
  unfolding numbered
  completed-receives asks m d = settled-receives asks true _ m (nothing-stands _ false next-number) d

  data-receives : {asks last : Bool} {number : ℕ} {p : List ℕ} {room : ℕ} {x : Received} → Bytes p → Outcome limit r asks last number p room x → Receives limit x.receiver
  data-receives h (out-of-place n) = settled-receives _ _ _ _ k.at k.complete
  data-receives h (untaken e w) = settled-receives _ _ _ _ k.at k.complete
  data-receives h (thrown-away e w t) = discarded-receives _ _
  data-receives h (in-order o (breaks c)) = discarded-receives _ _
  data-receives h (in-order o (short-first b e s)) = discarded-receives _ _
  data-receives h (in-order o (short-later f s)) = k
  data-receives h (in-order o (goes_on b l less roomy)) = used-receives _ _ _ (brings-declared h b) less
  data-receives h (in-order o (ends b l all roomy)) = completed-receives _ _ (brings-declared h b)

  received-receives : (t : Telegram) (p : List ℕ) (room : ℕ) → Bytes p → Receives limit (received limit r t p room).receiver
  unfolding received
  received-receives (Data ar last number) p room h = data-receives h (outcome limit r ar last number p room)
  received-receives (Ack ready number) p room h = k
  received-receives Test p room h = k
  received-receives Break p room h = k
  received-receives Disconnect p room h = k
  received-receives (Setup s) p room h = k
  received-receives (Accept s) p room h = k
  received-receives Malformed p room h = k

  took-receives : (room : ℕ) → Receives limit (took r room).receiver
  took-receives room = go (take-outcome r room)
    where
      go : {x : Took} → TakeOutcome r room x → Receives limit x.receiver
      go (none-complete w) = k
      go (short-buffer w s) = k
      go (shows w f) = record { at = k.at; back = k.back; ack = k.ack; complete = none-declared }

  -- a take reports four flags
  pub took-reports : (room : ℕ) → (result_unwrap_or (took r room).message none).flags < 16
  took-reports room = go (take-outcome r room)
    where
      go : {x : Took} → TakeOutcome r room x → (result_unwrap_or x.message none).flags < 16
      go (none-complete w) = omega arith
      go (short-buffer w s) = omega arith
      go (shows w f) = k.complete.flags

-- ---- the tests

-- none is out; or one is, which the interval asked for: its wait runs, or it ran out and its repeat is kept
pub data Testing (interval allowed : ℕ) : Tests → Type 0 where
  none_out : {w i : ℕ} → w ≡ 0 → Testing interval allowed (record { out = false; again = false; wait = w; unanswered = 0; interval = i })
  one-waits : {w u i : ℕ} → 0 < interval → 0 < w → u ≤ allowed → Testing interval allowed (record { out = true; again = false; wait = w; unanswered = u; interval = i })
  one_again : {w u i : ℕ} → 0 < interval → w ≡ 0 → u ≤ allowed → Testing interval allowed (record { out = true; again = true; wait = w; unanswered = u; interval = i })

-- whatever is left of the interval
rested : {k a : ℕ} {t : Tests} (i : ℕ) → Testing k a t → Testing k a (record { out = t.out; again = t.again; wait = t.wait; unanswered = t.unanswered; interval = i })
rested i (none_out z) = none_out z
rested i (one-waits p w u) = one-waits p w u
rested i (one_again p z u) = one_again p z u

stopped : (w n : ℕ) → w ≡ 0 → w - n ≡ 0
stopped w n z = omega arith

left : (w n : ℕ) → n < w → 0 < w - n
left w n l = omega arith

one_more : (u a : ℕ) → u < a → u + 1 ≤ a
one_more u a l = omega arith

-- time in which no wait ends
later-testing : {k a : ℕ} {t : Tests} (n : ℕ) → (TestEnds t n → ⊥) → Testing k a t → Testing k a (later t n)
later-testing n h (none_out {w} z) = none_out (stopped w n z)
later-testing n h (one_again {w} p z u) = one_again p (stopped w n z) u
later-testing {k} {a} n h (one-waits {w} {u} {i} p r most) =
    by-lt (λ (_ : ℕ). Testing k a (record { out = true; again = false; wait = w - n; unanswered = u; interval = i - n })) n w {x = 0} {y = 0}
    (λ l. one-waits p (left w n l) most) (λ l. absurd (h (record { runs = r; over = l })))

-- a wait that ends: its repeat is kept
ends-testing : {k a : ℕ} {t : Tests} (n : ℕ) → TestEnds t n → t.unanswered < a → Testing k a t → Testing k a (tests_ran_out t n)
ends-testing n e few (none_out z) = absurd (omega (arith, e.runs))
ends-testing {a = a} n e few (one-waits {u = u} p r most) = one_again p refl (one_more u a few)
ends-testing n e few (one_again p z most) = absurd (omega (arith, e.runs))

-- the tests stay within the allowance, and one that is out waits or has its repeat kept
pub testing-tested : {k a : ℕ} {t : Tests} → Testing k a t → Tested a t
testing-tested (none_out z) = record { unanswered = zero-le; again = λ e. absurd (false≢true e); waits = λ e. absurd (false≢true e) }
testing-tested (one-waits p w u) = record { unanswered = u; again = λ e. refl; waits = λ _. inl w }
testing-tested (one_again p z u) = record { unanswered = u; again = λ e. refl; waits = λ _. inr refl }

-- with the interval 0 none is out
pub none-tested : {k a : ℕ} {t : Tests} → k ≡ 0 → Testing k a t → (t.out ≡ false) × (t.again ≡ false)
none-tested z (none_out w) = (refl, refl)
none-tested z (one-waits p w u) = absurd (omega arith)
none-tested z (one_again p w u) = absurd (omega arith)

-- nor due
pub test_due-none : (c : Channel) → c.parameters.interval ≡ 0 → c.tests.again ≡ false → test_due c ≡ false
unfolding test_due
test_due-none c z a =
    let u = not (unacknowledged c.sender) in
    rw (a, z) (either c.tests.out (λ o. rw o (and-off' u false refl)) (λ o. rw o (and-off' u false refl)))

-- ---- a channel

pub record Open (limit : ℕ) (s : Settings) (c : Channel) : Type 0 where
  pub agreed : Agreed c.parameters.terms
  pub ours : Ours s c.parameters
  pub sender : Kept limit c.parameters.terms c.sender
  pub testing : Testing s.t_ct c.parameters.allowed c.tests
  pub receiver : Receives limit c.receiver

pub fresh-open : (limit : ℕ) (s : Settings) (p : Parameters) → Agreed p.terms → Ours s p → Open limit s (fresh p)
fresh-open limit s p a o =
    record {
      agreed = a;
      ours = o;
      sender = fresh_kept limit p.terms;
      testing = none_out refl;
      receiver = record { at = nothing-stands 0 false (omega arith); back = nothing-stands 0 false (omega arith); ack = omega arith; complete = none-declared };
    }

module _ {limit : ℕ} {own : Settings} {c : Channel} (k : Open limit own c) where
  -- an arrival of bytes, by its kind
  pub arrived-open : (t : Telegram) (p : List ℕ) (room : ℕ) → Bytes p → Open limit own (arrived limit c t p room).channel
  arrived-open t p room bytes = go (received-receives k.receiver t p room bytes) (heard-kept k.agreed k.sender t) (arrival-outcome limit c p room t)
    where
      go : {r : Received} {h : Heard} {t : Telegram} {x : Answered} → Receives limit r.receiver → Kept limit c.parameters.terms h.sender
          → ArrivalOutcome c r h t x → Open limit own x.channel
      go r h data-came = record { agreed = k.agreed; ours = k.ours; sender = k.sender; testing = rested _ k.testing; receiver = r }
      go r h ack-came = record { agreed = k.agreed; ours = k.ours; sender = h; testing = rested _ k.testing; receiver = k.receiver }
      go r h test-came = record { agreed = k.agreed; ours = k.ours; sender = k.sender; testing = rested _ k.testing; receiver = k.receiver }
      go r h break-came =
          record {
            agreed = k.agreed;
            ours = k.ours;
            sender = k.sender;
            testing = rested _ k.testing;
            receiver = record { at = k.receiver.back; back = k.receiver.back; ack = k.receiver.ack; complete = k.receiver.complete };
          }
      go r h disconnect-came = record { agreed = k.agreed; ours = k.ours; sender = k.sender; testing = rested _ k.testing; receiver = k.receiver }
      go r h setup-came = record { agreed = k.agreed; ours = k.ours; sender = k.sender; testing = rested _ k.testing; receiver = k.receiver }
      go r h (accept-undue o) = record { agreed = k.agreed; ours = k.ours; sender = k.sender; testing = rested _ k.testing; receiver = k.receiver }
      go r h (accept-bad o b) = record { agreed = k.agreed; ours = k.ours; sender = k.sender; testing = rested _ k.testing; receiver = k.receiver }
      go r h (accept-came o b) = record { agreed = k.agreed; ours = k.ours; sender = k.sender; testing = none_out refl; receiver = k.receiver }
      go r h malformed-came = record { agreed = k.agreed; ours = k.ours; sender = k.sender; testing = rested _ k.testing; receiver = k.receiver }

  pub elapsed-open : (n : ℕ) → Open limit own (elapsed c n).channel
  elapsed-open n = go (pass_kept k.agreed k.sender n) (time-outcome c n)
    where
      go : {g : Passed} {x : Answered} → Kept limit c.parameters.terms g.sender → TimeOutcome c n g x → Open limit own x.channel
      go s repeats-used-up = k
      go s (runs_on e w) = record { agreed = k.agreed; ours = k.ours; sender = s; testing = later-testing n w k.testing; receiver = k.receiver }
      go s (tests-used-up e w u) = k
      go s (test-again e w few) = record { agreed = k.agreed; ours = k.ours; sender = s; testing = ends-testing n w few k.testing; receiver = k.receiver }

  -- with the interval 0 no test is due
  pub untested-due : own.t_ct ≡ 0 → test_due c ≡ false
  untested-due z = test_due-none c (k.ours.interval ∙ z) (none-tested z k.testing).1

  -- so one that goes out has an interval
  test-out : test_due c ≡ true → 0 < own.t_ct
  test-out d = by-eq (λ (_ : ℕ). 0 < own.t_ct) own.t_ct 0 {x = 0} {y = 0} (λ z. absurd (true≢false (sym d ∙ untested-due z))) (λ h. omega arith)

  pub due-open : (m : List ℕ) → Open limit own (due c m).channel
  due-open m = go (hand-kept k.agreed k.sender m) (due-outcome c m)
    where
      go : {h : Handed} {x : Due} → Kept limit c.parameters.terms h.sender → DueOutcome c h x → Open limit own x.channel
      go s (accept-goes a) = record { agreed = k.agreed; ours = k.ours; sender = k.sender; testing = rested _ k.testing; receiver = k.receiver }
      go s (test-goes a t) =
          record {
            agreed = k.agreed;
            ours = k.ours;
            sender = k.sender;
            testing = one-waits (test-out t) k.agreed.t1 (testing-tested k.testing).unanswered;
            receiver = k.receiver;
          }
      go s (ack-goes a t d) =
          record {
            agreed = k.agreed;
            ours = k.ours;
            sender = k.sender;
            testing = rested _ k.testing;
            receiver = record { at = k.receiver.at; back = k.receiver.back; ack = omega arith; complete = k.receiver.complete };
          }
      go s (frame-goes t) = record { agreed = k.agreed; ours = k.ours; sender = s; testing = rested _ k.testing; receiver = k.receiver }
      go s (none-goes t) = k
      go s (other_length t) = k

  pub sent-open : (n : ℕ) → Open limit own (sent limit c n).channel
  sent-open n = go (offer-kept k.agreed k.sender n) (send-outcome limit c n)
    where
      go : {o : Offered} {x : Answered} → Kept limit c.parameters.terms o.sender → SendOutcome c o x → Open limit own x.channel
      go s message-accepted = record { agreed = k.agreed; ours = k.ours; sender = s; testing = k.testing; receiver = k.receiver }
      go s in-sending = record { agreed = k.agreed; ours = k.ours; sender = s; testing = k.testing; receiver = k.receiver }
      go s bad-length = record { agreed = k.agreed; ours = k.ours; sender = s; testing = k.testing; receiver = k.receiver }

  pub taken-open : (room : ℕ) → Open limit own (with_receiver c (took c.receiver room).receiver)
  taken-open room = record { agreed = k.agreed; ours = k.ours; sender = k.sender; testing = k.testing; receiver = took-receives k.receiver room }
