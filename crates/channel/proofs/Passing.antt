-- What passing time and a message offered leave: each outcome with what led to it. The laws go by these cases.
use Prim.Native.Nat.{ℕ, ◌-◌, ◌<◌, ◌≤◌}
use native.Mathlib.Omega.{arith}
use mathlib.Core.Bool.{true, false, not, true≢false, false≢true}
use mathlib.Core.Logic.{◌≢◌}
use mathlib.Core.Path.{◌≡◌, refl, sym, ◌∙◌}
use lib.Dec.{eqb, leb}
use borrow.Author.Tests.{eqb-false, leb-true, not-true, ne_eqb, le-leb}
use Rattle.laws.proofs.Cases.{by, by-not, by_le, both}
use Rattle.sender.specs.Sending.{passed, offered, Offer, Accepted, Busy as InSending, BadLength as NotSent}
use Rattle.sender.specs.declared.Sender.{Sender}
use Rattle.sender.specs.declared.Offered.{Offered}
use Rattle.sender.specs.declared.Passing.{Passing}
use Rattle.sender.specs.declared.Passing.TheVariants.{Quiet, Again, UsedUp as RanOut}
use Rattle.sender.specs.declared.Passed.{Passed}
use Rattle.channel.specs.declared.Tests.{Tests}
use Rattle.channel.specs.declared.Channel.{Channel}
use Rattle.channel.specs.declared.Answer.TheVariants.{Good, Busy, BadLength}
use Rattle.channel.specs.declared.Answered.{Answered}
use Rattle.channel.specs.Numbers.{said, closes}
use Rattle.channel.specs.Opened.{with_sender, wait_ends, later, tests_ran_out, used_up, went, repeats_used_up, elapsed, offer_answer, sent}
use Rattle.channel.proofs.Closing.{Settles, gives_up, goes_on}

-- ---- time passes

-- a test's wait runs, and it is over after n tenths
pub record TestEnds (t : Tests) (n : ℕ) : Type 0 where
  pub runs : 0 < t.wait
  pub over : t.wait ≤ n

module _ (t : Tests) (n : ℕ) where
  wait_ends-told : wait_ends t n ≡ true → TestEnds t n
  unfolding wait_ends
  wait_ends-told e =
      let b = both (not (eqb t.wait 0)) (leb t.wait n) e in
      let runs = eqb-false t.wait 0 (not-true (eqb t.wait 0) b.0) in
      let over = leb-true t.wait n b.1 in
      omega arith

  wait_ends-ends : TestEnds t n → wait_ends t n ≡ true
  unfolding wait_ends
  wait_ends-ends r = rw (ne_eqb t.wait 0 (omega arith), le-leb t.wait n r.over)

-- what passing time leaves, by what the sending half makes of it
pub data TimeOutcome (c : Channel) (n : ℕ) : Passed → Answered → Type 0 where
  repeats-used-up : {s : Sender} → TimeOutcome c n (record { note = RanOut; sender = s }) (used_up c)
  runs_on : {g : Passed} → repeats_used_up g.note ≡ false → (TestEnds c.tests n → ⊥)
      → TimeOutcome c n g (went c g.sender (later c.tests n))
  tests-used-up : {g : Passed} → repeats_used_up g.note ≡ false → TestEnds c.tests n → c.parameters.allowed ≤ c.tests.unanswered
      → TimeOutcome c n g (used_up c)
  test-again : {g : Passed} → repeats_used_up g.note ≡ false → TestEnds c.tests n → c.tests.unanswered < c.parameters.allowed
      → TimeOutcome c n g (went c g.sender (tests_ran_out c.tests n))

ran_out : (c : Channel) (n : ℕ) (note : Passing) (s : Sender) → repeats_used_up note ≡ true → TimeOutcome c n (record { note = note; sender = s }) (used_up c)
ran_out c n Quiet s e = absurd (false≢true e)
ran_out c n Again s e = absurd (false≢true e)
ran_out c n RanOut s e = repeats-used-up

module _ (c : Channel) (n : ℕ) where
  pub time-outcome : TimeOutcome c n (passed c.parameters.terms c.sender n) (elapsed c n)
  unfolding elapsed
  time-outcome =
      let g = passed c.parameters.terms c.sender n in
      let t = c.tests in
      let P = TimeOutcome c n g in
      by P (repeats_used_up g.note) (ran_out c n g.note g.sender) λ e.
      by-not P (wait_ends t n) (λ w. runs_on e (λ r. true≢false (sym (wait_ends-ends t n r) ∙ w))) λ w.
      by_le P c.parameters.allowed t.unanswered (tests-used-up e (wait_ends-told t n w)) (test-again e (wait_ends-told t n w))

-- time changes no receiver and restarts no interval; 8 leaves the channel as it was
pub record Passes (c : Channel) (n : ℕ) (x : Answered) : Type 0 where
  pub receiver : x.channel.receiver ≡ c.receiver
  pub interval : (said x.answer).number ≡ 0 → x.channel.tests.interval ≡ c.tests.interval - n
  pub refused : (said x.answer).number ≢ 0 → x.channel ≡ c

refuses : (c : Channel) (n : ℕ) → Passes c n (used_up c)
refuses c n = record { receiver = refl; interval = λ e. omega arith; refused = λ _. refl }

outcome-passes : {c : Channel} {n : ℕ} {g : Passed} {x : Answered} → TimeOutcome c n g x → Passes c n x × Settles c x.answer x.channel
outcome-passes {c} {n} repeats-used-up = (refuses c n, gives_up c)
outcome-passes {c} (runs_on e w) = (record { receiver = refl; interval = λ _. refl; refused = λ h. absurd (h refl) }, goes_on c _ _ refl)
outcome-passes {c} {n} (tests-used-up e w u) = (refuses c n, gives_up c)
outcome-passes {c} (test-again e w u) = (record { receiver = refl; interval = λ _. refl; refused = λ h. absurd (h refl) }, goes_on c _ _ refl)

module _ (c : Channel) (n : ℕ) where
  pub elapsed-passes : Passes c n (elapsed c n)
  elapsed-passes = (outcome-passes (time-outcome c n)).0

  pub elapsed-settles : Settles c (elapsed c n).answer (elapsed c n).channel
  elapsed-settles = (outcome-passes (time-outcome c n)).1

-- ---- a message is offered

-- what an offer leaves, by what the sending half makes of it
pub data SendOutcome (c : Channel) : Offered → Answered → Type 0 where
  message-accepted : {s : Sender} → SendOutcome c (record { note = Accepted; sender = s }) (record { answer = Good; channel = with_sender c s })
  in-sending : {s : Sender} → SendOutcome c (record { note = InSending; sender = s }) (record { answer = Busy; channel = with_sender c s })
  bad-length : {s : Sender} → SendOutcome c (record { note = NotSent; sender = s }) (record { answer = BadLength; channel = with_sender c s })

module _ (limit : ℕ) (c : Channel) (n : ℕ) where
  pub send-outcome : SendOutcome c (offered limit c.sender n) (sent limit c n)
  unfolding sent
  send-outcome = go (offered limit c.sender n).note (offered limit c.sender n).sender
    where
      go : (note : Offer) (s : Sender) → SendOutcome c (record { note = note; sender = s }) (record { answer = offer_answer note; channel = with_sender c s })
      go Accepted s = message-accepted
      go InSending s = in-sending
      go NotSent s = bad-length

  outcome-leaves : {o : Offered} {x : Answered} → SendOutcome c o x
      → (x.channel.receiver ≡ c.receiver) × (x.channel.tests ≡ c.tests) × (closes x.answer ≡ false)
  outcome-leaves message-accepted = (refl, refl, refl)
  outcome-leaves in-sending = (refl, refl, refl)
  outcome-leaves bad-length = (refl, refl, refl)

  -- a message offered changes no receiver and no test
  pub sent-leaves : ((sent limit c n).channel.receiver ≡ c.receiver) × ((sent limit c n).channel.tests ≡ c.tests)
  sent-leaves = let l = outcome-leaves send-outcome in (l.0, l.1)

  -- and closes nothing
  pub sent-goes-on : closes (sent limit c n).answer ≡ false
  sent-goes-on = (outcome-leaves send-outcome).2
