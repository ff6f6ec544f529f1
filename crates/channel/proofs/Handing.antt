-- What a call for a telegram gives, and leaves: the order, each outcome with what led to it, and what holds of them all.
use Prim.Native.Nat.{ℕ, ◌≤◌}
use native.Mathlib.Omega.{arith}
use mathlib.Core.Bool.{true, false, true≢false, false≢true}
use mathlib.Core.List.{List}
use mathlib.Core.Path.{◌≡◌, refl, sym}
use Rattle.std.specs.Option.{is_some}
use Rattle.std.specs.declared.option.Option.TheVariants.{Some}
use Rattle.laws.proofs.Branches.{on, off}
use Rattle.laws.proofs.Cases.{either}
use Rattle.telegram.specs.Kinds.{ack_of, test_of, accept_of}
use Rattle.telegram.specs.declared.payload.Payload.{Payload}
use Rattle.sender.specs.declared.Sender.{Sender}
use Rattle.sender.specs.declared.Handed.{Handed}
use Rattle.sender.specs.declared.Handing.{Handing}
use Rattle.sender.specs.declared.Handing.TheVariants.{Frame, Nothing, OtherLength as NotAccepted}
use Rattle.sender.specs.Sending.{unacknowledged, is_frame, handed_payload, handed}
use Rattle.sender.proofs.Frames.{handed-sized}
use Rattle.receiver.specs.Receiving.{ack_handed}
use Rattle.channel.specs.declared.Answer.{Answer}
use Rattle.channel.specs.declared.Answer.TheVariants.{Good, OtherLength}
use Rattle.channel.specs.declared.Tests.{Tests}
use Rattle.channel.specs.declared.Channel.{Channel}
use Rattle.channel.specs.declared.Due.{Due}
use Rattle.channel.specs.Numbers.{closes}
use Rattle.channel.specs.Opened.{with_sender, with_receiver, with_tests, with_accept, given_payload, test_due, hand_over, hand_nothing, hand_accept, hand_test, hand_ack, hand_by, hand_data, due}

-- ---- which telegram goes

-- a test is never due while data is unacknowledged
pub test_due-acknowledged : (c : Channel) → unacknowledged c.sender ≡ true → test_due c ≡ false
unfolding test_due
test_due-acknowledged c e = rw e

module _ (c : Channel) (m : List ℕ) where
  -- our A1 goes first
  pub due-accept : c.accept ≡ true → due c m ≡ hand_accept c
  unfolding due
  due-accept a = sym (on _ _ _ _ a refl)

  -- then a test
  pub due-test : c.accept ≡ false → test_due c ≡ true → due c m ≡ hand_test c
  unfolding due
  due-test a t = sym (off _ _ _ _ a (on _ _ _ _ t refl))

  -- then an Ack
  pub due-ack : c.accept ≡ false → test_due c ≡ false → c.receiver.ack.due ≡ true → due c m ≡ hand_ack c
  unfolding due
  due-ack a t k = sym (off _ _ _ _ a (off _ _ _ _ t (on _ _ _ _ k refl)))

  -- and with none of these due, what the sending half hands over
  pub due-data : c.accept ≡ false → test_due c ≡ false → c.receiver.ack.due ≡ false
      → (let h = handed c.parameters.terms c.sender m in due c m ≡ hand_by c h h.note)
  unfolding due hand_data
  due-data a t k = sym (off _ _ _ _ a (off _ _ _ _ t (off _ _ _ _ k refl)))

-- a test that goes out: it waits T1
abbrev pub test_out : Channel → Tests
test_out c = record { out = true; again = false; wait = c.parameters.terms.t1; unanswered = c.tests.unanswered; interval = c.tests.interval }

-- neither our A1 nor a test nor an Ack is due: it is the data's turn
pub record DataTurn (c : Channel) : Type 0 where
  pub accept : c.accept ≡ false
  pub test : test_due c ≡ false
  pub ack : c.receiver.ack.due ≡ false

-- which telegram goes, in their order, and what that leaves; of data, by what the sending half finds
pub data DueOutcome (c : Channel) : Handed → Due → Type 0 where
  accept-goes : {h : Handed} → c.accept ≡ true → DueOutcome c h (hand_over (with_accept c false) (accept_of c.parameters.own))
  test-goes : {h : Handed} → c.accept ≡ false → test_due c ≡ true → DueOutcome c h (hand_over (with_tests c (test_out c)) test_of)
  ack-goes : {h : Handed} → c.accept ≡ false → test_due c ≡ false → c.receiver.ack.due ≡ true
      → DueOutcome c h (hand_over (with_receiver c (ack_handed c.receiver)) (ack_of c.receiver.ack.ready c.receiver.ack.number))
  frame-goes : {s : Sender} {p : Payload} → DataTurn c → DueOutcome c (record { note = Frame p; sender = s }) (hand_over (with_sender c s) p)
  none-goes : {s : Sender} → DataTurn c → DueOutcome c (record { note = Nothing; sender = s }) (hand_nothing c Good)
  other_length : {s : Sender} → DataTurn c → DueOutcome c (record { note = NotAccepted; sender = s }) (hand_nothing c OtherLength)

data-turn : (c : Channel) → DataTurn c → (note : Handing) (s : Sender) → (let h : Handed = record { note = note; sender = s } in DueOutcome c h (hand_by c h note))
data-turn c t (Frame p) s = frame-goes t
data-turn c t Nothing s = none-goes t
data-turn c t NotAccepted s = other_length t

pub due-outcome : (c : Channel) (m : List ℕ) → DueOutcome c (handed c.parameters.terms c.sender m) (due c m)
unfolding hand_accept hand_test hand_ack
due-outcome c m =
    let h = handed c.parameters.terms c.sender m in
    either c.accept (λ a. rw (due-accept c m a) (accept-goes a)) λ a.
    either (test_due c) (λ t. rw (due-test c m a t) (test-goes a t)) λ t.
    either c.receiver.ack.due (λ k. rw (due-ack c m a t k) (ack-goes a t k)) λ k.
    rw (due-data c m a t k) (data-turn c (record { accept = a; test = t; ack = k }) h.note h.sender)

-- ---- what every call gives

-- a telegram of one to eight bytes
pub record Sized (p : Payload) : Type 0 where
  pub some : 1 ≤ p.len
  pub most : p.len ≤ 8

-- a telegram, which restarts the interval, or nothing; and nothing is closed
pub record Gives (c : Channel) (x : Due) : Type 0 where
  pub sized : is_some x.payload ≡ true → Sized (given_payload x.payload)
  pub none : is_some x.payload ≡ false → x ≡ hand_nothing c x.answer
  pub restarts : is_some x.payload ≡ true → x.channel.tests.interval ≡ c.parameters.interval
  pub goes_on : closes x.answer ≡ false

module _ {c : Channel} where
  gives_one : {d : Channel} (p : Payload) → d.tests.interval ≡ c.parameters.interval → Sized p
      → Gives c (record { answer = Good; payload = Some p; channel = d })
  gives_one p whole s = record { sized = λ _. s; none = λ e. absurd (true≢false e); restarts = λ _. whole; goes_on = refl }

  gives_none : (a : Answer) → closes a ≡ false → Gives c (hand_nothing c a)
  gives_none a e = record { sized = λ e. absurd (false≢true e); none = λ _. refl; restarts = λ e. absurd (false≢true e); goes_on = e }

  outcome-gives : {h : Handed} {x : Due} → (is_frame h.note ≡ true → Sized (handed_payload h.note)) → DueOutcome c h x → Gives c x
  outcome-gives sized (accept-goes a) = gives_one (accept_of c.parameters.own) refl (omega arith)
  outcome-gives sized (test-goes a t) = gives_one test_of refl (omega arith)
  outcome-gives sized (ack-goes a t k) = gives_one (ack_of c.receiver.ack.ready c.receiver.ack.number) refl (omega arith)
  outcome-gives sized (frame-goes t) = gives_one _ refl (sized refl)
  outcome-gives sized (none-goes t) = gives_none Good refl
  outcome-gives sized (other_length t) = gives_none _ refl

module _ (c : Channel) (m : List ℕ) where
  due-gives : Gives c (due c m)
  due-gives =
      outcome-gives (λ e. let b = handed-sized c.parameters.terms c.sender m e in record { some = b.0; most = b.1 }) (due-outcome c m)

  -- a telegram given has one to eight bytes
  pub due-sized : is_some (due c m).payload ≡ true → Sized (given_payload (due c m).payload)
  due-sized = due-gives.sized

  -- nothing given means no bytes, and a channel as it was
  pub due-none : is_some (due c m).payload ≡ false → due c m ≡ hand_nothing c (due c m).answer
  due-none = due-gives.none

  -- a hand-over restarts the interval
  pub due-restarts : is_some (due c m).payload ≡ true → (due c m).channel.tests.interval ≡ c.parameters.interval
  due-restarts = due-gives.restarts

  -- nothing is closed by it
  pub due-goes-on : closes (due c m).answer ≡ false
  due-goes-on = due-gives.goes_on
