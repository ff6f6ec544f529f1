-- What open ends keep of their channels, so that their links carry certain kinds of telegrams only.
use Prim.Native.Nat.{ℕ}
use mathlib.Core.Bool.{Bool, true, false, true≢false}
use mathlib.Core.List.{List}
use mathlib.Core.Path.{◌≡◌, refl, sym, ap, ◌∙◌}
use Rattle.std.specs.Option.{is_some}
use Rattle.channel.specs.Opened.{given_payload}
use Rattle.telegram.specs.Outgoing.{bytes_of}
use Rattle.telegram.specs.Kinds.{sorted}
use Rattle.telegram.specs.declared.kinds.Telegram.{Telegram}
use Rattle.telegram.specs.declared.kinds.Telegram.TheVariants.{Data, Ack}
use Rattle.sender.specs.declared.Handed.{Handed}
use Rattle.sender.specs.declared.Passed.{Passed}
use Rattle.receiver.specs.Receiving.{took}
use Rattle.channel.specs.declared.Tests.{Tests}
use Rattle.channel.specs.declared.Channel.{Channel}
use Rattle.channel.specs.declared.Answered.{Answered}
use Rattle.channel.specs.declared.Due.{Due}
use Rattle.channel.specs.Opened.{with_receiver, elapsed, due, sent}
use Rattle.channel.proofs.Passing.{TimeOutcome, repeats-used-up, runs_on, tests-used-up, test-again, time-outcome}
use Rattle.channel.proofs.Handing.{DueOutcome, accept-goes, test-goes, ack-goes, frame-goes, none-goes, other_length, due-outcome}
use Rattle.channel.proofs.NoTests.{NoTests, test_due-untested, sent-untested, elapsed-untested, due-untested}
use Rattle.arrival.specs.Arrived.{arrived}
use Rattle.arrival.proofs.Arriving.{data-leaves, ack-leaves}
use Rattle.arrival.proofs.NoTests.{arrived-untested}
use Rattle.delivery.specs.End.{End}
use Rattle.delivery.specs.System.{Party}
use Rattle.delivery.specs.Claim.{channel_of, FreshEnd}
use Rattle.delivery.specs.Laws.{Carried}
use Rattle.delivery.proofs.DueKinds.{due-is, due-carried}

-- the kinds that two ends without tests hand over here (02, 10, TP 1.6): no test, so no A1 that answers one
pub data DataOrAck : Telegram → Type 0 where
  is-data : {asks last : Bool} {number : ℕ} → DataOrAck (Data asks last number)
  is-ack : {ready : Bool} {number : ℕ} → DataOrAck (Ack ready number)

-- the kinds by whether tests go out
abbrev pub CarriedBy : (tests : Bool) → Telegram → Type 0
CarriedBy true = Carried
CarriedBy false = DataOrAck

-- every call keeps it, an arrival of a kind that the links carry too; and what is due is of such a kind
pub record Keeps (limit : ℕ) (carried : Telegram → Type 0) (Kept : Channel → Type 0) : Type 0 where
  pub kinds : {k : Telegram} → carried k → Carried k
  pub sends : (c : Channel) → Kept c → (n : ℕ) → Kept (sent limit c n).channel
  pub takes : (c : Channel) → Kept c → (room : ℕ) → Kept (with_receiver c (took c.receiver room).receiver)
  pub times : (c : Channel) → Kept c → (n : ℕ) → Kept (elapsed c n).channel
  pub hands : (c : Channel) → Kept c → (m : List ℕ) → Kept (due c m).channel
  pub given : (c : Channel) → Kept c → (m : List ℕ) → is_some (due c m).payload ≡ true → carried (sorted (bytes_of (given_payload (due c m).payload))).kind
  pub arrives : (c : Channel) → Kept c → (t : Telegram) → carried t → (p : List ℕ) (room : ℕ) → Kept (arrived limit c t p room).channel

-- no test is set or out, and no A1 due
pub record Untested (c : Channel) : Type 0 where
  pub tests : NoTests c
  pub accept : c.accept ≡ false

-- ---- our A1

-- time makes none due
elapsed-accept : (c : Channel) (n : ℕ) → (elapsed c n).channel.accept ≡ c.accept
elapsed-accept c n = go (time-outcome c n)
  where
    go : {g : Passed} {x : Answered} → TimeOutcome c n g x → x.channel.accept ≡ c.accept
    go repeats-used-up = refl
    go (runs_on e w) = refl
    go (tests-used-up e w u) = refl
    go (test-again e w u) = refl

-- none is due once a frame was asked for
due-accept : (c : Channel) (m : List ℕ) → (due c m).channel.accept ≡ false
due-accept c m = go (due-outcome c m)
  where
    go : {g : Handed} {x : Due} → DueOutcome c g x → x.channel.accept ≡ false
    go (accept-goes a) = refl
    go (test-goes a t) = a
    go (ack-goes a t k) = a
    go (frame-goes t) = t.accept
    go (none-goes t) = t.accept
    go (other_length t) = t.accept

-- data and Acks make none due
arrived-accept : (limit : ℕ) (c : Channel) {t : Telegram} → DataOrAck t → (p : List ℕ) (room : ℕ) → (arrived limit c t p room).channel.accept ≡ c.accept
arrived-accept limit c is-data p room = (data-leaves limit c p room _ _ _).accept
arrived-accept limit c is-ack p room = (ack-leaves limit c p room _ _).accept

-- ---- with tests and without

-- what an open end keeps: with tests nothing in particular
abbrev pub Runs : (tests : Bool) → Channel → Type 0
Runs true c = Unit {0}
Runs false c = Untested c

-- a fresh end starts so; without tests, if its interval is 0
pub fresh-runs : (tests : Bool) {E : End} (p : Party E) → FreshEnd p → (tests ≡ false → (channel_of p).parameters.interval ≡ 0) → Runs tests (channel_of p)
fresh-runs true p f off = tt
fresh-runs false p f off =
    record {
      tests =
          record {
            off = off refl;
            none = ap (λ (t : Tests). t.out) f.tests;
            undue = ap (λ (t : Tests). t.again) f.tests;
            still = ap (λ (t : Tests). t.wait) f.tests;
          };
      accept = f.accept;
    }

data-or-ack : {k : Telegram} → DataOrAck k → Carried k
data-or-ack is-data = tt
data-or-ack is-ack = tt

pub keeps : (limit : ℕ) (tests : Bool) → Keeps limit (CarriedBy tests) (Runs tests)
unfolding sent
keeps limit true =
    record {
      kinds = λ k. k;
      sends = λ c r n. tt;
      takes = λ c r room. tt;
      times = λ c r n. tt;
      hands = λ c r m. tt;
      given = λ c r m. due-carried c m;
      arrives = λ c r t k p room. tt;
    }
keeps limit false =
    record {
      kinds = data-or-ack;
      sends = λ c r n. record { tests = sent-untested limit c n r.tests; accept = r.accept };
      takes = λ c r room. record { tests = record { off = r.tests.off; none = r.tests.none; undue = r.tests.undue; still = r.tests.still }; accept = r.accept };
      times = λ c r n. record { tests = elapsed-untested c n r.tests; accept = elapsed-accept c n ∙ r.accept };
      hands = λ c r m. record { tests = due-untested c m r.tests; accept = due-accept c m };
      given =
          λ c r. due-is DataOrAck (λ _ _ _. is-data) (λ _ _. is-ack) c (λ a. absurd (true≢false (sym a ∙ r.accept)))
          (λ t. absurd (true≢false (sym t ∙ test_due-untested c r.tests)));
      arrives = λ c r t k p room. record { tests = arrived-untested limit c t p room r.tests; accept = arrived-accept limit c k p room ∙ r.accept };
    }
