-- On an open record each call is what its open end does.
use Prim.Native.Nat.{ℕ}
use mathlib.Core.Bool.{Bool, true, false, ◌||◌}
use mathlib.Core.List.{List}
use mathlib.Core.Path.{◌≡◌, refl}
use borrow.Author.Tests.{eq-eqb, not-true}
use Rattle.laws.proofs.Cases.{or-first, or-second}
use Rattle.telegram.specs.Kinds.{sorted}
use Rattle.telegram.specs.declared.kinds.Telegram.{Telegram}
use Rattle.profile.specs.Profile.{test_or_break, sorted_by}
use Rattle.profile.proofs.Rules.{sorted_by-tests, sorted_by-other}
use Rattle.open_end.specs.OpenEnd.{buffered_at}
use Rattle.connection.specs.declared.Connection.{Connection}
use Rattle.connection.specs.Record.{is_closed, is_requesting, is_agreeing, is_open, listens_on, hears}
use Rattle.connection.specs.Calls.{open_sent, sent_by, open_taken, taken_by, open_elapsed, elapsed, open_due, due_of, on_open, arrived, buffered}
use Rattle.open_end.specs.Answers.{marked}
use Rattle.connection_delivery.specs.Ends.{goes_by}
use Rattle.connection_delivery.proofs.Keeps.{DataOrAck, is-data, is-ack, CarriedBy}

module _ (c : Connection) (open' : is_open c ≡ true) where
  -- it is in none of the other phases
  record Phases : Type 0 where
    closed : is_closed c ≡ false
    requesting : is_requesting c ≡ false
    agreeing : is_agreeing c ≡ false

  phases : Phases
  phases =
      let none = not-true (is_closed c || is_requesting c || is_agreeing c) open' in
      let first = or-first (is_closed c || is_requesting c) (is_agreeing c) none in
      record {
        closed = or-first (is_closed c) (is_requesting c) first;
        requesting = or-second (is_closed c) (is_requesting c) first;
        agreeing = or-second (is_closed c || is_requesting c) (is_agreeing c) none;
      }

  pub sent-open : (limit n : ℕ) → sent_by limit c n ≡ open_sent limit c n
  unfolding sent_by
  sent-open limit n = rw open'

  pub taken-open : (room : ℕ) → taken_by c room ≡ open_taken c room
  unfolding taken_by
  taken-open room = rw open'

  pub elapsed-open : (n : ℕ) → elapsed c n ≡ open_elapsed c n
  unfolding elapsed
  elapsed-open n = rw (phases.closed, phases.requesting, phases.agreeing)

  pub due-open : (m : List ℕ) → due_of c m ≡ open_due c m
  unfolding due_of
  due-open m = rw (phases.closed, phases.requesting, phases.agreeing)

  -- a frame on its receive ID
  module _ (limit : ℕ) (s : List ℕ) where
    pub arrived-open : (room : ℕ) → arrived limit c c.end.receive s room ≡ marked (sorted_by c.profile s).padded (on_open limit c (sorted_by c.profile s).kind s room)
    unfolding hears listens_on arrived
    arrived-open room = rw (phases.closed, phases.requesting, phases.agreeing, eq-eqb c.end.receive c.end.receive refl)

    pub buffered-open : (b : List ℕ) → buffered limit c c.end.receive s b ≡ buffered_at limit c.end (sorted_by c.profile s).kind s b
    unfolding hears listens_on buffered
    buffered-open b = rw (phases.closed, phases.requesting, phases.agreeing, eq-eqb c.end.receive c.end.receive refl)

-- what the links carry is sorted alike in every profile
no_test : {k : Telegram} → DataOrAck k → test_or_break k ≡ false
no_test is-data = refl
no_test is-ack = refl

pub sorted-alike : (tests : Bool) (c : Connection) → goes_by tests c ≡ true → (s : List ℕ) → CarriedBy tests (sorted s).kind → sorted_by c.profile s ≡ sorted s
sorted-alike true c g s k = sorted_by-tests c.profile s g
sorted-alike false c g s k = sorted_by-other c.profile s (no_test k)
