-- The control unit is a lawful end: open, its calls are those of its open end; 8 leaves it closed with its settings, and it refuses them.
use Prim.Native.Nat.{ℕ, zero-le}
use native.Mathlib.Omega.{arith}
use mathlib.Core.Bool.{true, not}
use mathlib.Core.Logic.{◌≢◌, inl}
use mathlib.Core.Path.{◌≡◌, refl}
use lib.Dec.{eqb}
use borrow.Author.Tests.{eqb-false, not-true}
use Rattle.laws.proofs.Cases.{both}
use Rattle.opening.specs.Opening.{request_id}
use Rattle.telegram.specs.Kinds.{sorted}
use Rattle.open_end.specs.OpenEnd.{with_channel}
use Rattle.unit.specs.declared.ControlUnit.{ControlUnit}
use Rattle.unit.specs.Record.{is_open, closed_of, with_open_end}
use Rattle.unit.specs.Calls.{settled, open_sent, open_taken, open_elapsed, open_due, at_end}
use Rattle.unit.proofs.Rules.{sent_by-before, taken_by-before, elapsed-before, buffered-before, arrived-closed, due_of-closed}
use Rattle.delivery.specs.Laws.{Carried, Lawful}
use Rattle.connection_delivery.proofs.Keeps.{Runs, keeps}
use Rattle.connection_delivery.proofs.Around.{Refuses, Tied, open', Around, around-lawful}
use Rattle.unit_delivery.specs.Ends.{unit_end}
use Rattle.unit_delivery.proofs.Ends.{sent-open, taken-open, elapsed-open, due-open, arrived-open, buffered-open, carried-at-end}

module _ (limit : ℕ) where
  -- a unit closed by 8 refuses each call, and a frame on any ID but 0x200
  closed-refuses : (c : ControlUnit) (id : ℕ) → id ≢ request_id → Refuses (unit_end limit) id (closed_of c)
  closed-refuses c id other =
      record {
        shut = refl;
        sends = λ n. rw (sent_by-before (closed_of c) zero-le limit n);
        takes = λ room. rw (taken_by-before (closed_of c) zero-le room);
        times = λ n. rw (elapsed-before (closed_of c) zero-le n);
        hands = λ m. rw (due_of-closed (closed_of c) m (inl refl));
        arrives = λ bytes room. rw (arrived-closed (closed_of c) (omega arith) limit id bytes room other);
        buffers = buffered-before (closed_of c) zero-le limit id;
      }

  -- an open unit is around its open end
  unit-around : (c : ControlUnit) → (unit_end limit).open' c ≡ true → Around limit Carried (Runs true) (unit_end limit) c
  unfolding open_sent open_taken open_elapsed open_due at_end settled
  unit-around c live =
      let parts = both (is_open c) (not (eqb c.settings.receive request_id)) live in
      let o = parts.0 in
      let other = eqb-false c.settings.receive request_id (not-true _ parts.1) in
      record {
        end = c.end;
        left = settled c;
        channel = refl;
        transmits = refl;
        goes_on = λ ch. open' (with_open_end c (with_channel c.end ch)) live;
        gives_up = λ e. closed-refuses c c.settings.receive other;
        sends = λ n. rw (sent-open c o limit n);
        takes = λ room. rw (taken-open c o room);
        times = λ n. rw (elapsed-open c o n);
        hands = λ m. rw (due-open c o m);
        arrives = λ bytes k room. rw (arrived-open c o other limit bytes room, carried-at-end limit c (sorted bytes).kind bytes room k);
        buffers = λ bytes k. buffered-open c o other limit bytes;
      }

  -- so it is lawful
  pub unit_lawful : Lawful limit Carried (unit_end limit) (Tied (Runs true) (unit_end limit))
  unit_lawful = around-lawful limit (keeps limit true) (unit_end limit) unit-around (λ p f. tt)
