-- On an open unit each call is what its open end does.
use Prim.Native.Nat.{ℕ, ◌<◌}
use native.Mathlib.Omega.{arith}
use mathlib.Core.Bool.{true, false}
use mathlib.Core.List.{List}
use mathlib.Core.Logic.{◌≢◌}
use mathlib.Core.Path.{◌≡◌, refl}
use lib.Dec.{eqb}
use borrow.Author.Tests.{ltb-true, le-ltb, eq-eqb, ne_eqb}
use Rattle.opening.specs.Opening.{request_id}
use Rattle.telegram.specs.Kinds.{sorted}
use Rattle.telegram.specs.declared.kinds.Telegram.{Telegram}
use Rattle.telegram.specs.declared.kinds.Telegram.TheVariants.{Data, Ack, Test, Break, Disconnect, Setup, Accept, Malformed}
use Rattle.open_end.specs.OpenEnd.{buffered_at}
use Rattle.unit.specs.declared.ControlUnit.{ControlUnit}
use Rattle.unit.specs.Record.{is_closed, is_open}
use Rattle.unit.specs.Calls.{open_sent, sent_by, open_taken, taken_by, open_elapsed, elapsed, open_due, due_of, at_end, on_open, arrived, buffered}
use Rattle.open_end.specs.Answers.{marked}
use Rattle.unit.proofs.Open.{NotSetup, at-the-end}
use Rattle.delivery.specs.Laws.{Carried}

module _ (c : ControlUnit) (open' : is_open c ≡ true) where
  -- its phase is past all others
  past : 5 < c.phase
  past = ltb-true 5 c.phase open'

  -- so it is not closed
  not-closed : is_closed c ≡ false
  not-closed = le-ltb c.phase 3 (omega (arith, past))

  -- nor in any other phase
  not_at : (n : ℕ) → n < 6 → eqb c.phase n ≡ false
  not_at n h = ne_eqb c.phase n (omega (arith, past, h))

  -- a message is offered to its open end
  pub sent-open : (limit n : ℕ) → sent_by limit c n ≡ open_sent limit c n
  unfolding sent_by
  sent-open limit n = rw open'

  -- a message is taken from it
  pub taken-open : (room : ℕ) → taken_by c room ≡ open_taken c room
  unfolding taken_by
  taken-open room = rw open'

  -- its timers run
  pub elapsed-open : (n : ℕ) → elapsed c n ≡ open_elapsed c n
  unfolding elapsed
  elapsed-open n = rw open'

  -- what it has due
  pub due-open : (m : List ℕ) → due_of c m ≡ open_due c m
  unfolding due_of
  due-open m = rw (not_at 1 (omega arith), not_at 2 (omega arith), not_at 3 (omega arith), not_at 5 (omega arith), open')

  -- a frame on its receive ID, which is not 0x200
  module _ (other : c.settings.receive ≢ request_id) (limit : ℕ) (s : List ℕ) where
    pub arrived-open : (room : ℕ) → arrived limit c c.settings.receive s room ≡ marked (sorted s).padded (on_open limit c (sorted s).kind s room)
    unfolding arrived
    arrived-open room = rw (ne_eqb c.settings.receive request_id other, not-closed, eq-eqb c.settings.receive c.settings.receive refl, open')

    -- the lent buffer after it
    pub buffered-open : (b : List ℕ) → buffered limit c c.settings.receive s b ≡ buffered_at limit c.end (sorted s).kind s b
    unfolding buffered
    buffered-open b = rw (ne_eqb c.settings.receive request_id other, not-closed, eq-eqb c.settings.receive c.settings.receive refl, open')

-- what two ends hand over here is no A0, so the open end takes it
carried-no-setup : (t : Telegram) → Carried t → NotSetup t
carried-no-setup (Data asks last number) k = tt
carried-no-setup (Ack ready number) k = tt
carried-no-setup Test k = tt
carried-no-setup (Accept p) k = tt
carried-no-setup Break k = tt
carried-no-setup Disconnect k = tt
carried-no-setup (Setup p) k = k
carried-no-setup Malformed k = tt

pub carried-at-end : (limit : ℕ) (c : ControlUnit) (t : Telegram) (s : List ℕ) (room : ℕ) → Carried t → on_open limit c t s room ≡ at_end limit c t s room
carried-at-end limit c t s room k = at-the-end limit c t s room (carried-no-setup t k)
