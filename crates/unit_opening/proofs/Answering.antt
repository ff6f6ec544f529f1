-- A control unit on its way to open, or to refuse: what each frame that it answers leaves, and what it hands over.
use Prim.Native.Nat.{ℕ, ◌+◌, ◌≤◌, ◌<◌}
use native.Mathlib.Omega.{arith}
use mathlib.Core.Bool.{true, false}
use mathlib.Core.List.{List}
use mathlib.Core.Logic.{◌≢◌}
use mathlib.Core.Path.{◌≡◌, refl, ap}
use lib.Dec.{eqb}
use borrow.Author.Tests.{eq-eqb, ne_eqb, le-ltb}
use Rattle.telegram.specs.Outgoing.{bytes_of}
use Rattle.telegram.specs.Kinds.{bad_block, setup_of, accept_of}
use Rattle.telegram.specs.declared.kinds.Parameters.{Parameters as Fields}
use Rattle.telegram.proofs.RoundTrip.{setup-sorted}
use Rattle.opening.specs.Opening.{request_id, request_of, reply_of}
use Rattle.opening.proofs.RoundTrip.{request-read}
use Rattle.settings.specs.Agreed.{own_fields}
use Rattle.channel.specs.declared.Answer.TheVariants.{Good}
use Rattle.open_end.specs.OpenEnd.{unopened}
use Rattle.unit.specs.declared.ControlUnit.{ControlUnit}
use Rattle.unit.specs.Record.{phase_closed, phase_refusing, phase_replying, phase_replied, phase_open, closed_of, asked_by, accepting, at_phase}
use Rattle.unit.specs.Calls.{ends, on_request, on_setup, on_opening, arrived, due_of}
use Rattle.open_end.specs.Answers.{gives, marked, hand_over, hand_nothing}

module _ (u : ControlUnit) (asker : ℕ) where
  -- asked by an end that receives on this ID, at one of the phases before the A0
  abbrev pub asked_at : (phase : ℕ) → ControlUnit
  asked_at n = record { phase = n; reply = u.reply; settings = u.settings; end = unopened asker u.settings.receive }

  -- asked, it has its reply due
  pub asked-positive : eqb u.reply 0xD0 ≡ true → asked_by u asker ≡ asked_at phase_replying
  asked-positive e = rw e

  pub asked-negative : eqb u.reply 0xD0 ≡ false → asked_by u asker ≡ asked_at phase_refusing
  asked-negative e = rw e

  -- a closed unit is asked
  pub c0-arrives : (limit room : ℕ) {unit : ℕ} → u.phase ≡ phase_closed → unit ≡ u.settings.unit → asker < 2048
      → arrived limit u request_id (bytes_of (request_of unit asker)) room ≡ marked false (gives Good (asked_by u asker))
  unfolding arrived on_request ends
  c0-arrives limit room {unit} closed one h = rw (request-read unit asker h, eq-eqb unit u.settings.unit one, closed)

  -- the replies are handed over
  pub hands-refusal : (m : List ℕ) → due_of (asked_at phase_refusing) m
      ≡ hand_over (record { id = request_id + u.settings.unit; payload = reply_of u.reply asker u.settings.receive }) (closed_of u)
  unfolding due_of
  hands-refusal m = refl

  pub hands-d0 : (m : List ℕ) → due_of (asked_at phase_replying) m
      ≡ hand_over (record { id = request_id + u.settings.unit; payload = reply_of 0xD0 asker u.settings.receive }) (asked_at phase_replied)
  unfolding due_of
  hands-d0 m = refl

  -- the D0 out, nothing is due, and the A0 is awaited
  pub hands_none : (m : List ℕ) → due_of (asked_at phase_replied) m ≡ hand_nothing (asked_at phase_replied)
  unfolding due_of
  hands_none m = refl

  module _ (f : Fields) where
    pub a0-arrives : (limit room : ℕ) → u.settings.receive ≢ request_id → 1 ≤ f.block → f.block ≤ 15
        → arrived limit (asked_at phase_replied) u.settings.receive (bytes_of (setup_of f)) room
        ≡ marked false (gives Good (accepting (asked_at phase_replied) f))
    unfolding arrived on_opening on_setup ends bad_block
    a0-arrives limit room other least most =
        rw (ne_eqb u.settings.receive request_id other, eq-eqb u.settings.receive u.settings.receive refl, ap (λ x. x.padded) (setup-sorted f), ap (λ x. x.kind) (setup-sorted f), ne_eqb f.block 0 (omega (arith, least)), le-ltb 15 f.block most)

    -- the A1 opens it
    pub hands-a1 : (m : List ℕ) → due_of (accepting (asked_at phase_replied) f) m
        ≡ hand_over (record { id = asker; payload = accept_of (own_fields u.settings) }) (at_phase (accepting (asked_at phase_replied) f) phase_open)
    unfolding due_of
    hands-a1 m = refl
