-- Laws of taking a message, for every end and lent buffer.
use Prim.Native.Nat.{ℕ, ◌≤◌, zero-le}
use native.Mathlib.Omega.{arith}
use mathlib.Core.Bool.{false}
use mathlib.Core.Path.{◌≡◌, refl}
use Rattle.std.specs.Result.{result_unwrap_or}
use Rattle.telegram.specs.Cutting.{none}
use Rattle.receiver.specs.Receiving.{waiting}
use Rattle.receiver.specs.declared.Receiver.{Receiver}
use Rattle.receiver.specs.declared.Took.{Took}
use Rattle.receiver.proofs.Outcomes.{TakeOutcome, none-complete, short-buffer, shows, take-outcome}
use Rattle.channel.specs.declared.Answer.{Answer}
use Rattle.channel.specs.declared.Answer.TheVariants.{Busy, ShortBuffer}
use Rattle.channel.specs.Numbers.{said}
use Rattle.channel.specs.Opened.{with_receiver}
use Rattle.open_end.specs.declared.OpenEnd.{OpenEnd}
use Rattle.open_end.specs.declared.TakeStep.{TakeStep}
use Rattle.open_end.specs.OpenEnd.{with_channel, take_answer, taken_at}

module _ (e : OpenEnd) (room : ℕ) where
  abbrev r : Receiver
  r = e.channel.receiver

  -- what a take leaves: with 0 the complete message is shown, whole and with its flags, and waits no more; with any other number none is shown, and nothing changes
  pub record Leaves (t : TakeStep) : Type 0 where
    pub within : t.message.length ≤ room
    pub shown : (said t.answer).number ≡ 0 → (t.message ≡ r.complete) × (waiting t.end.channel.receiver ≡ false)
    pub refuses : ((said t.answer).number ≡ 0 → ⊥) → (t.message ≡ none) × (t.end ≡ e)

  refused : (a : Answer) → ((said a).number ≡ 0 → ⊥) → Leaves (record { answer = a; message = none; end = e })
  refused a other = record { within = zero-le; shown = λ z. absurd (other z); refuses = λ _. (refl, refl) }

  pub taken-leaves : Leaves (taken_at e room)
  unfolding taken_at
  taken-leaves = go (take-outcome r room)
    where
      go : {t : Took} → TakeOutcome r room t
          → Leaves (record { answer = take_answer t.message; message = result_unwrap_or t.message none; end = with_channel e (with_receiver e.channel t.receiver) })
      go (none-complete w) = refused Busy (λ z. omega arith)
      go (short-buffer w short) = refused ShortBuffer (λ z. omega arith)
      go (shows w fits) = record { within = fits; shown = λ _. (refl, refl); refuses = λ other. absurd (other refl) }
