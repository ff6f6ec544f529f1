-- Laws of taking a message, for every record and lent buffer.
use Prim.Native.Nat.{ℕ, ◌≤◌, zero-le}
use native.Mathlib.Omega.{arith}
use mathlib.Core.Bool.{false}
use mathlib.Core.Path.{◌≡◌, refl, ap}
use mathlib.Core.List.{List}
use lib.ListN.{length, take}
use denote.Ref.{Bor}
use Rattle.laws.proofs.Cases.{by-not}
use Rattle.telegram.specs.declared.cutting.Message.{Message}
use Rattle.telegram.specs.Cutting.{none}
use Rattle.receiver.specs.Receiving.{waiting, shown}
use Rattle.open_end.proofs.Take.{taken-leaves}
use Rattle.connection.specs.Record.{is_open, with_open_end}
use Rattle.connection.specs.Calls.{open_taken, taken_by, takes}
use Rattle.connection.specs.declared.Connection.{Connection}
use Rattle.open_end.specs.declared.answers.TakeStep.{TakeStep}

module _ (c : Connection) (room : ℕ) where
  -- what a take leaves: with 0 the complete message is shown, whole and with its flags, and waits no more; with any other number none is shown, and nothing changes
  pub record Leaves (t : TakeStep Connection) : Type 0 where
    pub within : t.len ≤ room
    pub shown : t.told.said.number ≡ 0 → (record { length = t.len; flags = t.flags } ≡ c.end.channel.receiver.complete) × (waiting t.left.end.channel.receiver ≡ false)
    pub refuses : (t.told.said.number ≡ 0 → ⊥) → (record { length = t.len; flags = t.flags } ≡ none) × (t.left ≡ c)

  pub take-leaves : Leaves (taken_by c room)
  unfolding taken_by open_taken
  take-leaves =
      let taken = taken-leaves c.end room in
      by-not Leaves (is_open c)
      (λ _. record { within = zero-le; shown = λ z. absurd (omega arith); refuses = λ _. (refl, refl) })
      (λ _. record {
        within = taken.within;
        shown = taken.shown;
        refuses = λ other. ((taken.refuses other).0, ap (with_open_end c) (taken.refuses other).1);
      })

-- a take answered 0 shows the receiver's message, and reports its flags
pub take-shown : (c : Connection) (b : Bor (List ℕ)) → (takes c b).told.said.number ≡ 0 → (takes c b).message ≡ shown c.end.channel.receiver b.now
take-shown c b e = ap (λ (m : Message). take m.length b.now) ((take-leaves c (length b.now)).shown e).0

pub take-flags : (c : Connection) (b : Bor (List ℕ)) → (takes c b).told.said.number ≡ 0 → (takes c b).flags ≡ c.end.channel.receiver.complete.flags
take-flags c b e = ap (λ (m : Message). m.flags) ((take-leaves c (length b.now)).shown e).0
