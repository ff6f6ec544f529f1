-- An active end that is not open, on its way to open: send and take change nothing, T_E runs, and the reply ends its wait.
use Prim.Native.Nat.{ℕ, ◌+◌, ◌-◌, ◌<◌}
use native.Mathlib.Omega.{arith}
use mathlib.Core.Bool.{true, false}
use mathlib.Core.List.{List}
use mathlib.Core.Path.{◌≡◌, refl}
use borrow.Author.Tests.{eq-eqb, ne_eqb, lt-ltb}
use Rattle.laws.proofs.Cases.{by-not}
use Rattle.telegram.specs.Outgoing.{bytes_of}
use Rattle.telegram.specs.Cutting.{none}
use Rattle.opening.specs.Opening.{request_id, refusal, reply_of}
use Rattle.profile.proofs.Opening.{tp20-refused}
use Rattle.settings.specs.Settings.{allowed}
use Rattle.settings.specs.declared.Settings.{Settings}
use Rattle.channel.specs.declared.Answer.TheVariants.{Good, NotDue}
use Rattle.open_end.specs.declared.answers.Answer.TheVariants.{Refused}
use Rattle.open_end.specs.Answers.{told, gives, marked, shows, hand_nothing}
use Rattle.connection.specs.declared.Connection.{Connection}
use Rattle.open_end.specs.declared.answers.Answered.{Answered}
use Rattle.connection.specs.Record.{is_closed, is_open, closed_record, requesting, agreeing, listens_on, hears}
use Rattle.connection.specs.Calls.{opening_as, opening, on_reply, arrived, attempt_elapsed, elapsed, request_due, due_of, sent_by, taken_by}
use Rattle.connection_delivery.proofs.Opened.{awaiting}

-- an open answered 0: the settings are allowed, and the C0 is due
pub opening-good : (c : Connection) (s : Settings) → (opening c s).told.said.number ≡ 0 → (allowed s ≡ true) × (opening c s ≡ gives Good (requesting s))
unfolding opening_as
opening-good c s =
    by-not Opens (is_closed c) (λ n e. absurd (omega (arith, e)))
    (λ n. by-not Opens (allowed s) (λ a e. absurd (omega (arith, e))) (λ a e. (a, refl)))
  where
    Opens : Answered Connection → Type 0
    Opens r = r.told.said.number ≡ 0 → (allowed s ≡ true) × (r ≡ gives Good (requesting s))

module _ (c : Connection) (shut : is_open c ≡ false) where
  pub sent-shut : (limit n : ℕ) → sent_by limit c n ≡ gives NotDue c
  unfolding sent_by
  sent-shut limit n = rw shut

  pub taken-shut : (room : ℕ) → taken_by c room ≡ shows NotDue none c
  unfolding taken_by
  taken-shut room = rw shut

-- a record whose C0 or A0 is due
pub data Asks : Connection → Type 0 where
  for-d0 : (s : Settings) → Asks (requesting s)
  for-a1 : (s : Settings) (transmit : ℕ) → Asks (agreeing (requesting s) transmit)

-- no wait runs before its hand-over
pub asks-elapsed : {c : Connection} → Asks c → (n : ℕ) → elapsed c n ≡ gives Good c
unfolding elapsed attempt_elapsed
asks-elapsed (for-d0 s) n = refl
asks-elapsed (for-a1 s transmit) n = refl

-- after it nothing is due, and T_E runs
pub awaiting-due : {c : Connection} → Asks c → (left : ℕ) (m : List ℕ) → due_of (awaiting c left) m ≡ hand_nothing (awaiting c left)
unfolding due_of request_due
awaiting-due (for-d0 s) left m = refl
awaiting-due (for-a1 s transmit) left m = refl

pub awaiting-elapsed : {c : Connection} → Asks c → (left n : ℕ) → n < left → elapsed (awaiting c left) n ≡ gives Good (awaiting c (left - n))
unfolding elapsed attempt_elapsed
awaiting-elapsed (for-d0 s) left n h = rw (ne_eqb left 0 (omega (arith, h)), lt-ltb n left h)
awaiting-elapsed (for-a1 s transmit) left n h = rw (ne_eqb left 0 (omega (arith, h)), lt-ltb n left h)

-- a refusal arrives while the D0 is awaited
pub refusal-arrives : (limit : ℕ) (s : Settings) (left opcode receive transmit room : ℕ) → refusal opcode ≡ true
    → arrived limit (awaiting (requesting s) left) (request_id + s.unit) (bytes_of (reply_of opcode receive transmit)) room
    ≡ marked false (record { told = told (Refused opcode); left = closed_record })
unfolding hears listens_on arrived on_reply
refusal-arrives limit s left opcode receive transmit room r = rw (eq-eqb (request_id + s.unit) _ refl, tp20-refused opcode receive transmit s.receive r)
