use Prim.Native.Nat.{ℕ}
use mathlib.Core.List.{List}
use mathlib.Core.Path.{◌≡◌, refl, sym}
use borrow.Author.Rules.{rules}
use lib.ListN.{drop, length}
use Rattle.telegram.specs.Cutting.{longest}
use Rattle.telegram.specs.declared.kinds.Parameters.{Parameters as Fields}
use Rattle.telegram.specs.declared.kinds.Telegram.{Telegram}
use Rattle.telegram.specs.declared.kinds.Telegram.TheVariants.{Data, Ack, Test, Break, Disconnect, Setup, Accept, Malformed}
use Rattle.arrival.proofs.Arriving.{unwritten}
use Rattle.open_end.specs.OpenEnd.{buffered_at}
use Rattle.unit.specs.declared.ControlUnit.{ControlUnit}
use Rattle.open_end.specs.declared.answers.Answered.{Answered}
use Rattle.unit.specs.Calls.{on_setup, at_end, on_open}
use Rattle.unit.proofs.ControlUnit.on_open.Goals as goal

-- every kind but an A0 the end answers
at-end-so : (c : ControlUnit) (k : Telegram) (s : List ℕ) (room : ℕ) → ((p : _) → k ≡ Setup p → ⊥) → at_end longest c k s room ≡ on_open longest c k s room
unfolding on_open
at-end-so c (Setup p) s room h = absurd (h p refl)
at-end-so c (Data asks last number) s room h = refl
at-end-so c (Ack ready number) s room h = refl
at-end-so c Test s room h = refl
at-end-so c Break s room h = refl
at-end-so c Disconnect s room h = refl
at-end-so c (Accept p) s room h = refl
at-end-so c Malformed s room h = refl

-- an A0 writes nothing
set-up : (c : ControlUnit) (k : Telegram) (p : Fields) (s b : List ℕ) (x : Answered ControlUnit) → k ≡ Setup p → x ≡ on_setup c p
    → (x ≡ on_open longest c k s (length b)) × (b ≡ buffered_at longest c.end k s b)
unfolding on_open buffered_at
set-up c k p s b x is e = rw (is, e) (refl, sym (unwritten longest c.end.channel (Setup p) (drop 1 s) b tt))

pub returns-in-Setup : goal.returns-in-Setup
returns-in-Setup c = let e = set-up c.args.self c.args.telegram c.in-Setup.fields c.args.bytes.now c.args.buffer.now c.on_setup.result c.in-Setup.is c.on_setup.ensures in record { value = e.0; buffer_after = e.1 }

pub returns-in_default : goal.returns-in_default
returns-in_default c = record { value = rw c.at_end.ensures.value (search at-end-so); buffer_after = search rules }
