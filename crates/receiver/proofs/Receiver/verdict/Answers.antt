use Prim.Native.Nat.{ℕ}
use mathlib.Core.Bool.{Bool}
use mathlib.Core.List.{List}
use mathlib.Core.Path.{◌≡◌}
use Rattle.laws.proofs.Branches.{branches}
use Rattle.receiver.specs.Inside.{in_order, brought_by}
use Rattle.receiver.specs.declared.Brought.{Brought}
use Rattle.receiver.specs.declared.Receiver.{Receiver}
use Rattle.receiver.specs.declared.Receipt.{Receipt}
use Rattle.receiver.proofs.Verdict.{order-notes}
use Rattle.receiver.proofs.Receiver.verdict.Goals as goal

-- the side that an equation leads to
abbrev target : {A : Type 0} {x y : A} → x ≡ y → A
target {y = y} e = y

-- a frame that is in order is judged by what it brings
by_order : (limit : ℕ) (r : Receiver) (asks last : Bool) (p : List ℕ) (room : ℕ) (b : Brought) (e : b ≡ brought_by r p) (v : Receipt)
    → v ≡ target (order-notes limit r asks last p room b e) → v ≡ (in_order limit r asks last p room).note
by_order limit r asks last p room b e v h = rw (order-notes limit r asks last p room b e) h

pub returns-then-first-size : goal.returns-then-first-size
returns-then-first-size c = search (by_order, branches)

pub returns-then-first-length : goal.returns-then-first-length
returns-then-first-length c = search (by_order, branches)

pub returns-then-first-room : goal.returns-then-first-room
returns-then-first-room c = search (by_order, branches)

pub returns : goal.returns
returns c = search (by_order, branches)
