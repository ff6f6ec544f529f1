use Rattle.std.specs.Prelude.{if◌then◌else◌}
use Prim.Native.Nat.{ℕ, ◌+◌, ◌-◌, ◌*◌, ◌≤◌}
use native.Mathlib.Omega.{arith}
use mathlib.Core.Path.{◌≡◌}
use lib.Dec.{ltb}
use lib.ListN.{length}
use Rattle.laws.proofs.Cases.{by-lt}
use Rattle.telegram.proofs.Bytes.{headed-inside}
use Rattle.telegram.proofs.cutting.headed.Goals as goal

most : (at n b : ℕ) → b ≡ (if ltb at 2 then n else at - 2) → b ≤ n + at
most at n b e = rw e (by-lt (λ r. r ≤ n + at) at 2 (λ l. omega arith) (λ l. omega arith))

-- seven bytes that end in the message begin there
inside : (at n b : ℕ) → b ≡ (if ltb at 2 then n else at - 2) → b + 7 ≤ n → at ≡ b + 2
inside at n b e = rw e (by-lt (λ r. r + 7 ≤ n → at ≡ r + 2) at 2 (λ l h. absurd (omega arith)) (λ l h. omega arith))

pub overflow_add-b : goal.overflow_add-b
overflow_add-b c = let a = c.args in let h = most (7 * a.place) (length a.message.now) c.piece_start-b.result c.piece_start-b.ensures in omega (arith, h, c.before)

pub returns : goal.returns
returns c = search (headed-inside, inside)
