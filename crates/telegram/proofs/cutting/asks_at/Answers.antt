use Prim.Native.Nat.{ℕ, ◌%◌, ◌<◌, max}
use native.Mathlib.Nat.{mod-zero}
use native.Mathlib.Omega.{arith}
use mathlib.Core.Bool.{Bool, true, false, not, ◌&&◌, ◌||◌, or-true, or-false}
use mathlib.Core.Path.{◌≡◌, sym}
use lib.Dec.{eqb}
use borrow.Author.Tests.{eqb-true, eqb-false, ne_eqb}
use Rattle.laws.proofs.Cases.{either}
use Rattle.telegram.specs.Cutting.{frames_of}
use Rattle.telegram.proofs.cutting.asks_at.Goals as goal

turned : (s t : Bool) → (s || t) ≡ (t || s)
turned true t = sym (or-true t)
turned false t = sym (or-false t)

-- a place is never a multiple of 0
full_at : (block next : ℕ) → 0 < next → (not (eqb block 0) && eqb (next % max block 1) 0) ≡ eqb (next % block) 0
full_at block next some =
    either (eqb block 0)
    (λ z. let none : block ≡ 0 = eqb-true block 0 z in rw (none, mod-zero, ne_eqb next 0 (omega arith)))
    (λ n. let some_block = eqb-false block 0 n in let same : max block 1 ≡ block = omega arith in rw (n, same))

asks : (block next len f d : ℕ) → 0 < next → f ≡ frames_of len → d ≡ max block 1
    → (eqb next f || (not (eqb block 0) && eqb (next % d) 0)) ≡ (eqb (next % block) 0 || eqb next (frames_of len))
asks block next len f d some ef ed = rw (ef, ed, full_at block next some) (turned (eqb next (frames_of len)) (eqb (next % block) 0))

pub returns : goal.returns
returns c = asks _ _ _ _ _ (omega arith) c.frames.ensures c.divisor.ensures
