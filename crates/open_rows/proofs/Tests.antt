-- Tests of the definitions and of the rows that say the same.
use Prim.Native.Nat.{ℕ, ◌-◌, ◌<◌, ◌≤◌}
use native.Mathlib.Omega.{arith}
use mathlib.Core.Bool.{Bool, true, false, not, ◌&&◌, ◌||◌}
use mathlib.Core.Path.{◌≡◌}
use lib.Dec.{ltb, leb, eqb}
use borrow.Author.Tests.{ltb-true, leb-true, eqb-true, lt-ltb, le-ltb, le-leb, lt-leb}
use Rattle.laws.proofs.Cases.{either, both}
use Rattle.receiver.proofs.Outcomes.{EndsThere}
use Rattle.open_rows.specs.Rows.{runs_out}

-- a timer that runs and is over within n tenths runs out
pub runs-out : (timer n : ℕ) → 0 < timer → timer ≤ n → runs_out timer n ≡ true
runs-out timer n runs over = rw (lt-ltb 0 timer runs, le-leb timer n over)

-- and no other
pub still-runs : (timer n : ℕ) → (0 < timer → timer ≤ n → ⊥) → runs_out timer n ≡ false
still-runs timer n h =
    either (runs_out timer n) (λ e. let r = both (ltb 0 timer) (leb timer n) e in absurd (h (ltb-true 0 timer r.0) (leb-true timer n r.1))) (λ e. e)

-- a timer at 0 stays there
pub stopped : (timer n : ℕ) → timer ≡ 0 → timer - n ≡ timer
stopped timer n z = omega arith

-- a timer that ran out too
pub over-stopped : (timer n : ℕ) → timer ≤ n → timer - n ≡ 0
over-stopped timer n h = omega arith

-- bytes that reach a declared length just where EOM stands break no message
pub unbroken : (last : Bool) (fill n : ℕ) → EndsThere last fill n → (ltb n fill || not last && leb n fill || last && ltb fill n) ≡ false
unbroken true fill n e = rw (le-ltb n fill (omega arith), le-ltb fill n (omega arith))
unbroken false fill n e = rw (le-ltb n fill (omega arith), lt-leb n fill e)

-- two length bytes behind the first byte
pub behind : (n : ℕ) → n - 1 - 2 ≡ n - 3
behind n = omega arith

-- a phase is no other
pub other-phase : (p n m : ℕ) → eqb p n ≡ true → eqb n m ≡ false → eqb p m ≡ false
other-phase p n m e h = rw (eqb-true p n e) h
