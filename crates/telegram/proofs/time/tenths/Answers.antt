use Prim.Native.Nat.{ℕ, ◌*◌, ◌/◌, ◌^◌, ◌≤◌, ◌<◌}
use native.Mathlib.Nat.{mul-le-mul, pow-le-pow_right}
use native.Mathlib.Omega.{arith}
use Rattle.telegram.specs.Time.{tenths_of}
use Rattle.telegram.proofs.time.tenths.Goals as goal

-- a byte times the unit of a code, which is at most 1,000
bounded : (m code : ℕ) → m ≤ 255 → code ≤ 255 → m * 10 ^ (code / 64) < 2 ^ 32
bounded m code small byte =
    let top : code / 64 ≤ 3 = omega arith
    in let most : m * 10 ^ (code / 64) ≤ 255 * 10 ^ 3 = mul-le-mul small (pow-le-pow_right (omega arith) top) in omega arith

pub overflow_mul-result : goal.overflow_mul-result
unfolding tenths_of
overflow_mul-result c = rw c.unit.ensures (record { fits = bounded _ _ (omega arith) (omega arith) })

pub returns : goal.returns
unfolding tenths_of
returns c = rw c.unit.ensures
