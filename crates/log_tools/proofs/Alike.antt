-- What the words come to, and flags.
use Prim.Native.Nat.{ℕ, ◌%◌}
use native.Mathlib.Omega.{arith}
use mathlib.Core.Path.{◌≡◌}

-- flags of four bits are a digit already
pub remainder-again : (n : ℕ) → n % 16 % 16 ≡ n % 16
remainder-again n = omega arith
