-- Numbers that are shown modulo 16.
use Prim.Native.Nat.{ℕ, ◌+◌, ◌%◌, ◌≤◌}
use native.Mathlib.Nat.{mod-add-mod}
use native.Mathlib.Omega.{arith}
use mathlib.Core.Path.{◌≡◌}

-- two that show the same and are at most 15 apart are the same
pub same-shown : (i j : ℕ) → i % 16 ≡ j % 16 → i ≤ j + 15 → j ≤ i + 15 → i ≡ j
same-shown i j e h k = omega arith

-- going on from one that is shown
pub on-shown : (o i d : ℕ) → o ≡ i % 16 → (o + d) % 16 ≡ (i + d) % 16
on-shown o i d e = rw e (mod-add-mod i 16 d)
