-- Parts of lists, lent and put back.
use Prim.Native.Nat.{ℕ, ◌+◌, ◌-◌, ◌≤◌}
use native.Mathlib.Omega.{arith}
use mathlib.Core.Path.{◌≡◌}
use mathlib.Core.List.{List, ◌++◌, append-nil}
use lib.ListN.{length, take, drop, length-drop, drop_of_length-le}
use lib.Seq.{take_all, take-length, drop-drop}

-- the part from a place on, lent to a copy of p and put back
pub copy-part : (b p : List ℕ) (at : ℕ)
    → take at b ++ ((take (length p) p ++ drop (length p) (take (length b - at) (drop at b))) ++ drop (length b - at) (drop at b))
    ≡ take at b ++ (p ++ drop (at + length p) b)
copy-part b p at =
    let whole : length (drop at b) ≤ length b - at = simp length-drop (omega arith) in
    rw (take_all (length b - at) (drop at b) whole, drop_of_length-le (drop at b) whole, take-length, append-nil, drop-drop)
