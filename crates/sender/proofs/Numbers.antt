-- Frame numbers count modulo 16 and are told apart while they lie less than 16 apart.
-- Frame k of the message in sending is frame S + k of all that the channel sent, so its number is (S + k) % 16.
use Prim.Native.Nat.{ℕ, ◌+◌, ◌-◌, ◌%◌, ◌≤◌, ◌<◌}
use native.Mathlib.Nat.{add_assoc, mod-mod, mod-add-mod}
use native.Mathlib.Omega.{arith}
use mathlib.Core.Path.{◌≡◌}
use Rattle.sender.specs.declared.Sender.{Sender}
use Rattle.sender.specs.Sending.{distance, first_number}

-- the number of the oldest unacknowledged frame itself is no distance ahead
pub distance-oldest : (s : Sender) → distance s s.oldest ≡ 0
unfolding distance
distance-oldest s = omega arith

module _ (s : Sender) (S : ℕ) (oldest : s.oldest ≡ (S + s.acked) % 16) where
  -- the distance of a number is how far its frame truly lies ahead
  pub distance-true : (number x : ℕ) → number ≡ (S + x) % 16 → s.acked ≤ x → x < s.acked + 16 → distance s number ≡ x - s.acked
  unfolding distance
  distance-true number x n h k = rw (n, oldest, mod-mod (S + x) 16, mod-mod (S + s.acked) 16) (omega arith)

  -- and leads from the acknowledged frames to that frame
  pub distance-reaches : (number x : ℕ) → number ≡ (S + x) % 16 → s.acked ≤ x → x < s.acked + 16 → s.acked + distance s number ≡ x
  distance-reaches number x n h k = let e = distance-true number x n h k in omega arith

  -- the number of the frame that is x frames ahead of the oldest unacknowledged one
  pub oldest-ahead : (x : ℕ) → (s.oldest + x) % 16 ≡ (S + (s.acked + x)) % 16
  oldest-ahead x = rw (oldest, mod-add-mod, add_assoc)

  -- the number of the message's first frame
  pub first_number-true : first_number s ≡ S % 16
  unfolding first_number
  first_number-true = rw (oldest, mod-mod) (omega arith)

  -- the frame with k others before it has the number (S + k) % 16
  pub number-true : (k : ℕ) → (first_number s + k) % 16 ≡ (S + k) % 16
  number-true k = rw (first_number-true, mod-add-mod)
