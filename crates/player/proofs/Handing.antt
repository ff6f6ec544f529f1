-- What is due is handed over frame by frame.
use Rattle.std.specs.Prelude.{ℕ, is_some, suc, ◌+◌, ◌-◌, ◌<◌, ◌≤◌, ◌≡◌, true, false, List, refl}
use Rattle.std.proofs.Common.{arith}
use Rattle.connection.specs.Calls.{due_of}
use Rattle.connection.specs.declared.Connection.{Connection}
use Rattle.player.specs.Player.{handed, most_due}

-- one frame more
pub frame_more : (k : ℕ) (c : Connection) (m : List ℕ) → k < most_due → is_some (due_of c m).frame ≡ true →
    handed (most_due - k) c m ≡ handed (most_due - (k + 1)) (due_of c m).left m
unfolding handed
frame_more k c m below given = let e : most_due - k ≡ suc (most_due - (k + 1)) = omega arith in rw e (rw given refl)

-- nothing is due
pub none_due : (k : ℕ) (c : Connection) (m : List ℕ) → k < most_due → is_some (due_of c m).frame ≡ false →
    handed (most_due - k) c m ≡ (due_of c m).left
unfolding handed
none_due k c m below none = let e : most_due - k ≡ suc (most_due - (k + 1)) = omega arith in rw e (rw none refl)

-- as many frames as are handed over at a time
pub all_handed : (k : ℕ) (c : Connection) (m : List ℕ) → most_due ≤ k → handed (most_due - k) c m ≡ c
unfolding handed
all_handed k c m h = let e : most_due - k ≡ 0 = omega arith in rw e refl
