-- "eight connections at once": each place can be taken, and a ninth opening is answered 13.
use Rattle.std.specs.Prelude.{Some}
use Prim.Native.Nat.{ℕ, zero, suc, ◌+◌, ◌<◌}
use native.Mathlib.Omega.{arith}
use mathlib.Core.List.{List, [], ◌∷◌, ◌++◌}
use mathlib.Core.Path.{◌≡◌, refl}
use Rattle.telegram.specs.Kinds.{bad_block}
use Rattle.telegram.specs.Time.{tenths_of}
use Rattle.profile.specs.Profile.{within}
use Rattle.settings.specs.Settings.{allowed_by}
use Rattle.settings.specs.declared.Settings.{Settings}
use Rattle.connection.specs.Calls.{opening_as}
use Rattle.table.specs.Table.{places, empty, free_of, is_used, uses_either, reserved}
use Rattle.table.specs.Calls.{opens}
use Rattle.table_runs.specs.Runs.{Call, run}
use Rattle.table_runs.specs.Runs.Call.{open'}

-- the default settings, with a unit and a receive ID of its own for each
abbrev unit_at : ℕ → Settings
unit_at n = record { receive = 0x300 + n; unit = n; block = 8; t1 = 0x8A; t3 = 0x32; t_e = 1000; mntc = 10; mntb = 5; t_wait = 1000; t_ct = 10000; mnct = 5 }

-- so many units opened, one after another
abbrev openings : ℕ → List Call
openings zero = []
openings (suc n) = openings n ++ (open' (unit_at n) ∷ [])

-- the next takes the next place
pub each : (limit p : ℕ) → p < places → (opens (run limit empty (openings p)) (unit_at p)).place ≡ Some p
unfolding opens free_of is_used uses_either reserved allowed_by within tenths_of bad_block opening_as
each limit zero h = refl
each limit (suc zero) h = refl
each limit (suc (suc zero)) h = refl
each limit (suc (suc (suc zero))) h = refl
each limit (suc (suc (suc (suc zero)))) h = refl
each limit (suc (suc (suc (suc (suc zero))))) h = refl
each limit (suc (suc (suc (suc (suc (suc zero)))))) h = refl
each limit (suc (suc (suc (suc (suc (suc (suc zero))))))) h = refl
each limit (suc (suc (suc (suc (suc (suc (suc (suc n)))))))) h = absurd (omega arith)

-- with all eight places in use
pub ninth : (limit : ℕ) → (opens (run limit empty (openings 8)) (unit_at 8)).told.said.number ≡ 13
unfolding opens free_of is_used uses_either reserved allowed_by within tenths_of bad_block opening_as
ninth limit = refl
