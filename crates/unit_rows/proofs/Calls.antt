-- The calls beside an arrival: each says and leaves what its table tells.
use Prim.Native.Nat.{ℕ}
use mathlib.Core.Bool.{Bool, true, false, not, ◌&&◌, ◌||◌}
use mathlib.Core.List.{List}
use mathlib.Core.Path.{◌≡◌, refl}
use lib.Dec.{eqb}
use Rattle.laws.proofs.Cases.{by, by-not, Makes}
use Rattle.std.specs.declared.option.Option.{Option}
use Rattle.settings.specs.Settings.{allowed}
use Rattle.settings.specs.declared.Settings.{Settings}
use Rattle.open_end.specs.declared.Frame.{Frame}
use Rattle.open_end.specs.declared.answers.Said.{Said}
use Rattle.open_end.specs.OpenEnd.{elapsed_at, due_at, sent_at, taken_at}
use Rattle.unit.specs.declared.ControlUnit.{ControlUnit}
use Rattle.open_end.specs.declared.answers.Answered.{Answered}
use Rattle.open_end.specs.declared.answers.Due.{Due}
use Rattle.open_end.specs.declared.answers.TakeStep.{TakeStep}
use Rattle.unit.specs.Record.{settable, is_reply as replies}
use Rattle.unit.specs.Calls.{set_to, open_elapsed, elapsed, open_due, due_of, open_sent, sent_by, open_taken, taken_by, closed}
use Rattle.open_rows.specs.Tables.{told_by}
use Rattle.open_rows.specs.Records.{tp20_numbers}
use Rattle.open_rows.specs.Rows.{in_range_of}
use Rattle.open_rows.proofs.Words.{refusal-byte}
use Rattle.open_rows.proofs.Same.{range_same}
use Rattle.open_rows.proofs.Calls.{open-time, open-due, open-send, open-take}
use Rattle.unit_rows.specs.Records.{is_closed, is_leaving, is_refusing, is_replying, is_accepting, is_open}
use Rattle.unit_rows.specs.Rows.{is_reply, set_table, set_says, time_table, time_says, due_table, due_says, send_table, send_says, take_table, take_says, close_table, close_says}
use Rattle.unit_rows.proofs.Ways.{ways_of, settled-by}

-- what a call says and leaves
abbrev tells : Answered ControlUnit → Said × ControlUnit
tells r = (r.told.said, r.left)

-- ---- set

-- none of three refuses
none-refuses : (p q r : Bool) → (not p || q || not r) ≡ not (p && not q && r)
none-refuses true true true = refl
none-refuses true true false = refl
none-refuses true false r = refl
none-refuses false q r = refl

-- row 10 asks what may be set
set_same : (s : Settings) (reply : ℕ) → (not (in_range_of tp20_numbers s) || eqb s.receive 0x200 || not (is_reply reply)) ≡ not (settable s reply)
unfolding settable
set_same s reply = rw (range_same tp20_numbers s, refusal-byte reply) (none-refuses (allowed s) (eqb s.receive 0x200) (replies reply))

pub set_told : (c : ControlUnit) (s : Settings) (reply : ℕ) → set_says c s reply ≡ told_by (set_table c s reply)
unfolding set_to
set_told c s reply =
    by-not (Makes tells _) (is_closed c) (λ e. rw e) (λ e. rw (e, set_same s reply)
    (by-not (Makes tells _) (settable s reply) (λ e. rw e) (λ e. rw e)))

-- ---- time passes

pub time-told : (c : ControlUnit) (n : ℕ) → time_says c n ≡ told_by (time_table c n)
unfolding elapsed open_elapsed elapsed_at
time-told c n = by-not (Makes tells _) (is_open c) (λ e. rw e) (λ e. rw (e, settled-by c) (open-time (ways_of c) c.end n))

-- ---- what is due

module _ (c : ControlUnit) (m : List ℕ) where
  abbrev hands-over : Due ControlUnit → Said × (Option Frame × ControlUnit)
  hands-over d = (d.told.said, (d.frame, d.left))

  pub due-told : due_says c m ≡ told_by (due_table c m)
  unfolding due_of open_due due_at
  due-told =
      by (Makes hands-over _) (is_leaving c) (λ l. rw l) λ l.
      by (Makes hands-over _) (is_refusing c) (λ r. rw (l, r)) λ r.
      by (Makes hands-over _) (is_replying c) (λ d. rw (l, r, d)) λ d.
      by (Makes hands-over _) (is_accepting c) (λ a. rw (l, r, d, a)) λ a.
      by-not (Makes hands-over _) (is_open c) (λ o. rw (l, r, d, a, o)) λ o.
      rw (l, r, d, a, o) (open-due (ways_of c) c.end m)

-- ---- send, take and close

pub send-told : (limit : ℕ) (c : ControlUnit) (n : ℕ) → send_says limit c n ≡ told_by (send_table limit c n)
unfolding sent_by open_sent sent_at
send-told limit c n = by-not (Makes tells _) (is_open c) (λ e. rw e) (λ e. rw e (open-send (ways_of c) limit c.end n))

module _ (c : ControlUnit) (room : ℕ) where
  abbrev looks : TakeStep ControlUnit → Said × (ℕ × ℕ × ControlUnit)
  looks r = (r.told.said, (r.len, r.flags, r.left))

  pub take-told : take_says c room ≡ told_by (take_table c room)
  unfolding taken_by open_taken taken_at
  take-told = by-not (Makes looks _) (is_open c) (λ e. rw e) (λ e. rw e (open-take (ways_of c) c.end room))

pub close-told : (c : ControlUnit) → close_says c ≡ told_by (close_table c)
unfolding closed
close-told c = by (Makes tells _) (is_closed c) (λ e. rw e) (λ e. rw e)
