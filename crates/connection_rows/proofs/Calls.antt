-- The calls beside an arrival: each says and leaves what its table tells.
use Prim.Native.Nat.{ℕ}
use native.Mathlib.Omega.{arith}
use mathlib.Core.Bool.{true, false, ◌||◌}
use mathlib.Core.List.{List}
use mathlib.Core.Path.{◌≡◌, refl}
use borrow.Author.Tests.{lt-ltb, le-ltb, not-true, not-false}
use Rattle.laws.proofs.Cases.{by, by-not, by-lt, by_le, by-eq, Makes}
use Rattle.std.specs.declared.option.Option.{Option}
use Rattle.profile.specs.Opening.{request_for}
use Rattle.profile.specs.declared.Profile.{Profile}
use Rattle.settings.specs.Settings.{allowed_by}
use Rattle.settings.specs.declared.Settings.{Settings}
use Rattle.open_end.specs.declared.Frame.{Frame}
use Rattle.open_end.specs.declared.answers.Said.{Said}
use Rattle.open_end.specs.OpenEnd.{elapsed_at, due_at, sent_at, taken_at}
use Rattle.connection.specs.declared.Connection.{Connection}
use Rattle.open_end.specs.declared.answers.Answered.{Answered}
use Rattle.open_end.specs.declared.answers.Due.{Due}
use Rattle.open_end.specs.declared.answers.TakeStep.{TakeStep}
use Rattle.connection.specs.Calls.{opening_as, attempt_elapsed, open_elapsed, elapsed, closed_due, request_due, open_due, due_of, open_sent, sent_by, open_taken, taken_by, closed}
use Rattle.open_rows.specs.Tables.{told_by}
use Rattle.open_rows.proofs.Same.{range_same}
use Rattle.open_rows.proofs.Tests.{runs-out, still-runs, stopped, over-stopped, other-phase}
use Rattle.open_rows.proofs.Calls.{open-time, open-due, open-send, open-take}
use Rattle.connection_rows.specs.Records.{is_closed, is_requesting, is_agreeing, is_open}
use Rattle.connection_rows.specs.Rows.{open_table, open_as_says, time_table, time_says, due_table, due_says, send_table, send_says, take_table, take_says, close_table, close_says}
use Rattle.connection_rows.proofs.Ways.{ways_of, settled-by}

-- what a call says and leaves
abbrev tells : Answered Connection → Said × Connection
tells r = (r.told.said, r.left)

-- ---- open

pub open_told : (c : Connection) (p : Profile) (s : Settings) → open_as_says c p s ≡ told_by (open_table c p s)
unfolding opening_as
open_told c p s =
    by-not (Makes tells _) (is_closed c) (λ e. rw e) (λ e. rw (e, range_same p s)
    (by-not (Makes tells _) (allowed_by p s) (λ e. rw e) (λ e. rw e)))

-- ---- time passes

module _ (c : Connection) (n : ℕ) where
  module _ (live : is_closed c ≡ false) where
    -- while a reply is awaited
    attempt-told : (is_requesting c || is_agreeing c) ≡ true → tells (attempt_elapsed c n) ≡ told_by (time_table c n)
    unfolding attempt_elapsed
    attempt-told awaits =
        let wait = c.attempt.wait in
        rw (live, awaits)
        (by-eq (Makes tells _) wait 0 (λ z. rw (still-runs wait n (λ runs over. omega arith), stopped wait n z)) λ some.
        by-lt (Makes tells _) n wait (λ less. rw (still-runs wait n (λ runs over. omega arith))) λ over.
        by_le (Makes tells _) c.settings.mntc c.attempt.repeats
        (λ most. rw (runs-out wait n (omega arith) over, le-ltb _ _ most))
        (λ few. rw (runs-out wait n (omega arith) over, lt-ltb _ _ few, over-stopped wait n over)))

    -- on an open connection
    elapsed-told : (is_requesting c || is_agreeing c) ≡ false → tells (open_elapsed c n) ≡ told_by (time_table c n)
    unfolding open_elapsed elapsed_at
    elapsed-told none = rw (live, none, settled-by c) (open-time (ways_of c) c.end n)

  pub time-told : time_says c n ≡ told_by (time_table c n)
  unfolding elapsed
  time-told =
      by (Makes tells _) (is_closed c) (λ e. rw (e, other-phase c.phase 0 1 e refl, other-phase c.phase 0 2 e refl)) λ e.
      by-not (Makes tells _) (is_open c)
      (λ o. attempt-told e (rw e at (not-false (is_closed c || is_requesting c || is_agreeing c) o)))
      (λ o. elapsed-told e (rw e at (not-true (is_closed c || is_requesting c || is_agreeing c) o)))

-- ---- what is due

module _ (c : Connection) (m : List ℕ) where
  abbrev hands-over : Due Connection → Said × (Option Frame × Connection)
  hands-over d = (d.told.said, (d.frame, d.left))

  pub due-told : due_says c m ≡ told_by (due_table c m)
  unfolding due_of request_for closed_due request_due open_due due_at
  due-told =
      by (Makes hands-over _) (is_closed c)
      (λ e. rw (e, other-phase c.phase 0 1 e refl, other-phase c.phase 0 2 e refl) (by-not (Makes hands-over _) c.leaving (λ l. rw l) (λ l. rw l))) λ e.
      by (Makes hands-over _) (is_requesting c)
      (λ r. rw (e, r, other-phase c.phase 1 2 r refl) (by-not (Makes hands-over _) c.attempt.due (λ d. rw d) (λ d. rw d))) λ r.
      by (Makes hands-over _) (is_agreeing c)
      (λ a. rw (e, r, a) (by-not (Makes hands-over _) c.attempt.due (λ d. rw d) (λ d. rw d))) λ a.
      rw (e, r, a) (open-due (ways_of c) c.end m)

-- ---- send, take and close

pub send-told : (limit : ℕ) (c : Connection) (n : ℕ) → send_says limit c n ≡ told_by (send_table limit c n)
unfolding sent_by open_sent sent_at
send-told limit c n = by-not (Makes tells _) (is_open c) (λ e. rw e) (λ e. rw e (open-send (ways_of c) limit c.end n))

module _ (c : Connection) (room : ℕ) where
  abbrev looks : TakeStep Connection → Said × (ℕ × ℕ × Connection)
  looks r = (r.told.said, (r.len, r.flags, r.left))

  pub take-told : take_says c room ≡ told_by (take_table c room)
  unfolding taken_by open_taken taken_at
  take-told = by-not (Makes looks _) (is_open c) (λ e. rw e) (λ e. rw e (open-take (ways_of c) c.end room))

pub close-told : (c : Connection) → close_says c ≡ told_by (close_table c)
unfolding closed
close-told c =
    by (Makes tells _) (is_closed c) (λ e. rw e) (λ e. rw e
    (by (Makes tells _) (is_requesting c) (λ e. rw e) (λ e. rw e)))
