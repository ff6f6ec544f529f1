-- The calls of an open end beside an arrival: each says and leaves what its rows in specs/Open.antt tell.
use Prim.Native.Nat.{ℕ, ◌+◌, ◌≤◌, ◌<◌}
use native.Mathlib.Omega.{arith}
use mathlib.Core.Bool.{false, ◌&&◌, true≢false}
use mathlib.Core.List.{List}
use mathlib.Core.Path.{◌≡◌, refl, sym, ◌∙◌}
use lib.Dec.{ltb}
use borrow.Author.Tests.{eq-eqb, ne_eqb, lt-ltb, le-ltb}
use Rattle.laws.proofs.Branches.{on, off}
use Rattle.std.specs.Result.{result_unwrap_or}
use Rattle.telegram.specs.Cutting.{none as no_message}
use Rattle.std.specs.declared.option.Option.{Option}
use Rattle.sender.specs.declared.Terms.{Terms}
use Rattle.sender.specs.declared.Sender.{Sender}
use Rattle.sender.specs.declared.Offered.{Offered}
use Rattle.sender.specs.declared.Passed.{Passed}
use Rattle.sender.specs.declared.Handed.{Handed}
use Rattle.sender.proofs.Time.{TimeCase, no-wait, runs_on, wait-used-up, sends-again, time_case}
use Rattle.sender.proofs.Frames.{frame_due-due, FrameCase, none-due, other_length as not-its-length, frame-out, frame_case}
use Rattle.sender.proofs.Offers.{OfferCase, unfinished, no_bytes, too_long, accepts, offer_case}
use Rattle.receiver.specs.declared.Took.{Took}
use Rattle.receiver.proofs.Outcomes.{TakeOutcome, none-complete, short-buffer, shows as whole-shown, take-outcome}
use Rattle.channel.specs.Opened.{with_receiver, repeats_used_up, hand_by}
use Rattle.channel.specs.declared.Channel.{Channel}
use Rattle.channel.specs.declared.Due.{Due as ChannelDue}
use Rattle.channel.specs.declared.Answered.{Answered as ChannelAnswered}
use Rattle.channel.proofs.Handing.{DataTurn, DueOutcome, accept-goes, test-goes, ack-goes, frame-goes, none-goes, other_length, due-outcome}
use Rattle.channel.proofs.Passing.{TimeOutcome, repeats-used-up, runs_on as all-run-on, tests-used-up, test-again, time-outcome, SendOutcome, message-accepted, in-sending, bad-length, send-outcome}
use Rattle.open_end.specs.declared.Frame.{Frame}
use Rattle.open_end.specs.declared.OpenEnd.{OpenEnd}
use Rattle.open_end.specs.declared.answers.Answer.TheVariants.{Channel as ByChannel}
use Rattle.open_end.specs.declared.answers.Said.{Said}
use Rattle.open_end.specs.Answers.{said}
use Rattle.open_end.specs.OpenEnd.{frame_on, course_of, elapsed_at, due_at, sent_at, take_answer, taken_at}
use Rattle.open_rows.specs.Tables.{told_by}
use Rattle.open_rows.specs.Rows.{runs_out, sending_later}
use Rattle.open_rows.proofs.Open.{Ways, time_rows, due_rows, send_rows, take_rows}
use Rattle.open_rows.proofs.Ends.{settled_by, elapses_at, hands_at, sends_at, takes_at}
use Rattle.open_rows.proofs.Same.{due-same, test-same, frame_same, out-same}
use Rattle.open_rows.proofs.Tests.{runs-out, still-runs, over-stopped}

-- ---- time passes

-- what the rows say of the sending half: when its repeats are used up, and else what time leaves of it
record Sends (t : Terms) (s : Sender) (n : ℕ) (g : Passed) : Type 0 where
  used-up : repeats_used_up g.note ≡ (runs_out s.wait n && ltb t.repeats (s.count + 1))
  goes_on : repeats_used_up g.note ≡ false → g.sender ≡ sending_later s n

sends : (t : Terms) (s : Sender) (n : ℕ) {g : Passed} → TimeCase t s n g → Sends t s n g
sends t s n (no-wait z) = let e = still-runs s.wait n (λ runs over. omega arith) in record { used-up = rw e; goes_on = λ _. rw e }
sends t s n (runs_on less) = let e = still-runs s.wait n (λ runs over. omega arith) in record { used-up = rw e; goes_on = λ _. rw e }
sends t s n (wait-used-up r most) =
    let more : t.repeats < s.count + 1 = omega arith in
    record { used-up = rw (runs-out _ _ r.runs r.over, lt-ltb _ _ more); goes_on = λ e. absurd (true≢false e) }
sends t s n (sends-again r few) =
    let most : s.count + 1 ≤ t.repeats = omega arith in
    let e = runs-out _ _ r.runs r.over in
    record { used-up = rw (e, le-ltb _ _ most); goes_on = λ _. rw (e, over-stopped s.wait n r.over) }

module _ {A : Type 0} (w : Ways A) (ch : Channel) (n : ℕ) where
  abbrev passes : ChannelAnswered → Said × A
  passes r = (said (ByChannel r.answer), settled_by w (course_of r.answer) r.channel)

  elapsed-told : {g : Passed} {x : ChannelAnswered} → Sends ch.parameters.terms ch.sender n g → TimeOutcome ch n g x → passes x ≡ told_by (time_rows w ch n)
  unfolding course_of
  elapsed-told h repeats-used-up = rw (sym h.used-up)
  elapsed-told h (all-run-on e q) =
      let on = still-runs ch.tests.wait n (λ runs over. q (record { runs = runs; over = over })) in
      rw (sym h.used-up ∙ e, on, h.goes_on e)
  elapsed-told h (tests-used-up e t most) =
      let more : ch.parameters.allowed < ch.tests.unanswered + 1 = omega arith in
      rw (sym h.used-up ∙ e, runs-out _ _ t.runs t.over, lt-ltb _ _ more)
  elapsed-told h (test-again e t few) =
      let most : ch.tests.unanswered + 1 ≤ ch.parameters.allowed = omega arith in
      rw (sym h.used-up ∙ e, runs-out _ _ t.runs t.over, le-ltb _ _ most, over-stopped ch.tests.wait n t.over, h.goes_on e)

pub open-time : {A : Type 0} (w : Ways A) (e : OpenEnd) (n : ℕ) → elapses_at w e n ≡ told_by (time_rows w e.channel n)
unfolding elapsed_at
open-time w e n = (let ch = e.channel in elapsed-told w ch n (sends _ _ n (time_case ch.parameters.terms ch.sender n)) (time-outcome ch n))

-- ---- what is due

module _ {A : Type 0} (w : Ways A) (transmit : ℕ) (ch : Channel) (m : List ℕ) where
  -- by what the channel hands over
  abbrev hands_on : ChannelDue → Said × (Option Frame × A)
  hands_on d = (said (ByChannel d.answer), (frame_on transmit d.payload, w.goes_on d.channel))

  -- where it is the data's turn
  data-given : DataTurn ch → {h : Handed} → FrameCase ch.parameters.terms ch.sender m h → hands_on (hand_by ch h h.note) ≡ told_by (due_rows w transmit ch m)
  unfolding frame_on
  data-given t (none-due e) = off _ _ _ _ t.accept (off _ _ _ _ (test-same _ ∙ t.test) (off _ _ _ _ t.ack (rw (due-same _, e))))
  data-given t (not-its-length d e) =
      off _ _ _ _ t.accept (off _ _ _ _ (test-same _ ∙ t.test) (off _ _ _ _ t.ack (rw (due-same _, frame_due-due _ d, ne_eqb _ _ e))))
  data-given t (frame-out d e) =
      off _ _ _ _ t.accept (off _ _ _ _ (test-same _ ∙ t.test) (off _ _ _ _ t.ack (rw (due-same _, frame_due-due _ d, eq-eqb _ _ e, frame_same ch m e, out-same ch))))

  -- and whosever turn it is
  given-told : {h : Handed} {x : ChannelDue} → FrameCase ch.parameters.terms ch.sender m h → DueOutcome ch h x → hands_on x ≡ told_by (due_rows w transmit ch m)
  unfolding frame_on
  given-told f (accept-goes a) = on _ _ _ _ a refl
  given-told f (test-goes a t) = off _ _ _ _ a (on _ _ _ _ (test-same _ ∙ t) refl)
  given-told f (ack-goes a t k) = off _ _ _ _ a (off _ _ _ _ (test-same _ ∙ t) (on _ _ _ _ k refl))
  given-told f (frame-goes t) = data-given t f
  given-told f (none-goes t) = data-given t f
  given-told f (other_length t) = data-given t f

pub open-due : {A : Type 0} (w : Ways A) (e : OpenEnd) (m : List ℕ) → hands_at w e m ≡ told_by (due_rows w e.transmit e.channel m)
unfolding due_at
open-due w e m = (let ch = e.channel in given-told w e.transmit ch m (frame_case ch.parameters.terms ch.sender m) (due-outcome ch m))

-- ---- send and take

module _ {A : Type 0} (w : Ways A) (limit : ℕ) (ch : Channel) (n : ℕ) where
  offered-told : {o : Offered} {x : ChannelAnswered} → OfferCase limit ch.sender n o → SendOutcome ch o x
      → ◌≡◌ {A = Said × A} (said (ByChannel x.answer), w.goes_on x.channel) (told_by (send_rows w limit ch n))
  offered-told (unfinished some) in-sending = rw (ne_eqb ch.sender.length 0 (omega arith))
  offered-told (no_bytes free none) bad-length = rw (eq-eqb _ _ free, eq-eqb _ _ none)
  offered-told (too_long free long) bad-length = rw (eq-eqb _ _ free, ne_eqb n 0 (omega arith), lt-ltb _ _ long)
  offered-told (accepts a) message-accepted = rw (eq-eqb _ _ a.free, ne_eqb n 0 (omega arith), le-ltb _ _ a.within)

pub open-send : {A : Type 0} (w : Ways A) (limit : ℕ) (e : OpenEnd) (n : ℕ) → sends_at w limit e n ≡ told_by (send_rows w limit e.channel n)
unfolding sent_at
open-send w limit e n = offered-told w limit e.channel n (offer_case limit e.channel.sender n) (send-outcome limit e.channel n)

module _ {A : Type 0} (w : Ways A) (ch : Channel) (room : ℕ) where
  taken-told : {t : Took} → TakeOutcome ch.receiver room t
      → ◌≡◌ {A = Said × (ℕ × ℕ × A)} (said (ByChannel (take_answer t.message)), ((result_unwrap_or t.message no_message).length, (result_unwrap_or t.message no_message).flags, w.goes_on (with_receiver ch t.receiver))) (told_by (take_rows w ch room))
  taken-told (none-complete none) = rw none
  taken-told (short-buffer some short) = rw (some, lt-ltb _ _ short)
  taken-told (whole-shown some fits) = rw (some, le-ltb _ _ fits)

pub open-take : {A : Type 0} (w : Ways A) (e : OpenEnd) (room : ℕ) → takes_at w e room ≡ told_by (take_rows w e.channel room)
unfolding taken_at
open-take w e room = taken-told w e.channel room (take-outcome e.channel.receiver room)
