-- What an open end says, and what becomes of the record that it is part of, call by call.
use Prim.Native.Nat.{ℕ}
use mathlib.Core.Bool.{Bool}
use mathlib.Core.List.{List}
use lib.ListN.{length}
use Rattle.std.specs.declared.option.Option.{Option}
use Rattle.telegram.specs.Kinds.{sorted}
use Rattle.channel.specs.declared.Channel.{Channel}
use Rattle.open_end.specs.declared.answers.Answer.TheVariants.{Channel as ByChannel}
use Rattle.open_end.specs.declared.answers.Said.{Said}
use Rattle.open_end.specs.declared.Course.{Course}
use Rattle.open_end.specs.declared.Course.TheVariants.{GoesOn, GivenUp, Leaves}
use Rattle.open_end.specs.declared.Frame.{Frame}
use Rattle.open_end.specs.declared.OpenEnd.{OpenEnd}
use Rattle.open_end.specs.Answers.{said}
use Rattle.open_end.specs.OpenEnd.{course_of, arrived_at, buffered_at, elapsed_at, due_at, sent_at, taken_at}
use Rattle.open_rows.proofs.Open.{Ways}

module _ {A : Type 0} (w : Ways A) where
  -- the way that a course goes
  abbrev pub settled_by : Course → Channel → A
  settled_by GoesOn ch = w.goes_on ch
  settled_by GivenUp ch = w.given_up
  settled_by Leaves ch = w.leaves

  -- a frame arrives, and the buffer b is lent
  abbrev pub arrives_at : (limit : ℕ) → OpenEnd → (s b : List ℕ) → Said × (Bool × A × List ℕ)
  arrives_at limit e s b =
      (let t = sorted s in
      let r = arrived_at limit e t.kind s (length b) in
      (said (ByChannel r.answer), (t.padded, settled_by (course_of r.answer) r.end.channel, buffered_at limit e t.kind s b)))

  -- time passes
  abbrev pub elapses_at : OpenEnd → ℕ → Said × A
  elapses_at e n = (let r = elapsed_at e n in (said (ByChannel r.answer), settled_by (course_of r.answer) r.end.channel))

  -- what is due
  abbrev pub hands_at : OpenEnd → (m : List ℕ) → Said × (Option Frame × A)
  hands_at e m = (let d = due_at e m in (said (ByChannel d.answer), (d.frame, w.goes_on d.end.channel)))

  -- send
  abbrev pub sends_at : (limit : ℕ) → OpenEnd → (n : ℕ) → Said × A
  sends_at limit e n = (let r = sent_at limit e n in (said (ByChannel r.answer), w.goes_on r.end.channel))

  -- take
  abbrev pub takes_at : OpenEnd → (room : ℕ) → Said × (ℕ × ℕ × A)
  takes_at e room = (let t = taken_at e room in (said (ByChannel t.answer), (t.message.length, t.message.flags, w.goes_on t.end.channel)))
