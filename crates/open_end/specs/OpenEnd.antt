-- 01, "Telegrams on an open connection": what an end does once it is open, by its telegrams and on its two CAN IDs.
use Rattle.std.specs.Prelude.{ℕ, List, [], Option, None, Some, drop, eqb, if◌then◌else◌}
use Rattle.std.specs.Option.{unwrap_or}
use Rattle.std.specs.Result.{result_unwrap_or}
use Rattle.telegram.specs.Outgoing.{payload_of}
use Rattle.telegram.specs.Cutting.{none}
use Rattle.telegram.specs.declared.kinds.Telegram.{Telegram}
use Rattle.telegram.specs.declared.payload.Payload.{Payload}
use Rattle.receiver.specs.Receiving.{took, Taking, Shown, NoneComplete, ShortBuffer as ShortRoom}
use Rattle.channel.specs.declared.Parameters.{Parameters}
use Rattle.channel.specs.declared.Channel.{Channel}
use Rattle.channel.specs.declared.Answer.{Answer}
use Rattle.channel.specs.declared.Answer.TheVariants.{Good, Busy, ShortBuffer}
use Rattle.channel.specs.Numbers.{said}
use Rattle.channel.specs.Opened.{with_receiver, fresh, elapsed, due, sent}
use Rattle.arrival.specs.Arrived.{arrived, buffered_by}
use Rattle.open_end.specs.declared.Frame.{Frame}
use Rattle.open_end.specs.declared.OpenEnd.{OpenEnd}
use Rattle.open_end.specs.declared.Course.{Course}
use Rattle.open_end.specs.declared.Course.TheVariants.{GoesOn, GivenUp, Leaves}
use Rattle.open_end.specs.declared.Answered.{Answered}
use Rattle.open_end.specs.declared.Due.{Due}
use Rattle.open_end.specs.declared.TakeStep.{TakeStep}

-- the ID and the bytes of a frame that is given; where none is, ID 0 and no bytes
abbrev pub given_frame : Option Frame → Frame
given_frame f = unwrap_or f (record { id = 0; payload = payload_of [] })

-- the channel of an end that is not open
abbrev pub no_channel : Channel
no_channel =
    fresh
    (record {
      terms = record { block = 0; t1 = 0; t3 = 0; repeats = 0; t_wait = 0 };
      interval = 0;
      allowed = 0;
      own = record { block = 0; t1 = 0; t3 = 0 };
    })

-- an end that is not open, with the IDs that are known of it
abbrev pub unopened : (transmit receive : ℕ) → OpenEnd
unopened transmit receive = record { transmit = transmit; receive = receive; channel = no_channel }

-- an end that has just been opened: all numbers start at 0, and nothing is there from before
abbrev pub fresh_end : (transmit receive : ℕ) → Parameters → OpenEnd
fresh_end transmit receive p = record { transmit = transmit; receive = receive; channel = fresh p }

-- an end with another channel
abbrev pub with_channel : OpenEnd → Channel → OpenEnd
with_channel e ch = record { transmit = e.transmit; receive = e.receive; channel = ch }

-- what an answer means for the record above: 8 closes it with nothing due, a disconnect with one A8 due, and else it goes on
unfoldable pub course_of : Answer → Course
course_of a = if eqb (said a).number 8 then GivenUp else if (said a).disconnected then Leaves else GoesOn

-- a frame with the bytes s, sorted as t, lent a buffer of room bytes: what its telegram does to the channel
unfoldable pub arrived_at : (limit : ℕ) → OpenEnd → Telegram → (s : List ℕ) → (room : ℕ) → Answered
arrived_at limit e t s room = (let r = arrived limit e.channel t (drop 1 s) room in record { answer = r.answer; end = with_channel e r.channel })

-- the lent buffer after it
unfoldable pub buffered_at : (limit : ℕ) → OpenEnd → Telegram → (s b : List ℕ) → List ℕ
buffered_at limit e t s b = buffered_by limit e.channel t (drop 1 s) b

-- time passes
unfoldable pub elapsed_at : OpenEnd → ℕ → Answered
elapsed_at e n = (let r = elapsed e.channel n in record { answer = r.answer; end = with_channel e r.channel })

-- a telegram that is given, as a frame on an ID
unfoldable pub frame_on : (id : ℕ) → Option Payload → Option Frame
frame_on id None = None
frame_on id (Some p) = Some (record { id = id; payload = p })

-- what the channel has due goes out on the transmit ID
unfoldable pub due_at : OpenEnd → List ℕ → Due
due_at e m =
    (let d = due e.channel m in
    record { answer = d.answer; frame = frame_on e.transmit d.payload; end = with_channel e d.channel })

-- a message of n bytes to send
unfoldable pub sent_at : (limit : ℕ) → OpenEnd → ℕ → Answered
sent_at limit e n = (let r = sent limit e.channel n in record { answer = r.answer; end = with_channel e r.channel })

-- the answer to a take: 0, or row 5 or 7
abbrev pub take_answer : Taking → Answer
take_answer (Shown m) = Good
take_answer NoneComplete = Busy
take_answer ShortRoom = ShortBuffer

-- take, lent a buffer of room bytes
unfoldable pub taken_at : OpenEnd → (room : ℕ) → TakeStep
taken_at e room =
    (let t = took e.channel.receiver room in
    record { answer = take_answer t.message; message = result_unwrap_or t.message none; end = with_channel e (with_receiver e.channel t.receiver) })
