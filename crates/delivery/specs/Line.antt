-- A bare channel as an end: what the other ends are held to (Laws.antt), and an end by itself.
use Rattle.std.specs.Prelude.{ℕ, Bool, true, false, not, List, [], drop, if◌then◌else◌}
use Rattle.std.specs.Result.{result_unwrap_or}
use Rattle.std.specs.Option.{is_some}
use Rattle.channel.specs.Opened.{given_payload}
use Rattle.telegram.specs.Outgoing.{bytes_of}
use Rattle.telegram.specs.Kinds.{sorted}
use Rattle.telegram.specs.Cutting.{none}
use Rattle.receiver.specs.Receiving.{took, Taking, Shown, NoneComplete, ShortBuffer}
use Rattle.channel.specs.declared.Channel.{Channel}
use Rattle.channel.specs.declared.Answer.{Answer}
use Rattle.channel.specs.declared.Answer.TheVariants.{Good, NotDue}
use Rattle.channel.specs.Numbers.{said, closes}
use Rattle.channel.specs.Opened.{elapsed, with_receiver, due as due_of, sent as sent_by}
use Rattle.arrival.specs.Arrived.{arrived, buffered_by}
use Rattle.delivery.specs.End.{Told, Taken, Given, End}

-- a channel, and whether its end is open still
pub record Line : Type 0 where
  pub channel : Channel
  pub live : Bool

-- what an answer leaves: 8 and a disconnect close
abbrev pub line_after : Channel → Answer → Line
line_after c a = record { channel = c; live = not (closes a) }

-- the answer of an open channel
abbrev pub answers : Channel → Answer → Told Line
answers c a = record { number = (said a).number; done = (said a).done; state = line_after c a }

-- an answer of a closed end, which stays as it is
abbrev pub unmoved : Answer → Line → Told Line
unmoved a l = record { number = (said a).number; done = (said a).done; state = l }

-- send: 4 if closed
abbrev pub line_send : (limit : ℕ) → Line → ℕ → Told Line
line_send limit l n = if l.live then (let r = sent_by limit l.channel n in answers r.channel r.answer) else unmoved NotDue l

-- time: good in every state
abbrev pub line_time : Line → ℕ → Told Line
line_time l n = if l.live then (let r = elapsed l.channel n in answers r.channel r.answer) else unmoved Good l

-- the number of a take's answer: 0, or row 5 or 7
abbrev pub take_number : Taking → ℕ
take_number (Shown m) = 0
take_number NoneComplete = 5
take_number ShortBuffer = 7

-- take: 4 if closed
abbrev pub line_take : Line → (room : ℕ) → Taken Line
line_take l room =
    if l.live
    then
    (let t = took l.channel.receiver room in
    record { number = take_number t.message; message = result_unwrap_or t.message none; state = record { channel = with_receiver l.channel t.receiver; live = true } })
    else record { number = (said NotDue).number; message = none; state = l }

-- what is due: nothing if closed
abbrev pub line_due : Line → List ℕ → Given Line
line_due l m =
    if l.live
    then (let d = due_of l.channel m in record { given = is_some d.payload; id = 0; bytes = bytes_of (given_payload d.payload); state = line_after d.channel d.answer })
    else record { given = false; id = 0; bytes = []; state = l }

-- a frame arrives: 4 if closed
abbrev pub line_arrive : (limit : ℕ) → Line → (bytes : List ℕ) → (room : ℕ) → Told Line
line_arrive limit l bytes room =
    if l.live
    then (let r = arrived limit l.channel (sorted bytes).kind (drop 1 bytes) room in answers r.channel r.answer)
    else unmoved NotDue l

-- the lent buffer after it
abbrev pub line_buffered : (limit : ℕ) → Line → (bytes buffer : List ℕ) → List ℕ
line_buffered limit l bytes buffer =
    if l.live then buffered_by limit l.channel (sorted bytes).kind (drop 1 bytes) buffer else buffer

-- the calls of `channel` and `arrival` and the record's rule that a closed end refuses; it has no IDs, and all its frames have 0
abbrev pub channel_end : (limit : ℕ) → End
channel_end limit =
    record {
      State = Line;
      send = line_send limit;
      take = line_take;
      time = line_time;
      due = line_due;
      arrive = λ l id. line_arrive limit l;
      buffered = λ l id. line_buffered limit l;
      open' = λ l. l.live;
      channel = λ l. l.channel;
      receives = λ l. 0;
      transmits = λ l. 0;
    }
