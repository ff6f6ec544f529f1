-- 01, "The record and its calls", "Opening" and "Numbers we answer with": what each call answers and leaves.
use Rattle.std.specs.Prelude.{ℕ, ◌+◌, ◌-◌, true, false, not, ◌||◌, List, length, ltb, leb, eqb, if◌then◌else◌}
use Rattle.std.specs.Borrow.{Bor}
use Rattle.telegram.specs.Kinds.{bad_block, setup_of, disconnect_of}
use Rattle.opening.specs.Opening.{Reply, Positive, Refused as RefusedBy, NoReply}
use Rattle.telegram.specs.declared.kinds.Parameters.{Parameters as Fields}
use Rattle.telegram.specs.declared.kinds.Telegram.{Telegram}
use Rattle.telegram.specs.declared.kinds.Telegram.TheVariants.{Data, Ack, Test, Break, Disconnect, Setup, Accept, Malformed as NoTelegram}
use Rattle.telegram.specs.Cutting.{none}
use Rattle.profile.specs.Profile.{tp20, sorted_by}
use Rattle.profile.specs.Opening.{request_for, reply_for}
use Rattle.profile.specs.declared.Profile.{Profile}
use Rattle.settings.specs.Settings.{allowed_by}
use Rattle.settings.specs.declared.Settings.{Settings}
use Rattle.settings.specs.Agreed.{own_fields}
use Rattle.channel.specs.declared.Answer.TheVariants.{Good, Disconnected, Malformed, BlockSize, NotDue, UsedUp}
use Rattle.open_end.specs.declared.answers.Answer.TheVariants.{Channel, OtherId, OutOfRange, Refused}
use Rattle.open_end.specs.Answers.{told, gives, marked, hand_over, hand_nothing, shows, Look, seen}
use Rattle.open_end.specs.declared.Frame.{Frame}
use Rattle.open_end.specs.declared.OpenEnd.{OpenEnd}
use Rattle.open_end.specs.declared.Course.{Course}
use Rattle.open_end.specs.declared.Course.TheVariants.{GoesOn, GivenUp, Leaves}
use Rattle.open_end.specs.OpenEnd.{course_of, arrived_at, buffered_at, elapsed_at, due_at, sent_at, taken_at}
use Rattle.connection.specs.declared.attempt.Attempt.{Attempt}
use Rattle.connection.specs.declared.Connection.{Connection}
use Rattle.open_end.specs.declared.answers.Answered.{Answered}
use Rattle.open_end.specs.declared.answers.Arrived.{Arrived}
use Rattle.open_end.specs.declared.answers.Due.{Due}
use Rattle.open_end.specs.declared.answers.TakeStep.{TakeStep}
use Rattle.connection.specs.Record.{is_closed, is_requesting, is_agreeing, is_open, closed_record, leaving_on, requesting_as, agreeing, opened, with_attempt, with_open_end, hears}

-- ---- what a call gives

-- ---- open

-- in a profile: 4 if not closed, then 10; else the C0 is due, and an A8 that was due is discarded
unfoldable pub opening_as : Connection → Profile → Settings → Answered Connection
opening_as c p s =
    if not (is_closed c) then gives NotDue c
    else if not (allowed_by p s) then record { told = told OutOfRange; left = c }
    else gives Good (requesting_as p s)

-- in TP 2.0
abbrev pub opening : Connection → Settings → Answered Connection
opening c s = opening_as c tp20 s

-- ---- a frame arrives

-- while the D0 is awaited: 1, then 4 before the C0 was ever handed over; a refusal closes with nothing due
unfoldable pub on_reply : Connection → Reply → Answered Connection
on_reply c NoReply = gives Malformed c
on_reply c (RefusedBy opcode) =
    if not c.attempt.asked then gives NotDue c
    else record { told = told (Refused opcode); left = closed_record }
on_reply c (Positive transmit) =
    if not c.attempt.asked then gives NotDue c
    else gives Good (agreeing c transmit)

-- the A1 that is awaited: 4 before the A0 was ever handed over, then 2 for its block size byte
unfoldable pub on_accept : Connection → Fields → Answered Connection
on_accept c p =
    if not c.attempt.asked then gives NotDue c
    else if bad_block p.block then gives BlockSize c
    else gives Good (opened c p)

-- while the A1 is awaited only A1 and A8 are due kinds: 1, then 4; a disconnect leaves one A8 due
unfoldable pub on_agreeing : Connection → Telegram → Answered Connection
on_agreeing c (Accept p) = on_accept c p
on_agreeing c Disconnect = gives Disconnected (leaving_on c.end.transmit)
on_agreeing c NoTelegram = gives Malformed c
on_agreeing c (Data asks last number) = gives NotDue c
on_agreeing c (Ack ready number) = gives NotDue c
on_agreeing c Test = gives NotDue c
on_agreeing c Break = gives NotDue c
on_agreeing c (Setup p) = gives NotDue c

-- what an answer of the open end leaves: the record goes on, or is closed with nothing or with one A8 due
unfoldable pub settled : Connection → Course → OpenEnd → Connection
settled c GoesOn e = with_open_end c e
settled c GivenUp e = closed_record
settled c Leaves e = leaving_on c.end.transmit

-- on an open connection the end answers
unfoldable pub on_open : (limit : ℕ) → Connection → Telegram → (s : List ℕ) → (room : ℕ) → Answered Connection
on_open limit c t s room =
    (let r = arrived_at limit c.end t s room in
    gives r.answer (settled c (course_of r.answer) r.end))

-- a frame with the bytes s, lent a buffer of room bytes: 4 if closed, then 3, then by the phase; what is sorted is answered with its mark
unfoldable pub arrived : (limit : ℕ) → Connection → (id : ℕ) → (s : List ℕ) → (room : ℕ) → Arrived Connection
arrived limit c id s room =
    if is_closed c then marked false (gives NotDue c)
    else if not (hears c id) then marked false (record { told = told OtherId; left = c })
    else if is_requesting c then marked false (on_reply c (reply_for c.profile s c.settings.receive))
    else if is_agreeing c then marked (sorted_by c.profile s).padded (on_agreeing c (sorted_by c.profile s).kind)
    else marked (sorted_by c.profile s).padded (on_open limit c (sorted_by c.profile s).kind s room)

-- the lent buffer after it: only an open channel's data on our receive ID is written
unfoldable pub buffered : (limit : ℕ) → Connection → (id : ℕ) → (s b : List ℕ) → List ℕ
buffered limit c id s b =
    if is_closed c || not (hears c id) || is_requesting c || is_agreeing c then b
    else buffered_at limit c.end (sorted_by c.profile s).kind s b

-- ---- time passes

-- a request's wait with n tenths less
abbrev pub waits_on : Attempt → ℕ → Attempt
waits_on a n = record { due = a.due; asked = a.asked; wait = a.wait - n; repeats = a.repeats }

-- its wait ran out: a repeat is due
abbrev pub repeat_due : Attempt → Attempt
repeat_due a = record { due = true; asked = a.asked; wait = 0; repeats = a.repeats + 1 }

-- while a reply is awaited: a wait that runs out makes a repeat due while the repeats are below MNTC, and gives 8 then
unfoldable pub attempt_elapsed : Connection → ℕ → Answered Connection
attempt_elapsed c n =
    if eqb c.attempt.wait 0 then gives Good c
    else if ltb n c.attempt.wait then gives Good (with_attempt c (waits_on c.attempt n))
    else if leb c.settings.mntc c.attempt.repeats then gives UsedUp closed_record
    else gives Good (with_attempt c (repeat_due c.attempt))

-- on an open connection the end's timers run
unfoldable pub open_elapsed : Connection → ℕ → Answered Connection
open_elapsed c n = (let r = elapsed_at c.end n in gives r.answer (settled c (course_of r.answer) r.end))

-- good in every state; 8 where repeats, opening repeats or tests are used up
unfoldable pub elapsed : Connection → ℕ → Answered Connection
elapsed c n =
    if is_closed c then gives Good c
    else if not (is_open c) then attempt_elapsed c n
    else open_elapsed c n

-- ---- what is due

-- a request handed over: T_E runs from now
abbrev pub attempt_out : Connection → Attempt
attempt_out c = record { due = false; asked = true; wait = c.settings.t_e; repeats = c.attempt.repeats }

-- a closed record's one A8
unfoldable pub closed_due : Connection → Due Connection
closed_due c =
    if not c.leaving then hand_nothing c
    else hand_over (record { id = c.end.transmit; payload = disconnect_of }) closed_record

-- the request of the opening, on its ID
unfoldable pub request_due : Connection → Frame → Due Connection
request_due c f =
    if not c.attempt.due then hand_nothing c
    else hand_over f (with_attempt c (attempt_out c))

-- what an open end has due
unfoldable pub open_due : Connection → List ℕ → Due Connection
open_due c m =
    (let d = due_at c.end m in
    record { told = told (Channel d.answer); frame = d.frame; left = with_open_end c d.end })

-- at most one frame: a closed record's A8, the C0, the A0, or what the open end has due
unfoldable pub due_of : Connection → List ℕ → Due Connection
due_of c m =
    if is_closed c then closed_due c
    else if is_requesting c then request_due c (record { id = c.profile.request; payload = request_for c.profile c.settings.unit c.settings.receive })
    else if is_agreeing c then request_due c (record { id = c.end.transmit; payload = setup_of (own_fields c.settings) })
    else open_due c m

-- ---- send, take and close

-- an open end is offered a message of n bytes
unfoldable pub open_sent : (limit : ℕ) → Connection → ℕ → Answered Connection
open_sent limit c n = (let r = sent_at limit c.end n in gives r.answer (with_open_end c r.end))

-- send: 4 unless open, then 5, 6
unfoldable pub sent_by : (limit : ℕ) → Connection → ℕ → Answered Connection
sent_by limit c n = if not (is_open c) then gives NotDue c else open_sent limit c n

-- an open end's message is taken
unfoldable pub open_taken : Connection → (room : ℕ) → TakeStep Connection
open_taken c room = (let t = taken_at c.end room in shows t.answer t.message (with_open_end c t.end))

-- take, lent a buffer of room bytes: 4 unless open, then 5, 7
unfoldable pub taken_by : Connection → (room : ℕ) → TakeStep Connection
taken_by c room = if not (is_open c) then shows NotDue none c else open_taken c room

-- take, lent a buffer: the message is shown as the first part of it, where it lies
abbrev pub takes : Connection → (buffer : Bor (List ℕ)) → Look Connection
takes c b = seen (taken_by c (length b.now)) b

-- close: 4 on a closed record; what is unfinished is dropped, and one A8 is due if the transmit ID is known
unfoldable pub closed : Connection → Answered Connection
closed c =
    if is_closed c then gives NotDue c
    else if is_requesting c then gives Good closed_record
    else gives Good (leaving_on c.end.transmit)
