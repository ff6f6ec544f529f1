-- 02, request 5, "The car's side for the bench": what each call answers and leaves. Rows 3, 4 and 8 of 01 are amended for this side.
use Rattle.std.specs.Prelude.{ℕ, ◌+◌, false, not, ◌||◌, List, Some, length, eqb, if◌then◌else◌}
use Rattle.std.specs.Borrow.{Bor}
use Rattle.opening.specs.Opening.{request_id, request_read, reply_of, Request, NoRequest}
use Rattle.telegram.specs.Cutting.{none}
use Rattle.telegram.specs.Kinds.{bad_block, sorted, accept_of, disconnect_of}
use Rattle.telegram.specs.declared.kinds.Parameters.{Parameters as Fields}
use Rattle.telegram.specs.declared.kinds.Telegram.{Telegram}
use Rattle.telegram.specs.declared.kinds.Telegram.TheVariants.{Data, Ack, Test, Break, Disconnect, Setup, Accept, Malformed as NoTelegram}
use Rattle.settings.specs.Agreed.{own_fields}
use Rattle.settings.specs.declared.Settings.{Settings}
use Rattle.channel.specs.declared.Answer.TheVariants.{Good, Disconnected, Malformed, BlockSize, NotDue}
use Rattle.open_end.specs.Answers.{told, gives, marked, hand_over, hand_nothing, shows, Look, seen}
use Rattle.open_end.specs.OpenEnd.{course_of, arrived_at, buffered_at, elapsed_at, due_at, sent_at, taken_at}
use Rattle.open_end.specs.declared.answers.Answer.TheVariants.{Channel, OtherId, OutOfRange, Ended}
use Rattle.open_end.specs.declared.Frame.{Frame}
use Rattle.open_end.specs.declared.OpenEnd.{OpenEnd}
use Rattle.open_end.specs.declared.Course.{Course}
use Rattle.open_end.specs.declared.Course.TheVariants.{GoesOn, GivenUp, Leaves}
use Rattle.unit.specs.declared.ControlUnit.{ControlUnit}
use Rattle.open_end.specs.declared.answers.Answered.{Answered}
use Rattle.open_end.specs.declared.answers.Arrived.{Arrived}
use Rattle.open_end.specs.declared.answers.Due.{Due}
use Rattle.open_end.specs.declared.answers.TakeStep.{TakeStep}
use Rattle.unit.specs.Record.{phase_leaving, phase_refusing, phase_replying, phase_replied, phase_accepting, phase_open, is_closed, is_replying, is_open, in_sending, settable, closed_with, closed_of, leaving_of, asked_by, accepting, at_phase, with_open_end}

-- ---- what a call gives

-- 3, nothing changed
abbrev pub not_for_us : ControlUnit → Answered ControlUnit
not_for_us c = record { told = told OtherId; left = c }

-- "A C0 or A0 that ends a message in sending is answered 8, its reply due", and else 0
unfoldable pub ends : ControlUnit → (next : ControlUnit) → Answered ControlUnit
ends c next = if in_sending c then record { told = told Ended; left = next } else gives Good next

-- ---- set

-- 4 if not closed, then 10; else closed with these settings, and what was due is discarded
unfoldable pub set_to : ControlUnit → Settings → (reply : ℕ) → Answered ControlUnit
set_to c s reply =
    if not (is_closed c) then gives NotDue c
    else if not (settable s reply) then record { told = told OutOfRange; left = c }
    else gives Good (closed_with s reply)

-- ---- a frame arrives

-- on 0x200, "closed or not (all but a well-formed C0 gives 1 there, one for another unit 3)"
unfoldable pub on_request : ControlUnit → Request → Answered ControlUnit
on_request c NoRequest = gives Malformed c
on_request c (Some q) = if not (eqb q.unit c.settings.unit) then not_for_us c else ends c (asked_by c q.receive)

-- an A0: "From the D0's hand-over it answers A0 (row 2 covers it too)"; "An A0 on an open connection begins it anew"
unfoldable pub on_setup : ControlUnit → Fields → Answered ControlUnit
on_setup c p =
    if is_replying c then gives NotDue c
    else if bad_block p.block then gives BlockSize c
    else ends c (accepting c p)

-- before the A1's hand-over "only A8 and, once the D0 is out, A0 are due kinds": 1, then 4; a disconnect leaves one A8 due
unfoldable pub on_opening : ControlUnit → Telegram → Answered ControlUnit
on_opening c (Setup p) = on_setup c p
on_opening c Disconnect = gives Disconnected (leaving_of c)
on_opening c NoTelegram = gives Malformed c
on_opening c (Data asks last number) = gives NotDue c
on_opening c (Ack ready number) = gives NotDue c
on_opening c Test = gives NotDue c
on_opening c Break = gives NotDue c
on_opening c (Accept p) = gives NotDue c

-- what an answer of the open end leaves: the unit goes on, or is closed with nothing or with one A8 due
unfoldable pub settled : ControlUnit → Course → OpenEnd → ControlUnit
settled c GoesOn e = with_open_end c e
settled c GivenUp e = closed_of c
settled c Leaves e = leaving_of c

-- a telegram on an open connection: "it sends and receives as in 01"
unfoldable pub at_end : (limit : ℕ) → ControlUnit → Telegram → (s : List ℕ) → (room : ℕ) → Answered ControlUnit
at_end limit c t s room =
    (let r = arrived_at limit c.end t s room in
    gives r.answer (settled c (course_of r.answer) r.end))

-- an A0 on an open connection begins it anew; every other telegram the end answers
unfoldable pub on_open : (limit : ℕ) → ControlUnit → Telegram → (s : List ℕ) → (room : ℕ) → Answered ControlUnit
on_open limit c (Setup p) s room = on_setup c p
on_open limit c (Data asks last number) s room = at_end limit c (Data asks last number) s room
on_open limit c (Ack ready number) s room = at_end limit c (Ack ready number) s room
on_open limit c Test s room = at_end limit c Test s room
on_open limit c Break s room = at_end limit c Break s room
on_open limit c Disconnect s room = at_end limit c Disconnect s room
on_open limit c (Accept p) s room = at_end limit c (Accept p) s room
on_open limit c NoTelegram s room = at_end limit c NoTelegram s room

-- a frame with the bytes s, lent a buffer of room bytes: 0x200 first, in every state; then 4 if closed, 3, and by the phase; what is sorted is answered with its mark
unfoldable pub arrived : (limit : ℕ) → ControlUnit → (id : ℕ) → (s : List ℕ) → (room : ℕ) → Arrived ControlUnit
arrived limit c id s room =
    if eqb id request_id then marked false (on_request c (request_read s))
    else if is_closed c then marked false (gives NotDue c)
    else if not (eqb id c.settings.receive) then marked false (not_for_us c)
    else if not (is_open c) then marked (sorted s).padded (on_opening c (sorted s).kind)
    else marked (sorted s).padded (on_open limit c (sorted s).kind s room)

-- the lent buffer after it: only an open channel's data on our receive ID is written
unfoldable pub buffered : (limit : ℕ) → ControlUnit → (id : ℕ) → (s b : List ℕ) → List ℕ
buffered limit c id s b =
    if eqb id request_id || is_closed c || not (eqb id c.settings.receive) || not (is_open c) then b
    else buffered_at limit c.end (sorted s).kind s b

-- ---- time passes

-- on an open connection the end's timers run
unfoldable pub open_elapsed : ControlUnit → ℕ → Answered ControlUnit
open_elapsed c n = (let r = elapsed_at c.end n in gives r.answer (settled c (course_of r.answer) r.end))

-- good in every state; till the A1's hand-over "nothing is timed"
unfoldable pub elapsed : ControlUnit → ℕ → Answered ControlUnit
elapsed c n = if not (is_open c) then gives Good c else open_elapsed c n

-- ---- what is due

-- a reply goes from 0x200 + unit, "all filled in like D0": the asker's receive ID, and ours as its transmit ID
abbrev pub reply_frame : ControlUnit → (opcode : ℕ) → Frame
reply_frame c opcode = record { id = request_id + c.settings.unit; payload = reply_of opcode c.end.transmit c.settings.receive }

-- the A1 of the opening, "of its own settings"
abbrev pub accept_frame : ControlUnit → Frame
accept_frame c = record { id = c.end.transmit; payload = accept_of (own_fields c.settings) }

-- what an open end has due
unfoldable pub open_due : ControlUnit → List ℕ → Due ControlUnit
open_due c m =
    (let d = due_at c.end m in
    record { told = told (Channel d.answer); frame = d.frame; left = with_open_end c d.end })

-- at most one frame: a closed unit's A8 or refusal, the D0, the A1 that opens, or what the open end has due
unfoldable pub due_of : ControlUnit → List ℕ → Due ControlUnit
due_of c m =
    if eqb c.phase phase_leaving then hand_over (record { id = c.end.transmit; payload = disconnect_of }) (closed_of c)
    else if eqb c.phase phase_refusing then hand_over (reply_frame c c.reply) (closed_of c)
    else if eqb c.phase phase_replying then hand_over (reply_frame c 0xD0) (at_phase c phase_replied)
    else if eqb c.phase phase_accepting then hand_over (accept_frame c) (at_phase c phase_open)
    else if not (is_open c) then hand_nothing c
    else open_due c m

-- ---- send, take and close

-- an open end is offered a message of n bytes
unfoldable pub open_sent : (limit : ℕ) → ControlUnit → ℕ → Answered ControlUnit
open_sent limit c n = (let r = sent_at limit c.end n in gives r.answer (with_open_end c r.end))

-- send: 4 unless open, then 5, 6
unfoldable pub sent_by : (limit : ℕ) → ControlUnit → ℕ → Answered ControlUnit
sent_by limit c n = if not (is_open c) then gives NotDue c else open_sent limit c n

-- an open end's message is taken
unfoldable pub open_taken : ControlUnit → (room : ℕ) → TakeStep ControlUnit
open_taken c room = (let t = taken_at c.end room in shows t.answer t.message (with_open_end c t.end))

-- take, lent a buffer of room bytes: 4 unless open, then 5, 7
unfoldable pub taken_by : ControlUnit → (room : ℕ) → TakeStep ControlUnit
taken_by c room = if not (is_open c) then shows NotDue none c else open_taken c room

-- take, lent a buffer: the message is shown as the first part of it, where it lies
abbrev pub takes : ControlUnit → (buffer : Bor (List ℕ)) → Look ControlUnit
takes c b = seen (taken_by c (length b.now)) b

-- close: 4 on a closed unit, whose due frame stays; else one A8 is due on the asker's ID
unfoldable pub closed : ControlUnit → Answered ControlUnit
closed c = if is_closed c then gives NotDue c else gives Good (leaving_of c)
