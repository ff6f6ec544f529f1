-- 01, "Sending": what an open channel's sending half does at each call.
use Rattle.std.specs.Prelude.{ℕ, ◌+◌, ◌-◌, ◌%◌, max, Bool, true, false, not, ◌&&◌, List, [], Result, Ok, Err, length, ltb, leb, eqb, if◌then◌else◌}
use Rattle.telegram.specs.Outgoing.{payload_of}
use Rattle.telegram.specs.Cutting.{frames_of, asks_at, frame_at}
use Rattle.telegram.specs.declared.kinds.Telegram.{Telegram}
use Rattle.telegram.specs.declared.kinds.Telegram.TheVariants.{Data, Ack, Test, Break, Disconnect, Setup, Accept, Malformed}
use Rattle.telegram.specs.declared.payload.Payload.{Payload}
use Rattle.sender.specs.declared.Terms.{Terms}
use Rattle.sender.specs.declared.Sender.{Sender}
use Rattle.sender.specs.declared.OfferError.{OfferError}
use Rattle.sender.specs.declared.OfferError.TheVariants.{Busy as InSending, BadLength as NotSent}
use Rattle.sender.specs.declared.Offered.{Offered}
use Rattle.sender.specs.declared.Hearing.TheVariants.{Part, Done, Held, Nothing, UsedUp, NoAck}
use Rattle.sender.specs.declared.Heard.{Heard}
use Rattle.sender.specs.declared.Passing.TheVariants.{Quiet, Again, UsedUp as RanOut}
use Rattle.sender.specs.declared.Passed.{Passed}
use Rattle.sender.specs.declared.Handing.{Handing}
use Rattle.sender.specs.declared.Handing.TheVariants.{Frame, Nothing as NoFrame, OtherLength}
use Rattle.sender.specs.declared.Handed.{Handed}

-- no message in sending, and nothing runs; the next frame will have number o
abbrev pub resting : ℕ → Sender
resting o = record { length = 0; acked = 0; high = 0; next = 0; oldest = o; count = 0; wait = 0; hold = 0; gap = 0 }

-- after the A1 the numbers start at 0, and no message, wait, hold or T3 is left
abbrev pub fresh : Sender
fresh = resting 0

-- no message is in sending
abbrev pub idle : Sender → Bool
idle s = eqb s.length 0

-- some frame was handed over and is not acknowledged
abbrev pub unacknowledged : Sender → Bool
unacknowledged s = ltb s.acked s.high

-- ---- a message is offered

-- it is accepted, or refused
abbrev pub Offer : Type 0
Offer = Result (Unit {0}) OfferError

pattern abbrev pub Accepted : Offer
Accepted = Ok tt

pattern abbrev pub Busy : Offer
Busy = Err InSending

pattern abbrev pub BadLength : Offer
BadLength = Err NotSent

-- a message of n bytes in sending, from its first frame on; a hold or a gap left from before goes on
abbrev pub accepted : Sender → ℕ → Sender
accepted s n = record { length = n; acked = 0; high = 0; next = 0; oldest = s.oldest; count = 0; wait = 0; hold = s.hold; gap = s.gap }

-- rows 5 and 6: refused while a message is unfinished, then if empty or longer than the limit
unfoldable pub offered : (limit : ℕ) → Sender → ℕ → Offered
offered limit s n =
    if not (idle s) then record { note = Busy; sender = s }
    else if eqb n 0 then record { note = BadLength; sender = s }
    else if ltb limit n then record { note = BadLength; sender = s }
    else record { note = Accepted; sender = accepted s n }

-- ---- an Ack arrives

-- how far a number lies ahead, modulo 16, of the oldest unacknowledged frame
unfoldable pub distance : Sender → ℕ → ℕ
distance s number = (number % 16 + 16 - s.oldest % 16) % 16

-- "data is held for T_WAIT" by an Ack with RS 0
abbrev pub held_for : Terms → Bool → ℕ
held_for t ready = if ready then 0 else t.t_wait

-- data goes on from frame k of the message, the oldest unacknowledged one, with number o; no wait runs
abbrev pub from : Sender → (k o count hold gap : ℕ) → Sender
from s k o n h g = record { length = s.length; acked = k; high = s.high; next = k; oldest = o; count = n; wait = 0; hold = h; gap = g }

-- d more frames acknowledged: the wait ends, the repeat count returns to 0, the rest is sent from there
abbrev pub acknowledged : Sender → (d pause : ℕ) → Sender
acknowledged s d pause = from s (s.acked + d) ((s.oldest + d) % 16) 0 pause s.gap

-- the last d frames acknowledged: no message is in sending any more
abbrev pub finished : Sender → (d pause : ℕ) → Sender
finished s d h = record { length = 0; acked = 0; high = 0; next = 0; oldest = (s.oldest + d) % 16; count = 0; wait = 0; hold = h; gap = s.gap }

-- one more repeat: no wait running, a hold or none, and on from the oldest unacknowledged frame
abbrev pub again : Sender → (pause gap : ℕ) → Sender
again s pause gap = from s s.acked s.oldest (s.count + 1) pause gap

-- an Ack that changes nothing
abbrev pub ignored : Sender → Heard
ignored s = record { note = Nothing; sender = s }

-- an Ack, by its distance: nothing without a message or in a hold; 0 counts as a repeat if not ready; beyond the frames ever handed over, nothing; else that many are acknowledged
unfoldable pub on_ack : Terms → Sender → Bool → ℕ → Heard
on_ack t s ready number =
    if idle s then ignored s
    else if ltb 0 s.hold then ignored s
    else if eqb (distance s number) 0 then
    (if ready then ignored s
    else if leb t.repeats s.count then record { note = UsedUp; sender = s }
    else record { note = Held; sender = again s t.t_wait s.gap })
    else if ltb s.high (s.acked + distance s number) then ignored s
    else if eqb (s.acked + distance s number) (frames_of s.length) then record { note = Done; sender = finished s (distance s number) (held_for t ready) }
    else record { note = Part; sender = acknowledged s (distance s number) (held_for t ready) }

-- the Ack case of a sorted telegram, and a refusal of the others
unfoldable pub heard : Terms → Sender → Telegram → Heard
heard t s (Ack ready number) = on_ack t s ready number
heard t s (Data asks last number) = record { note = NoAck; sender = s }
heard t s Test = record { note = NoAck; sender = s }
heard t s Break = record { note = NoAck; sender = s }
heard t s Disconnect = record { note = NoAck; sender = s }
heard t s (Setup p) = record { note = NoAck; sender = s }
heard t s (Accept p) = record { note = NoAck; sender = s }
heard t s Malformed = record { note = NoAck; sender = s }

-- ---- time passes

-- the same place in the message, with another next frame and other timers; high counts the frames ever handed over
abbrev pub onward : Sender → (high next wait hold gap : ℕ) → Sender
onward s i n w h g =
    record { length = s.length; acked = s.acked; high = i; next = n; oldest = s.oldest; count = s.count; wait = w; hold = h; gap = g }

-- the timers with n tenths less, each stopping at zero
abbrev pub later : Sender → ℕ → Sender
later s n = onward s s.high s.next (s.wait - n) (s.hold - n) (s.gap - n)

-- time in which no wait runs out
abbrev pub quiet : Sender → ℕ → Passed
quiet s n = record { note = Quiet; sender = later s n }

-- a wait that runs out adds one to the repeat count and sends again from the oldest unacknowledged frame, or loses the connection
unfoldable pub passed : Terms → Sender → ℕ → Passed
passed t s n =
    if eqb s.wait 0 then quiet s n
    else if ltb n s.wait then quiet s n
    else if leb t.repeats s.count then record { note = RanOut; sender = s }
    else record { note = Again; sender = again s (s.hold - n) (s.gap - n) }

-- ---- a frame is asked for

-- T3 over, no wait for an Ack and no hold running, and the message has a next frame
unfoldable pub frame_due : Sender → Bool
frame_due s = not (idle s) && eqb s.wait 0 && eqb s.hold 0 && eqb s.gap 0 && ltb s.next (frames_of s.length)

-- the number of the message's first frame: the oldest unacknowledged one's, less the frames before it
unfoldable pub first_number : Sender → ℕ
first_number s = (s.oldest % 16 + 16 - s.acked % 16) % 16

-- the next frame handed over: T3 starts, and after a frame with AR the wait
abbrev pub advanced : Terms → Sender → Sender
advanced t s =
    (let wait = if asks_at t.block s.length s.next then t.t1 else 0 in
    onward s (max s.high (s.next + 1)) (s.next + 1) wait s.hold t.t3)

-- no frame handed over: nothing changes
abbrev pub no_frame : Sender → Handing → Handed
no_frame s why = record { note = why; sender = s }

-- a frame was handed over
abbrev pub is_frame : Handing → Bool
is_frame (Frame p) = true
is_frame NoFrame = false
is_frame OtherLength = false

-- its bytes, and none where none was
abbrev pub handed_payload : Handing → Payload
handed_payload (Frame p) = p
handed_payload NoFrame = payload_of []
handed_payload OtherLength = payload_of []

-- the frame that is due, of the lent message; row 7 where that is not of the accepted length
unfoldable pub handed : Terms → Sender → List ℕ → Handed
handed t s m =
    if not (frame_due s) then no_frame s NoFrame
    else if not (eqb (length m) s.length) then no_frame s OtherLength
    else record { note = Frame (frame_at m t.block (first_number s) s.next); sender = advanced t s }
