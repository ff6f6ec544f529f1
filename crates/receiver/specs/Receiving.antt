-- 01, "Receiving" and "Others": what an open channel's receiving half does at each call.
use Rattle.std.specs.Prelude.{ℕ, ◌+◌, ◌-◌, ◌%◌, Bool, true, false, not, ◌&&◌, ◌||◌, List, ◌++◌, Result, Ok, Err, length, take, drop, get_or, ltb, eqb, if◌then◌else◌}
use Rattle.telegram.specs.Cutting.{none, declared_of}
use Rattle.telegram.specs.declared.kinds.Telegram.{Telegram}
use Rattle.telegram.specs.declared.kinds.Telegram.TheVariants.{Data, Ack, Test, Break, Disconnect, Setup, Accept, Malformed}
use Rattle.telegram.specs.declared.cutting.Message.{Message}
use Rattle.receiver.specs.declared.Standing.{Standing}
use Rattle.receiver.specs.declared.AckDue.{AckDue}
use Rattle.receiver.specs.declared.Receiver.{Receiver}
use Rattle.receiver.specs.declared.Cause.TheVariants.{TooShort, BadLength, TooMany, NoEnd, EarlyEnd}
use Rattle.receiver.specs.declared.Receipt.{Receipt}
use Rattle.receiver.specs.declared.Receipt.TheVariants.{Used, Complete, ThrownAway, OutOfPlace, Untaken, ShortFirst, ShortLater, Broken, NoData}
use Rattle.receiver.specs.declared.Received.{Received}
use Rattle.receiver.specs.declared.TakeError.{TakeError}
use Rattle.receiver.specs.declared.TakeError.TheVariants.{NoneComplete as NoneThere, ShortBuffer as ShortRoom}
use Rattle.receiver.specs.declared.Took.{Took}

-- a number is expected, and nothing is begun
abbrev pub idle : ℕ → Standing
idle number = record { expected = number; discarding = false; begun = none; fill = 0 }

-- no Ack is due
abbrev pub no_ack : AckDue
no_ack = record { due = false; ready = false; number = 0 }

-- after the A1 the numbers start at 0, and nothing is received or due
abbrev pub fresh : Receiver
fresh = record { at = idle 0; back = idle 0; complete = none; ack = no_ack }

-- a complete message waits untaken
abbrev pub waiting : Receiver → Bool
waiting r = ltb 0 r.complete.length

-- the number behind a number
abbrev pub following : ℕ → ℕ
following number = (number + 1) % 16

-- ---- what a frame leaves

-- the Ack due after a frame: with AR one with the number now expected, ready unless a message waited before the frame came; else as before
abbrev pub ack_after : Receiver → (asks : Bool) → ℕ → AckDue
ack_after r asks expected = if asks then record { due = true; ready = not (waiting r); number = expected } else r.ack

-- what a frame leaves: a standing, and perhaps a complete message; an Ack that becomes due, or a message that ends, makes this the place that a break returns to
unfoldable pub settled : Receiver → (asks last : Bool) → Standing → Message → Receiver
settled r asks last standing complete =
    record { at = standing; back = if asks || last then standing else r.back; complete = complete; ack = ack_after r asks standing.expected }

-- a frame that is not used changes nothing, except an asked-for Ack
abbrev pub kept : Receiver → (asks : Bool) → Receiver
kept r asks = settled r asks false r.at r.complete

-- a frame that is numbered: the number behind it is expected
unfoldable pub numbered : Receiver → (asks last discarding : Bool) → (begun : Message) → (fill : ℕ) → (complete : Message) → Receiver
numbered r asks last discarding begun fill complete =
    settled r asks last (record { expected = following r.at.expected; discarding = discarding; begun = begun; fill = fill }) complete

-- a frame whose message is thrown away, and with it those that follow, up to and including the next EOM
abbrev pub discarded : Receiver → (asks last : Bool) → Receiver
discarded r asks last = numbered r asks last (not last) none 0 r.complete

-- a frame that is used, and leaves the message with fill bytes
abbrev pub used : Receiver → (asks : Bool) → Message → (fill : ℕ) → Receiver
used r asks m fill = numbered r asks false false m fill r.complete

-- a frame that completes its message
abbrev pub completed : Receiver → (asks : Bool) → Message → Receiver
completed r asks m = numbered r asks true false none 0 m

-- ---- a data telegram arrives

-- a frame that brings a message to fill bytes: broken by bytes beyond the declared length, no EOM though they have reached it, or EOM with too few; a buffer too short for a first frame's message; else complete or used
unfoldable pub filled : Receiver → (asks last : Bool) → (m : Message) → (fill room : ℕ) → Received
filled r asks last m fill room =
    if ltb m.length fill then record { note = Broken TooMany; receiver = discarded r asks last }
    else if not last && eqb fill m.length then record { note = Broken NoEnd; receiver = discarded r asks last }
    else if last && ltb fill m.length then record { note = Broken EarlyEnd; receiver = discarded r asks last }
    else if ltb room m.length then record { note = ShortFirst; receiver = discarded r asks last }
    else if last then record { note = Complete; receiver = completed r asks m }
    else record { note = Used; receiver = used r asks m fill }

-- a first frame: two length bytes and the first of the message, which is not empty and not over the limit
unfoldable pub on_first : (limit : ℕ) → Receiver → (asks last : Bool) → (p : List ℕ) → (room : ℕ) → Received
on_first limit r asks last p room =
    if ltb (length p) 2 then record { note = Broken TooShort; receiver = discarded r asks last }
    else if eqb (declared_of (get_or p 0 0) (get_or p 1 0)).length 0 then record { note = Broken BadLength; receiver = discarded r asks last }
    else if ltb limit (declared_of (get_or p 0 0) (get_or p 1 0)).length then record { note = Broken BadLength; receiver = discarded r asks last }
    else filled r asks last (declared_of (get_or p 0 0) (get_or p 1 0)) (length p - 2) room

-- a later frame; row 7 comes first, and changes nothing
unfoldable pub on_later : Receiver → (asks last : Bool) → (p : List ℕ) → (room : ℕ) → Received
on_later r asks last p room =
    if ltb room r.at.begun.length then record { note = ShortLater; receiver = r }
    else filled r asks last r.at.begun (r.at.fill + length p) room

-- the next frame is a message's first
abbrev pub first : Receiver → Bool
first r = eqb r.at.begun.length 0

-- data with the bytes p behind its first byte, lent a buffer of room bytes, in the order of 01: 12, 5, then thrown away, a first or a later frame
unfoldable pub on_data : (limit : ℕ) → Receiver → (asks last : Bool) → (number : ℕ) → (p : List ℕ) → (room : ℕ) → Received
on_data limit r asks last number p room =
    if not (eqb number r.at.expected) then record { note = OutOfPlace r.at.expected; receiver = kept r asks }
    else if waiting r then record { note = Untaken; receiver = kept r asks }
    else if r.at.discarding then record { note = ThrownAway; receiver = discarded r asks last }
    else if first r then on_first limit r asks last p room
    else on_later r asks last p room

-- the data case of a sorted telegram, and a refusal of the others
unfoldable pub received : (limit : ℕ) → Receiver → Telegram → (p : List ℕ) → (room : ℕ) → Received
received limit r (Data asks last number) p room = on_data limit r asks last number p room
received limit r (Ack ready number) p room = record { note = NoData; receiver = r }
received limit r Test p room = record { note = NoData; receiver = r }
received limit r Break p room = record { note = NoData; receiver = r }
received limit r Disconnect p room = record { note = NoData; receiver = r }
received limit r (Setup s) p room = record { note = NoData; receiver = r }
received limit r (Accept s) p room = record { note = NoData; receiver = r }
received limit r Malformed p room = record { note = NoData; receiver = r }

-- ---- the lent buffer

-- a buffer with the bytes p from a place on, and nothing else changed
abbrev pub pasted : List ℕ → ℕ → List ℕ → List ℕ
pasted b at p = take at b ++ (p ++ drop (at + length p) b)

-- the buffer after a used frame: its bytes, the length bytes left out, behind what already stands there
unfoldable pub copied : Receiver → (p b : List ℕ) → List ℕ
copied r p b = if first r then pasted b 0 (drop 2 p) else pasted b r.at.fill p

-- a frame is used if it goes into its message, or completes it
abbrev pub is_used : Receipt → Bool
is_used Used = true
is_used Complete = true
is_used ThrownAway = false
is_used (OutOfPlace e) = false
is_used Untaken = false
is_used ShortFirst = false
is_used ShortLater = false
is_used (Broken c) = false
is_used NoData = false

-- the buffer after a data telegram: only a used frame writes
unfoldable pub buffered : Receiver → Receipt → (p b : List ℕ) → List ℕ
buffered r note p b = if is_used note then copied r p b else b

-- ---- the other calls

-- break: back to where an Ack last became due or a message last ended; a complete message stays, a taken one stays taken
abbrev pub returned : Receiver → Receiver
returned r = record { at = r.back; back = r.back; complete = r.complete; ack = r.ack }

-- the due Ack was handed over
abbrev pub ack_handed : Receiver → Receiver
ack_handed r = record { at = r.at; back = r.back; complete = r.complete; ack = no_ack }

-- what taking a message finds: the message that is shown, or why none is
abbrev pub Taking : Type 0
Taking = Result Message TakeError

pattern abbrev pub Shown : Message → Taking
Shown m = Ok m

pattern abbrev pub NoneComplete : Taking
NoneComplete = Err NoneThere

pattern abbrev pub ShortBuffer : Taking
ShortBuffer = Err ShortRoom

-- take: row 5 with none complete, row 7 where the lent buffer is shorter than the declared length; else the message is taken, and its length and flags are reported (02, 1)
unfoldable pub took : Receiver → (room : ℕ) → Took
took r room =
    if not (waiting r) then record { message = NoneComplete; receiver = r }
    else if ltb room r.complete.length then record { message = ShortBuffer; receiver = r }
    else record { message = Shown r.complete; receiver = record { at = r.at; back = r.back; complete = none; ack = r.ack } }

-- the bytes of the message that a take shows: the first part of the lent buffer
abbrev pub shown : Receiver → List ℕ → List ℕ
shown r b = take r.complete.length b
