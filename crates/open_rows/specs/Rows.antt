-- 01, "Telegrams on an open connection" and "Numbers we answer with": the kinds of frame by their bytes, and what the rows of an
-- open channel ask and leave. All is written from the channel's fields, numbers and bytes, apart from the definitions that the
-- promises cite. The tables of a connection and of a control unit put them in order.
use Rattle.std.specs.Prelude.{ℕ, ◌+◌, ◌-◌, ◌*◌, ◌/◌, ◌%◌, Bool, true, false, not, ◌&&◌, ◌||◌, List, [], ◌∷◌, ◌++◌, length, take, drop, get_or, replicate, ltb, leb, eqb, if◌then◌else◌}
use Rattle.std.specs.declared.option.Option.{Option}
use Rattle.std.specs.declared.option.Option.TheVariants.{None, Some}
use Rattle.telegram.specs.declared.cutting.Message.{Message}
use Rattle.telegram.specs.declared.payload.Payload.{Payload}
use Rattle.profile.specs.declared.Range.{Range}
use Rattle.profile.specs.declared.Profile.{Profile}
use Rattle.settings.specs.declared.Settings.{Settings}
use Rattle.sender.specs.declared.Sender.{Sender}
use Rattle.receiver.specs.declared.Standing.{Standing}
use Rattle.receiver.specs.declared.AckDue.{AckDue}
use Rattle.receiver.specs.declared.Receiver.{Receiver}
use Rattle.channel.specs.declared.Tests.{Tests}
use Rattle.channel.specs.declared.Channel.{Channel}
use Rattle.open_end.specs.declared.Frame.{Frame}
use Rattle.open_rows.specs.Records.{none_received, tenths, channel_of, on_receiver}

-- ---- the kinds of frame, by their bytes

-- "Data, 2 to 8 bytes: first byte 00, AR, EOM, number"
unfoldable pub is_data : List ℕ → Bool
is_data s = ltb (get_or s 0 0) 0x40 && ltb 1 (length s) && ltb (length s) 9

-- "AR 0 asks for an Ack": data below 0x20
unfoldable pub asks_ack : List ℕ → Bool
asks_ack s = ltb (get_or s 0 0) 0x20

-- "EOM": data of 0x10 to 0x1F and of 0x30 to 0x3F
unfoldable pub is_last : List ℕ → Bool
is_last s = leb 0x10 (get_or s 0 0 % 0x20)

-- the number of data and of an Ack
abbrev pub number_in : List ℕ → ℕ
number_in s = get_or s 0 0 % 16

-- "at their own length or at exactly 8 bytes" (02, request 4)
abbrev pub own_or_eight : (own : ℕ) → List ℕ → Bool
own_or_eight own s = eqb (length s) own || eqb (length s) 8

-- "Ack, 1 byte: 1 0 RS 1 number": 0x90 to 0x9F, and 0xB0 to 0xBF; or at 8 bytes
unfoldable pub is_ack : List ℕ → Bool
is_ack s = own_or_eight 1 s && (leb 0x90 (get_or s 0 0) && ltb (get_or s 0 0) 0xA0 || leb 0xB0 (get_or s 0 0) && ltb (get_or s 0 0) 0xC0)

-- "RS 1 is ready": an Ack from 0xB0 on
unfoldable pub is_ready : List ℕ → Bool
is_ready s = leb 0xB0 (get_or s 0 0)

-- "One byte each: A3 test, A4 break, A8 disconnect"; or at 8 bytes
unfoldable pub is_test : List ℕ → Bool
is_test s = own_or_eight 1 s && eqb (get_or s 0 0) 0xA3

-- "A4 break"; or at 8 bytes
unfoldable pub is_break : List ℕ → Bool
is_break s = own_or_eight 1 s && eqb (get_or s 0 0) 0xA4

-- "A8 disconnect"; or at 8 bytes
unfoldable pub is_disconnect : List ℕ → Bool
is_disconnect s = own_or_eight 1 s && eqb (get_or s 0 0) 0xA8

-- "Six bytes: A0", at no other length
unfoldable pub is_setup : List ℕ → Bool
is_setup s = eqb (length s) 6 && eqb (get_or s 0 0) 0xA0

-- "Six bytes: .. A1"; or at 8 bytes
unfoldable pub is_accept : List ℕ → Bool
is_accept s = own_or_eight 6 s && eqb (get_or s 0 0) 0xA1

-- "All else, or another length, is badly formed"
unfoldable pub is_telegram : List ℕ → Bool
is_telegram s = is_data s || is_ack s || is_test s || is_break s || is_disconnect s || is_setup s || is_accept s

-- the mark of what is no badly formed telegram (02, request 4): one of 8 bytes is padded, unless it is data
unfoldable pub is_padded : List ℕ → Bool
is_padded s = not (is_data s) && eqb (length s) 8

-- the ID of a low and a high byte
abbrev pub id_of : (low high : ℕ) → ℕ
id_of low high = low + 256 * high

-- ---- a frame arrives: the conditions

-- "An A1 on an open connection only answers a test .. with no test out it gives 4"
abbrev pub no_test_out : Channel → List ℕ → Bool
no_test_out ch s = is_accept s && not ch.tests.out

-- "block size 0 or over 15", of an A0 or A1
abbrev pub block_out : List ℕ → Bool
block_out s = eqb (get_or s 1 0) 0 || leb 16 (get_or s 1 0)

-- row 2, "A1 block size 0 or over 15"
abbrev pub bad_block : List ℕ → Bool
bad_block s = is_accept s && block_out s

-- row 12, "data out of place": its number is not the expected one
abbrev pub out_of_place : Channel → List ℕ → Bool
out_of_place ch s = is_data s && not (eqb (number_in s) ch.receiver.at.expected)

-- "how far it lies ahead, modulo 16, of the oldest unacknowledged frame": 15 is -1 modulo 16
unfoldable pub ahead : Channel → List ℕ → ℕ
ahead ch s = (number_in s + 15 * ch.sender.oldest) % 16

-- ".. beyond that range": "the number of unacknowledged frames of this block ever handed over"
abbrev pub is_beyond : Channel → List ℕ → Bool
is_beyond ch s = ltb (ch.sender.high - ch.sender.acked) (ahead ch s)

-- "no message is in sending"
abbrev pub no_message : Channel → Bool
no_message ch = eqb ch.sender.length 0

-- "data is held"
abbrev pub is_holding : Channel → Bool
is_holding ch = ltb 0 ch.sender.hold

-- row 12, "an Ack that changes nothing": with no message, during a hold, "Distance 0 with RS 1", or with "a distance beyond that range"
abbrev pub changes_nothing : Channel → List ℕ → Bool
changes_nothing ch s =
    is_ack s && (no_message ch || is_holding ch || eqb (ahead ch s) 0 && is_ready s || is_beyond ch s)

-- row 8 by an Ack with RS 0: "distance 0 adds one to the count, with the same limit"
abbrev pub not_ready_too_often : Channel → List ℕ → Bool
not_ready_too_often ch s =
    is_ack s && eqb (ahead ch s) 0 && not (is_ready s)
    && ltb ch.parameters.terms.repeats (ch.sender.count + 1)

-- "A frame with the expected number"
abbrev pub is_in_order : Channel → List ℕ → Bool
is_in_order ch s = is_data s && eqb (number_in s) ch.receiver.at.expected

-- a complete message waits untaken
abbrev pub is_waiting : Channel → Bool
is_waiting ch = ltb 0 ch.receiver.complete.length

-- row 5, "in-order data while one waits untaken"
abbrev pub waits_untaken : Channel → List ℕ → Bool
waits_untaken ch s = is_in_order ch s && is_waiting ch

-- "thrown away .. up to and including the next EOM"
unfoldable pub throws_away : Channel → Bool
throws_away ch = ch.receiver.at.discarding

-- in-order data that is not thrown away, which rows 7 and 9 judge: "Frames thrown away need no buffer"
abbrev pub is_judged : Channel → List ℕ → Bool
is_judged ch s = is_in_order ch s && not (throws_away ch)

-- the next data is a message's first: none is begun
abbrev pub is_at_first : Channel → Bool
is_at_first ch = eqb ch.receiver.at.begun.length 0

-- the declared length of the message that data belongs to: "Two length bytes, high first"; "The reader now takes the low 12 bits as length" (02, request 1)
abbrev pub declared : Channel → List ℕ → ℕ
declared ch s = if is_at_first ch then 256 * (get_or s 1 0 % 16) + get_or s 2 0 else ch.receiver.at.begun.length

-- its flags: "on the unit's first frame the high nibble of that byte holds flags" (02, request 1), and a later frame's are those of the message begun
abbrev pub flags_of : Channel → List ℕ → ℕ
flags_of ch s = if is_at_first ch then get_or s 1 0 / 16 else ch.receiver.at.begun.flags

-- that message
abbrev pub message_of : Channel → List ℕ → Message
message_of ch s = record { length = declared ch s; flags = flags_of ch s }

-- the message's bytes with those of this data: "length bytes left out"
abbrev pub reached : Channel → List ℕ → ℕ
reached ch s = if is_at_first ch then length s - 3 else ch.receiver.at.fill + (length s - 1)

-- row 7, "lent buffer shorter than the declared length", "a later frame"
abbrev pub short_later : Channel → List ℕ → (room : ℕ) → Bool
short_later ch s room = is_judged ch s && not (is_at_first ch) && ltb room (declared ch s)

-- row 9, "broken at the first of: a first frame of 2 bytes; declared length 0 or over 1,024; bytes beyond the declared length; no EOM though the bytes have reached it; EOM with too few"; "Lengths 0 and 1,025 to 4,095 stay answer 9" (02, request 1)
abbrev pub broken : (limit : ℕ) → Channel → List ℕ → Bool
broken limit ch s =
    is_judged ch s
    && (is_at_first ch && eqb (length s) 2
    || is_at_first ch && (eqb (declared ch s) 0 || ltb limit (declared ch s))
    || ltb (declared ch s) (reached ch s)
    || not (is_last s) && leb (declared ch s) (reached ch s)
    || is_last s && ltb (reached ch s) (declared ch s))

-- row 7, "a first frame"
abbrev pub short_first : Channel → List ℕ → (room : ℕ) → Bool
short_first ch s room = is_judged ch s && is_at_first ch && ltb room (declared ch s)

-- ---- a frame arrives: what is left

-- "an Ack due with the number now expected .. a newer due Ack replaces an older. It says ready, except while a complete message waited untaken before the frame came"
abbrev pub ack_then : Channel → (asks : Bool) → (expected : ℕ) → AckDue
ack_then ch asks expected = if asks then record { due = true; ready = not (is_waiting ch); number = expected } else ch.receiver.ack

-- "nothing changes, except an asked-for Ack"; where one becomes due, a break returns to this place
abbrev pub asked_for_ack : Channel → List ℕ → Channel
asked_for_ack ch s =
    (let r = ch.receiver in
    let asks = is_data s && asks_ack s in
    on_receiver ch (record { at = r.at; back = if asks then r.at else r.back; complete = r.complete; ack = ack_then ch asks r.at.expected }))

-- a frame that is numbered leaves the next number expected, the message begun with its flags and its bytes so far, and a complete message or none;
-- a break returns to "where it stood when an Ack last became due or a message last ended, whichever is later"
abbrev pub numbered_by : Channel → List ℕ → (discarding : Bool) → (begun : Message) → (fill : ℕ) → (complete : Message) → Receiver
numbered_by ch s discarding begun fill complete =
    (let r = ch.receiver in
    let expected = (r.at.expected + 1) % 16 in
    let standing : Standing = record { expected = expected; discarding = discarding; begun = begun; fill = fill } in
    record {
      at = standing;
      back = if asks_ack s || is_last s then standing else r.back;
      complete = complete;
      ack = ack_then ch (asks_ack s) expected;
    })

-- the receiving half after data that is "thrown away", and "if it had no EOM, the following .. up to and including the next EOM"
abbrev pub thrown : Channel → List ℕ → Receiver
thrown ch s = numbered_by ch s (not (is_last s)) none_received 0 ch.receiver.complete

-- "thrown away": "That frame is numbered and writes nothing"
abbrev pub thrown_away : Channel → List ℕ → Channel
thrown_away ch s = on_receiver ch (thrown ch s)

-- an Ack "from 1 up to the number of unacknowledged frames .. acknowledges that many", of a message in sending and with no hold
abbrev pub acknowledges : Channel → List ℕ → Bool
acknowledges ch s =
    is_ack s && not (no_message ch) && not (is_holding ch) && not (eqb (ahead ch s) 0) && not (is_beyond ch s)

-- as many frames of seven carry n bytes behind two length bytes: all of these, and no frame more
unfoldable pub carried_by : (n frames : ℕ) → Bool
carried_by n frames = leb (n + 2) (7 * frames) && ltb (7 * frames) (n + 9)

-- "The message is done when its last frame is acknowledged, and the answer to that Ack says so"
abbrev pub finishes : Channel → List ℕ → Bool
finishes ch s = acknowledges ch s && carried_by ch.sender.length (ch.sender.acked + ahead ch s)

-- RS 0: "data is held for T_WAIT"
abbrev pub holds_for : Channel → List ℕ → ℕ
holds_for ch s = if is_ready s then 0 else ch.parameters.terms.t_wait

-- the sending half after an Ack that is used: of distance 0, which "adds one to the count"; of the last frame; or of others, the Ack's number being that of the oldest unacknowledged frame then
abbrev pub sending_after : Channel → List ℕ → Sender
sending_after ch s =
    (let t = ch.sender in
    if eqb (ahead ch s) 0 then
    record { length = t.length; acked = t.acked; high = t.high; next = t.acked; oldest = t.oldest; count = t.count + 1; wait = 0; hold = holds_for ch s; gap = t.gap }
    else if finishes ch s then
    record { length = 0; acked = 0; high = 0; next = 0; oldest = number_in s; count = 0; wait = 0; hold = holds_for ch s; gap = t.gap }
    else
    record { length = t.length; acked = t.acked + ahead ch s; high = t.high; next = t.acked + ahead ch s; oldest = number_in s; count = 0; wait = 0; hold = holds_for ch s; gap = t.gap })

-- the receiving half after data that is thrown away, completes its message, or goes into it
abbrev pub receiving_after : Channel → List ℕ → Receiver
receiving_after ch s =
    if throws_away ch then thrown ch s
    else if is_last s then numbered_by ch s false none_received 0 (message_of ch s)
    else numbered_by ch s false (message_of ch s) (reached ch s) ch.receiver.complete

-- "the receiver returns to where it stood ..; a complete message stays, a taken one stays taken", and a message begun there has its own flags again
abbrev pub break_returns : Receiver → Receiver
break_returns r = record { at = r.back; back = r.back; complete = r.complete; ack = r.ack }

-- the tests with their interval from its start: "after the test interval without a frame handed over or answered 0"
abbrev pub interval_anew : Channel → Tests
interval_anew ch =
    (let t = ch.tests in
    record { out = t.out; again = t.again; wait = t.wait; unanswered = t.unanswered; interval = ch.parameters.interval })

-- an A1 answers a test: no test is out or due, and it "sets the unanswered count to 0"
abbrev pub test_answered : Channel → Tests
test_answered ch = record { out = false; again = false; wait = 0; unanswered = 0; interval = ch.parameters.interval }

-- an open channel after a telegram answered 0: each half by its own kinds, "our A1 .. becomes due" by a test, and the interval starts again
abbrev pub channel_after : Channel → List ℕ → Channel
channel_after ch s =
    channel_of ch
    (if is_ack s then sending_after ch s else ch.sender)
    (if is_data s then receiving_after ch s else if is_break s then break_returns ch.receiver else ch.receiver)
    (if is_accept s then test_answered ch else interval_anew ch)
    (is_test s || ch.accept)

-- the buffer with the bytes p from a place on, "and nothing else in the buffer changes"
abbrev pub written_at : (at : ℕ) → (p b : List ℕ) → List ℕ
written_at at p b = take at b ++ (p ++ drop (at + length p) b)

-- the buffer after a frame answered 0: data that is not thrown away is copied "behind what already stands there, length bytes left out"
abbrev pub buffer_after : Channel → List ℕ → (b : List ℕ) → List ℕ
buffer_after ch s b =
    if not (is_judged ch s) then b
    else if is_at_first ch then written_at 0 (drop 3 s) b
    else written_at ch.receiver.at.fill (drop 1 s) b

-- ---- settings

-- "a setting outside is answer 10, an ID in a reply answer 1" (02, request 10): below a range's least number or above its most
unfoldable pub is_outside : Range → ℕ → Bool
is_outside r n = ltb n r.least || ltb r.most n

-- "a T_WAIT not strictly between our own T3 and T1 settings is answer 10" (02, request 10), where the profile bounds it
unfoldable pub wait_out : Profile → Settings → Bool
wait_out p s = p.bounded && (leb s.t_wait (tenths s.t3) || leb (tenths s.t1) s.t_wait)

-- row 10, "a setting out of range": receive ID and unit as the profile has them, block size 1..15, T1's scale not 0, T_E 1..10,000, T_WAIT from 1; T3 not below the profile's least ("as is a T3 setting below 10 ms"); the others are free in their widths
unfoldable pub in_range_of : Profile → Settings → Bool
in_range_of p s =
    not (is_outside p.receives s.receive) && not (is_outside p.units s.unit) && ltb 0 s.block && ltb s.block 16
    && ltb 0 (s.t1 % 64) && ltb 0 s.t_e && ltb s.t_e 10001 && ltb 0 s.t_wait
    && not (ltb (tenths s.t3) p.least_t3) && not (wait_out p s)

-- ---- time passes

-- a timer that runs ends within n tenths
abbrev pub runs_out : (timer n : ℕ) → Bool
runs_out timer n = ltb 0 timer && leb timer n

-- row 8, "repeats .. used up": "if the count would exceed the allowed repeats"
abbrev pub repeats_used_up : Channel → ℕ → Bool
repeats_used_up ch n =
    runs_out ch.sender.wait n && ltb ch.parameters.terms.repeats (ch.sender.count + 1)

-- row 8, "tests used up": "if the count would exceed the allowance"
abbrev pub tests_used_up : Channel → ℕ → Bool
tests_used_up ch n =
    runs_out ch.tests.wait n && ltb ch.parameters.allowed (ch.tests.unanswered + 1)

-- one more where a timer ran out
abbrev pub one_more : Bool → ℕ → ℕ
one_more out n = if out then n + 1 else n

-- the tests n tenths later: "a wait that runs out adds one and makes another test due"
abbrev pub tests_after : Tests → ℕ → Tests
tests_after t n =
    (let out = runs_out t.wait n in
    record { out = t.out; again = out || t.again; wait = t.wait - n; unanswered = one_more out t.unanswered; interval = t.interval - n })

-- the sending half n tenths later: "A wait that runs out adds one to the repeat count and sends again from the oldest unacknowledged frame"
abbrev pub sending_later : Sender → ℕ → Sender
sending_later s n =
    (let out = runs_out s.wait n in
    let next = if out then s.acked else s.next in
    record { length = s.length; acked = s.acked; high = s.high; next = next; oldest = s.oldest; count = one_more out s.count; wait = s.wait - n; hold = s.hold - n; gap = s.gap - n })

-- "All timers that end in one time call take effect"
abbrev pub channel_later : Channel → ℕ → Channel
channel_later ch n = channel_of ch (sending_later ch.sender n) ch.receiver (tests_after ch.tests n) ch.accept

-- ---- what is due

-- a frame handed over, and the record then
abbrev pub hands : {A : Type 0} → (id : ℕ) → Payload → A → Option Frame × A
hands id p x = (Some (record { id = id; payload = p }), x)

-- no frame, and the record as it was
abbrev pub hands_none : {A : Type 0} → A → Option Frame × A
hands_none x = (None, x)

-- one byte: an Ack, A3 or A8
abbrev pub single : ℕ → Payload
single b = record { len = 1; bytes = b ∷ 0 ∷ 0 ∷ 0 ∷ 0 ∷ 0 ∷ 0 ∷ 0 ∷ [] }

-- "A0, block size, T1, FF, T3, FF", and "A1 with the same fields"
abbrev pub six_bytes : (code block t1 t3 : ℕ) → Payload
six_bytes code block t1 t3 = record { len = 6; bytes = code ∷ block ∷ t1 ∷ 0xFF ∷ t3 ∷ 0xFF ∷ 0 ∷ 0 ∷ [] }

-- the bytes s, and zeros behind them
abbrev pub zero_filled : List ℕ → Payload
zero_filled s = record { len = length s; bytes = s ++ replicate (8 - length s) 0 }

-- "With none out, a test goes out after the test interval .., and never while data is unacknowledged", an interval of 0 meaning no tests; or "another", after a wait that ran out
unfoldable pub test_due : Channel → Bool
test_due ch =
    leb ch.sender.high ch.sender.acked
    && (ch.tests.again || not ch.tests.out && not (eqb ch.parameters.interval 0) && eqb ch.tests.interval 0)

-- a test handed over "is out", and "waits T1"
abbrev pub test_out : Channel → Channel
test_out ch =
    (let t : Tests = record { out = true; again = false; wait = ch.parameters.terms.t1; unanswered = ch.tests.unanswered; interval = ch.parameters.interval } in
    channel_of ch ch.sender ch.receiver t ch.accept)

-- our A1 handed over
abbrev pub accept_out : Channel → Channel
accept_out ch = channel_of ch ch.sender ch.receiver (interval_anew ch) false

-- the due Ack handed over
abbrev pub ack_out : Channel → Channel
ack_out ch =
    (let r = ch.receiver in
    let none : AckDue = record { due = false; ready = false; number = 0 } in
    channel_of ch ch.sender (record { at = r.at; back = r.back; complete = r.complete; ack = none }) (interval_anew ch) ch.accept)

-- the due Ack's byte: "1 0 RS 1 number"
abbrev pub ack_byte : AckDue → ℕ
ack_byte a = (if a.ready then 0xB0 else 0x90) + a.number % 16

-- "with it over, and no wait for an Ack or hold running, the next frame of the message in sending is due": the frames before it leave some of the message and its two length bytes
unfoldable pub data_due : Sender → Bool
data_due s =
    not (eqb s.length 0) && eqb s.wait 0 && eqb s.hold 0 && eqb s.gap 0 && ltb (7 * s.next) (s.length + 2)

-- "EOM on the last": the frame behind k others of a message of n bytes
unfoldable pub is_end : (n k : ℕ) → Bool
is_end n k = carried_by n (k + 1)

-- "AR on every frame whose place in the message (from 1) is a multiple of the block size, and on the last"
unfoldable pub with_ar : (block n k : ℕ) → Bool
with_ar block n k = eqb (block * ((k + 1) / block)) (k + 1) || is_end n k

-- a first byte: "00, AR, EOM, number (4 bits); AR 0 asks for an Ack"
unfoldable pub first_byte : (asks last : Bool) → (number : ℕ) → ℕ
first_byte asks last number = (if last then 0x10 else 0x00) + (if asks then 0x00 else 0x20) + number

-- "Two length bytes, high first, then the message, cut in sevens": the next of them behind its first byte, with its number counting on from the oldest unacknowledged frame's; "the writer still sends flags 0" (02, request 1)
abbrev pub data_of : Channel → (m : List ℕ) → Payload
data_of ch m =
    (let s = ch.sender in
    zero_filled
    (first_byte (with_ar ch.parameters.terms.block s.length s.next) (is_end s.length s.next) ((s.oldest + 15 * s.acked + s.next) % 16)
    ∷ take 7 (drop (7 * s.next) (length m / 256 % 16 ∷ length m % 256 ∷ m))))

-- data handed over: "At least the peer's T3 lies between data frames, running from each hand-over"; "After the frame with AR the sender waits its own T1"; the frames ever handed over are counted
abbrev pub data_out : Channel → Channel
data_out ch =
    (let s = ch.sender in
    let t = ch.parameters.terms in
    let ever = if ltb s.next s.high then s.high else s.next + 1 in
    let wait = if with_ar t.block s.length s.next then t.t1 else 0 in
    let out : Sender = record { length = s.length; acked = s.acked; high = ever; next = s.next + 1; oldest = s.oldest; count = s.count; wait = wait; hold = s.hold; gap = t.t3 } in
    channel_of ch out ch.receiver (interval_anew ch) ch.accept)

-- ---- send and take

-- a message of n bytes in sending, from its first frame on; its first frame's number is the next one, and a hold or T3 left from before goes on
abbrev pub message_accepted : Sender → (n : ℕ) → Sender
message_accepted s n = record { length = n; acked = 0; high = 0; next = 0; oldest = s.oldest; count = 0; wait = 0; hold = s.hold; gap = s.gap }

-- the receiving half once its message is taken
abbrev pub message_taken : Receiver → Receiver
message_taken r = record { at = r.at; back = r.back; complete = none_received; ack = r.ack }
