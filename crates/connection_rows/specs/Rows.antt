-- 01, "Numbers we answer with": each call's rows in the order of 01, in TP 2.0 and in TP 1.6 (02, request 10). What they ask and what they leave is
-- written from the record's fields, those of its profile too, numbers and bytes, apart from the definitions that the promises cite: of those only the calls are named here.
-- What belongs to an open channel stands in crates/open_rows. proofs/Rows.antt proves that each call says and leaves what its table tells.
use Rattle.std.specs.Prelude.{ℕ, ◌+◌, ◌-◌, ◌/◌, ◌%◌, Bool, true, false, not, ◌&&◌, ◌||◌, List, [], ◌∷◌, length, get_or, ltb, leb, eqb, if◌then◌else◌}
use Rattle.std.specs.declared.option.Option.{Option}
use Rattle.telegram.specs.declared.payload.Payload.{Payload}
use Rattle.profile.specs.declared.Profile.{Profile}
use Rattle.settings.specs.declared.Settings.{Settings}
use Rattle.open_end.specs.declared.Frame.{Frame}
use Rattle.open_end.specs.declared.answers.Said.{Said}
use Rattle.open_rows.specs.Tables.{plain, row, Table, always, ◌or_else◌}
use Rattle.open_rows.specs.Records.{on_sender, on_receiver}
use Rattle.open_rows.specs.Rows.{is_test, is_break, is_telegram, is_disconnect, is_setup, is_accept, is_padded, id_of, no_test_out, bad_block, out_of_place, changes_nothing, not_ready_too_often, no_message, is_waiting, waits_untaken, short_later, broken, short_first, asked_for_ack, thrown_away, finishes, channel_after, buffer_after, is_outside, in_range_of, runs_out, repeats_used_up, tests_used_up, one_more, channel_later, hands, hands_none, single, six_bytes, test_due, test_out, accept_out, ack_out, ack_byte, data_due, data_of, data_out, message_accepted, message_taken}
use Rattle.connection.specs.declared.attempt.Attempt.{Attempt}
use Rattle.connection.specs.declared.Connection.{Connection}
use Rattle.connection.specs.Calls.{opening_as, opening, arrived, buffered, elapsed, due_of, sent_by, taken_by, closed}
use Rattle.connection_rows.specs.Records.{is_closed, is_requesting, is_agreeing, is_open, closed_record, leaving_on, asking, opened_by, on_attempt, on_channel}

-- ---- the replies to a C0, by their bytes

-- "7 bytes: 00, .."; in TP 1.6 "a fixed length of 3 data bytes" (001, 5.1)
unfoldable pub is_reply : Profile → List ℕ → Bool
is_reply p s = eqb (length s) (if p.short then 3 else 7) && eqb (get_or s 0 0) 0x00

-- D6, D7, D8: "of these only length, byte 0 and opcode are checked"; "negative reply D8 only" in TP 1.6
unfoldable pub is_refusal : Profile → List ℕ → Bool
is_refusal p s = is_reply p s && (leb (if p.short then 0xD8 else 0xD6) (get_or s 1 0) && leb (get_or s 1 0) 0xD8)

-- what seven bytes hold beside a transmit ID's: ".. our receive ID low and high, our transmit ID low and high, 01"; "bits 2-0 belong to the ID", and the other bits of the high bytes are 0
unfoldable pub rest_in_form : (receive : ℕ) → List ℕ → Bool
rest_in_form receive s = ltb (get_or s 3 0) 8 && eqb (id_of (get_or s 2 0) (get_or s 3 0)) receive && ltb (get_or s 5 0) 8 && eqb (get_or s 6 0) 0x01

-- the transmit ID that a D0 names: "The Channel ID (ChId) is added to the Channel offset" (001, 5.1.2.4)
unfoldable pub named_id : Profile → List ℕ → ℕ
named_id p s = p.offset + (if p.short then get_or s 2 0 else id_of (get_or s 4 0) (get_or s 5 0))

-- D0, with that ID in the profile's range
unfoldable pub is_positive : Profile → (receive : ℕ) → List ℕ → Bool
is_positive p receive s = is_reply p s && eqb (get_or s 1 0) 0xD0 && (p.short || rest_in_form receive s) && not (is_outside p.transmits (named_id p s))

-- ---- a frame arrives: the conditions

-- row 3, "another CAN ID": "0x200 + unit until D0, then our receive ID", the profile saying which number stands for 0x200
unfoldable pub other_id : Connection → ℕ → Bool
other_id c id = not (eqb id (if is_requesting c then c.profile.reply + c.settings.unit else c.end.receive))

-- "no test .. and no break": "A3 and A4 are answer 1 there" (02, request 10), at 8 bytes too
unfoldable pub is_missing : Profile → List ℕ → Bool
is_missing p s = (is_test s || is_break s) && not p.tests

-- row 1, "badly formed": while the D0 is awaited no reply, and then no telegram, or one that the profile does not have
abbrev pub bad_form : Connection → List ℕ → Bool
bad_form c s =
    (let p = c.profile in
    if is_requesting c then not (is_refusal p s || is_positive p c.settings.receive s) else is_missing p s || not (is_telegram s))

-- "A reply before its request was ever handed over gives 4"
abbrev pub too_early : Connection → List ℕ → Bool
too_early c s = (is_requesting c || is_agreeing c && is_accept s) && not c.attempt.asked

-- "While A1 is awaited, only A1 and A8 are due kinds"
abbrev pub not_awaited : Connection → List ℕ → Bool
not_awaited c s = is_agreeing c && not (is_accept s || is_disconnect s)

-- row 4, "kind .. not due in this state (every A0 ..)"
abbrev pub kind_not_due : Connection → List ℕ → Bool
kind_not_due c s = too_early c s || not_awaited c s || is_setup s || is_open c && no_test_out c.end.channel s

-- row 11, "D6, D7 or D8"
abbrev pub refused : Connection → List ℕ → Bool
refused c s = is_requesting c && is_refusal c.profile s

-- ---- a frame arrives: what is left

-- the record after a frame answered 0: the D0's transmit ID, a disconnect, the A1 that opens, or a telegram on the open channel
abbrev pub record_after : Connection → List ℕ → Connection
record_after c s =
    if is_requesting c then asking 2 c.profile c.settings (named_id c.profile s) c.settings.receive
    else if is_disconnect s then leaving_on c.end.transmit
    else if is_agreeing c then opened_by c (get_or s 1 0) (get_or s 4 0)
    else on_channel c (channel_after c.end.channel s)

-- ---- the tables

-- "Order on arrival: 4 if closed, then 3, 1, 4, 2, 12, 5, 7 (a later frame), 9, 7 (a first frame)"; 11 comes of a reply that is due, and 8 of an Ack that is not refused;
-- every answer "but 1, 3 and a closed record's 4, carries that mark on" (02, request 4), and those to data and to a reply have none
abbrev pub arrival_table : (limit : ℕ) → Connection → (id : ℕ) → (s b : List ℕ) → Table (Bool × Connection × List ℕ)
arrival_table limit c id s b =
    (let ch = c.end.channel in
    row (is_closed c) 4 (false, c, b)
    or_else row (other_id c id) 3 (false, c, b)
    or_else row (bad_form c s) 1 (false, c, b)
    or_else row (kind_not_due c s) 4 (is_padded s, c, b)
    or_else row (bad_block s) 2 (is_padded s, c, b)
    or_else record { holds = refused c s; says = record { number = 11; done = false; opcode = get_or s 1 0 }; leaves = (false, closed_record, b) }
    or_else row (is_open c && (out_of_place ch s || changes_nothing ch s)) 12 (is_padded s, on_channel c (asked_for_ack ch s), b)
    or_else row (is_open c && not_ready_too_often ch s) 8 (is_padded s, closed_record, b)
    or_else row (is_open c && waits_untaken ch s) 5 (false, on_channel c (asked_for_ack ch s), b)
    or_else row (is_open c && short_later ch s (length b)) 7 (false, c, b)
    or_else row (is_open c && broken limit ch s) 9 (false, on_channel c (thrown_away ch s), b)
    or_else row (is_open c && short_first ch s (length b)) 7 (false, on_channel c (thrown_away ch s), b)
    or_else always (record { number = 0; done = is_open c && finishes ch s; opcode = 0 })
    (is_padded s, record_after c s, if is_open c then buffer_after ch s b else b))

-- what an arrival says and leaves, lent the buffer b: the number with what it carries, the mark, the record and the buffer
abbrev pub arrive_says : (limit : ℕ) → Connection → (id : ℕ) → (s b : List ℕ) → Said × (Bool × Connection × List ℕ)
arrive_says limit c id s b =
    (let r = arrived limit c id s (length b) in
    (r.told.said, (r.padded, r.left, buffered limit c id s b)))

-- ---- open

-- "Open: 4 if not closed, then 10", by the ranges of the profile that it names
abbrev pub open_table : Connection → Profile → Settings → Table Connection
open_table c p s =
    row (not (is_closed c)) 4 c
    or_else row (not (in_range_of p s)) 10 c
    or_else always (plain 0) (asking 1 p s 0 0)

-- what an open in a profile says and leaves
abbrev pub open_as_says : Connection → Profile → Settings → Said × Connection
open_as_says c p s = ((opening_as c p s).told.said, (opening_as c p s).left)

-- what an open that names none says and leaves
abbrev pub open_says : Connection → Settings → Said × Connection
open_says c s = ((opening c s).told.said, (opening c s).left)

-- ---- time passes

-- row 8, "opening repeats .. used up": a phase "repeats while its own repeats are below MNTC"
abbrev pub opening_used_up : Connection → ℕ → Bool
opening_used_up c n =
    (is_requesting c || is_agreeing c) && runs_out c.attempt.wait n && not (ltb c.attempt.repeats c.settings.mntc)

-- a request while a reply is awaited, n tenths later: a wait that runs out makes a repeat due
abbrev pub attempt_after : Attempt → ℕ → Attempt
attempt_after a n =
    (let out = runs_out a.wait n in
    record { due = out || a.due; asked = a.asked; wait = a.wait - n; repeats = one_more out a.repeats })

-- "All timers that end in one time call take effect"
abbrev pub record_later : Connection → ℕ → Connection
record_later c n =
    if is_closed c then c
    else if is_requesting c || is_agreeing c then on_attempt c (attempt_after c.attempt n)
    else on_channel c (channel_later c.end.channel n)

-- "Time and due calls are good in every state": 0, or 8
abbrev pub time_table : Connection → ℕ → Table Connection
time_table c n =
    row (opening_used_up c n || is_open c && (repeats_used_up c.end.channel n || tests_used_up c.end.channel n)) 8 closed_record
    or_else always (plain 0) (record_later c n)

-- what a time call says and leaves
abbrev pub time_says : Connection → ℕ → Said × Connection
time_says c n = ((elapsed c n).told.said, (elapsed c n).left)

-- ---- what is due

-- "7 bytes: unit, C0, 00, 10, receive ID low, receive ID high, 01"; in TP 1.6 three: unit, C0, "lower 8 bits of the CAN ID" (001, 5.1)
abbrev pub c0 : Profile → Settings → Payload
c0 p s =
    if p.short then record { len = 3; bytes = s.unit ∷ 0xC0 ∷ s.receive % 256 ∷ 0 ∷ 0 ∷ 0 ∷ 0 ∷ 0 ∷ [] }
    else record { len = 7; bytes = s.unit ∷ 0xC0 ∷ 0x00 ∷ 0x10 ∷ s.receive % 256 ∷ s.receive / 256 % 8 ∷ 0x01 ∷ 0 ∷ [] }

-- "waits T_E from each hand-over"
abbrev pub request_out : Connection → Connection
request_out c = on_attempt c (record { due = false; asked = true; wait = c.settings.t_e; repeats = c.attempt.repeats })

-- "Sending order .. CA and test, break, Ack, then data, CS, DC. Ties (house): CA, test; DC, CS, data"; row 7, "lent message not of the accepted length", "only when the frame to hand over is data"
abbrev pub due_table : Connection → (m : List ℕ) → Table (Option Frame × Connection)
due_table c m =
    (let ch = c.end.channel in
    let own = ch.parameters.own in
    let ack = ch.receiver.ack in
    let set = c.settings in
    row (is_open c && ch.accept) 0 (hands c.end.transmit (six_bytes 0xA1 own.block own.t1 own.t3) (on_channel c (accept_out ch)))
    or_else row (is_open c && test_due ch) 0 (hands c.end.transmit (single 0xA3) (on_channel c (test_out ch)))
    or_else row (is_open c && ack.due) 0 (hands c.end.transmit (single (ack_byte ack)) (on_channel c (ack_out ch)))
    or_else row (is_closed c && c.leaving) 0 (hands c.end.transmit (single 0xA8) closed_record)
    or_else row (is_requesting c && c.attempt.due) 0 (hands c.profile.request (c0 c.profile set) (request_out c))
    or_else row (is_agreeing c && c.attempt.due) 0 (hands c.end.transmit (six_bytes 0xA0 set.block set.t1 set.t3) (request_out c))
    or_else row (is_open c && data_due ch.sender && not (eqb (length m) ch.sender.length)) 7 (hands_none c)
    or_else row (is_open c && data_due ch.sender) 0 (hands c.end.transmit (data_of ch m) (on_channel c (data_out ch)))
    or_else always (plain 0) (hands_none c))

-- what a due call says, hands over and leaves
abbrev pub due_says : Connection → (m : List ℕ) → Said × (Option Frame × Connection)
due_says c m = ((due_of c m).told.said, ((due_of c m).frame, (due_of c m).left))

-- ---- send, take and close

-- "Sending: 4, 5, 6": "send while a message is unfinished", "message to send empty or over 1,024"
abbrev pub send_table : (limit : ℕ) → Connection → (n : ℕ) → Table Connection
send_table limit c n =
    (let ch = c.end.channel in
    row (not (is_open c)) 4 c
    or_else row (not (no_message ch)) 5 c
    or_else row (eqb n 0 || ltb limit n) 6 c
    or_else always (plain 0) (on_channel c (on_sender ch (message_accepted ch.sender n))))

-- what a send says and leaves
abbrev pub send_says : (limit : ℕ) → Connection → (n : ℕ) → Said × Connection
send_says limit c n = ((sent_by limit c n).told.said, (sent_by limit c n).left)

-- "Take: 4, 5, 7": "take with none complete", "lent buffer shorter than the declared length"; what is shown has the declared length, and the reader "reports the four flags with the message" (02, request 1); a refusal shows and reports none
abbrev pub take_table : Connection → (room : ℕ) → Table (ℕ × ℕ × Connection)
take_table c room =
    (let ch = c.end.channel in
    let m = ch.receiver.complete in
    row (not (is_open c)) 4 (0, 0, c)
    or_else row (not (is_waiting ch)) 5 (0, 0, c)
    or_else row (ltb room m.length) 7 (0, 0, c)
    or_else always (plain 0) (m.length, m.flags, on_channel c (on_receiver ch (message_taken ch.receiver))))

-- what a take says, the length that it shows, the flags that it reports, and what it leaves
abbrev pub take_says : Connection → (room : ℕ) → Said × (ℕ × ℕ × Connection)
take_says c room = ((taken_by c room).told.said, ((taken_by c room).len, (taken_by c room).flags, (taken_by c room).left))

-- "any .. close on a closed record" gives 4; "leaves one A8 due if the transmit ID is known, else nothing"
abbrev pub close_table : Connection → Table Connection
close_table c =
    row (is_closed c) 4 c
    or_else always (plain 0) (if is_requesting c then closed_record else leaving_on c.end.transmit)

-- what a close says and leaves
abbrev pub close_says : Connection → Said × Connection
close_says c = ((closed c).told.said, (closed c).left)
