-- 02, request 5, "The car's side for the bench", with 01, "Numbers we answer with": each call's rows in their order. What they ask
-- and what they leave is written from the record's fields, numbers and bytes, apart from the definitions that the promises cite: of
-- those only the calls are named here. What belongs to an open channel stands in crates/open_rows.
use Rattle.std.specs.Prelude.{ℕ, ◌+◌, ◌/◌, ◌%◌, Bool, false, not, ◌&&◌, ◌||◌, List, [], ◌∷◌, length, get_or, ltb, leb, eqb, if◌then◌else◌}
use Rattle.std.specs.declared.option.Option.{Option}
use Rattle.telegram.specs.declared.payload.Payload.{Payload}
use Rattle.settings.specs.declared.Settings.{Settings}
use Rattle.open_end.specs.declared.Frame.{Frame}
use Rattle.open_end.specs.declared.answers.Said.{Said}
use Rattle.open_rows.specs.Tables.{plain, row, Table, always, ◌or_else◌}
use Rattle.open_rows.specs.Records.{tp20_numbers, on_sender, on_receiver}
use Rattle.open_rows.specs.Rows.{is_telegram, is_disconnect, is_setup, is_accept, is_padded, id_of, no_test_out, block_out, out_of_place, changes_nothing, not_ready_too_often, no_message, is_waiting, waits_untaken, short_later, broken, short_first, asked_for_ack, thrown_away, finishes, channel_after, buffer_after, in_range_of, repeats_used_up, tests_used_up, channel_later, hands, hands_none, single, six_bytes, test_due, test_out, accept_out, ack_out, ack_byte, data_due, data_of, data_out, message_accepted, message_taken}
use Rattle.unit.specs.declared.ControlUnit.{ControlUnit}
use Rattle.unit.specs.Calls.{set_to, arrived, buffered, elapsed, due_of, sent_by, taken_by, closed}
use Rattle.unit_rows.specs.Records.{is_closed, is_leaving, is_refusing, is_replying, is_accepting, is_open, closed_with, closed_record, leaving, asked, accepting, at_phase, on_channel}

-- ---- a frame arrives: the conditions

-- "It hears 0x200, closed or not"
abbrev pub on_request_id : ℕ → Bool
on_request_id id = eqb id 0x200

-- a well-formed C0, "7 bytes: unit, C0, 00, 10, receive ID low, receive ID high, 01"; "bits 2-0 belong to the ID", and the other bits of the high byte are 0
unfoldable pub is_request : List ℕ → Bool
is_request s =
    eqb (length s) 7 && eqb (get_or s 1 0) 0xC0 && eqb (get_or s 2 0) 0x00 && eqb (get_or s 3 0) 0x10 && ltb (get_or s 5 0) 8 && eqb (get_or s 6 0) 0x01

-- "one for another unit"
abbrev pub other_unit : ControlUnit → List ℕ → Bool
other_unit c s = not (eqb (get_or s 0 0) c.settings.unit)

-- a message in sending: one was accepted and is not done
abbrev pub in_sending : ControlUnit → Bool
in_sending c = is_open c && not (no_message c.end.channel)

-- row 3, "another CAN ID": on none but "its receive ID"
abbrev pub other_id : ControlUnit → ℕ → Bool
other_id c id = not (eqb id c.settings.receive)

-- "till then only A8 and, once the D0 is out, A0 are due kinds"
abbrev pub not_yet_due : ControlUnit → List ℕ → Bool
not_yet_due c s = not (is_open c) && not (is_disconnect s || is_setup s && not (is_replying c))

-- row 4, "kind .. not due in this state"; then an A1 "with no test out"
abbrev pub kind_not_due : ControlUnit → List ℕ → Bool
kind_not_due c s = not_yet_due c s || is_open c && no_test_out c.end.channel s

-- row 2, "A1 block size 0 or over 15": "A0 (row 2 covers it too)"
abbrev pub bad_block : List ℕ → Bool
bad_block s = (is_setup s || is_accept s) && block_out s

-- ---- a frame arrives: what is left

-- the record after a C0, whose receive ID is what this end transmits on
abbrev pub asked_with : ControlUnit → List ℕ → ControlUnit
asked_with c s = asked c (id_of (get_or s 4 0) (get_or s 5 0))

-- the record after an A0
abbrev pub accepting_with : ControlUnit → List ℕ → ControlUnit
accepting_with c s = accepting c (get_or s 1 0) (get_or s 4 0)

-- the record after another frame answered 0: a disconnect, an A0, or a telegram on the open channel
abbrev pub record_after : ControlUnit → List ℕ → ControlUnit
record_after c s =
    if is_disconnect s then leaving c
    else if is_setup s then accepting_with c s
    else on_channel c (channel_after c.end.channel s)

-- ---- the tables

-- on 0x200 "all but a well-formed C0 gives 1 there, one for another unit 3"; "A C0 or A0 that ends a message in sending is answered 8, its reply due";
-- then "4 if closed, then 3, 1, 4, 2", that 8 for an A0, and as on an open connection "12, 5, 7 (a later frame), 9, 7 (a first frame)";
-- every answer on the receive ID "but 1, 3 and a closed record's 4, carries that mark on" (02, request 4), and those to an A0 and to data have none
abbrev pub arrival_table : (limit : ℕ) → ControlUnit → (id : ℕ) → (s b : List ℕ) → Table (Bool × ControlUnit × List ℕ)
arrival_table limit c id s b =
    (let ch = c.end.channel in
    row (on_request_id id && not (is_request s)) 1 (false, c, b)
    or_else row (on_request_id id && other_unit c s) 3 (false, c, b)
    or_else row (on_request_id id && in_sending c) 8 (false, asked_with c s, b)
    or_else row (on_request_id id) 0 (false, asked_with c s, b)
    or_else row (is_closed c) 4 (false, c, b)
    or_else row (other_id c id) 3 (false, c, b)
    or_else row (not (is_telegram s)) 1 (false, c, b)
    or_else row (kind_not_due c s) 4 (is_padded s, c, b)
    or_else row (bad_block s) 2 (is_padded s, c, b)
    or_else row (is_setup s && in_sending c) 8 (false, accepting_with c s, b)
    or_else row (is_open c && (out_of_place ch s || changes_nothing ch s)) 12 (is_padded s, on_channel c (asked_for_ack ch s), b)
    or_else row (is_open c && not_ready_too_often ch s) 8 (is_padded s, closed_record c, b)
    or_else row (is_open c && waits_untaken ch s) 5 (false, on_channel c (asked_for_ack ch s), b)
    or_else row (is_open c && short_later ch s (length b)) 7 (false, c, b)
    or_else row (is_open c && broken limit ch s) 9 (false, on_channel c (thrown_away ch s), b)
    or_else row (is_open c && short_first ch s (length b)) 7 (false, on_channel c (thrown_away ch s), b)
    or_else always (record { number = 0; done = is_open c && finishes ch s; opcode = 0 })
    (is_padded s, record_after c s, if is_open c then buffer_after ch s b else b))

-- what an arrival says and leaves, lent the buffer b: the number with what it carries, the mark, the record and the buffer
abbrev pub arrive_says : (limit : ℕ) → ControlUnit → (id : ℕ) → (s b : List ℕ) → Said × (Bool × ControlUnit × List ℕ)
arrive_says limit c id s b =
    (let r = arrived limit c id s (length b) in
    (r.told.said, (r.padded, r.left, buffered limit c id s b)))

-- ---- set

-- "D0, D6, D7 or D8 as set"
abbrev pub is_reply : ℕ → Bool
is_reply opcode = eqb opcode 0xD0 || leb 0xD6 opcode && leb opcode 0xD8

-- 4 if not closed; row 10 by 01's ranges, which are TP 2.0's, by "its receive ID, which is never 0x200 (else 10)", and by any other reply; what was due is discarded
abbrev pub set_table : ControlUnit → Settings → (reply : ℕ) → Table ControlUnit
set_table c s reply =
    row (not (is_closed c)) 4 c
    or_else row (not (in_range_of tp20_numbers s) || eqb s.receive 0x200 || not (is_reply reply)) 10 c
    or_else always (plain 0) (closed_with s reply)

-- what a set says and leaves
abbrev pub set_says : ControlUnit → Settings → (reply : ℕ) → Said × ControlUnit
set_says c s reply = ((set_to c s reply).told.said, (set_to c s reply).left)

-- ---- time passes

-- "repeats .. or tests used up" on an open connection; till the A1's hand-over "nothing is timed"
abbrev pub time_table : ControlUnit → ℕ → Table ControlUnit
time_table c n =
    (let ch = c.end.channel in
    row (is_open c && (repeats_used_up ch n || tests_used_up ch n)) 8 (closed_record c)
    or_else always (plain 0) (if is_open c then on_channel c (channel_later ch n) else c))

-- what a time call says and leaves
abbrev pub time_says : ControlUnit → ℕ → Said × ControlUnit
time_says c n = ((elapsed c n).told.said, (elapsed c n).left)

-- ---- what is due

-- "The reply comes from 0x200 + unit"
abbrev pub reply_id : ControlUnit → ℕ
reply_id c = 0x200 + c.settings.unit

-- "7 bytes: 00, D0, our receive ID low and high, our transmit ID low and high, 01", in the asker's words, "all filled in like D0"
abbrev pub reply_bytes : ControlUnit → (opcode : ℕ) → Payload
reply_bytes c opcode =
    (let theirs = c.end.transmit in
    let ours = c.settings.receive in
    record { len = 7; bytes = 0x00 ∷ opcode ∷ theirs % 256 ∷ theirs / 256 % 8 ∷ ours % 256 ∷ ours / 256 % 8 ∷ 0x01 ∷ 0 ∷ [] })

-- a closed unit's A8 or refusal; the D0, from whose hand-over it is out; "A1 of its own settings", from whose hand-over this end is open;
-- and then "Sending order .. CA and test, break, Ack, then data"; row 7, "only when the frame to hand over is data"
abbrev pub due_table : ControlUnit → (m : List ℕ) → Table (Option Frame × ControlUnit)
due_table c m =
    (let ch = c.end.channel in
    let own = ch.parameters.own in
    let ack = ch.receiver.ack in
    let set = c.settings in
    row (is_leaving c) 0 (hands c.end.transmit (single 0xA8) (closed_record c))
    or_else row (is_refusing c) 0 (hands (reply_id c) (reply_bytes c c.reply) (closed_record c))
    or_else row (is_replying c) 0 (hands (reply_id c) (reply_bytes c 0xD0) (at_phase c 4))
    or_else row (is_accepting c) 0 (hands c.end.transmit (six_bytes 0xA1 set.block set.t1 set.t3) (at_phase c 6))
    or_else row (is_open c && ch.accept) 0 (hands c.end.transmit (six_bytes 0xA1 own.block own.t1 own.t3) (on_channel c (accept_out ch)))
    or_else row (is_open c && test_due ch) 0 (hands c.end.transmit (single 0xA3) (on_channel c (test_out ch)))
    or_else row (is_open c && ack.due) 0 (hands c.end.transmit (single (ack_byte ack)) (on_channel c (ack_out ch)))
    or_else row (is_open c && data_due ch.sender && not (eqb (length m) ch.sender.length)) 7 (hands_none c)
    or_else row (is_open c && data_due ch.sender) 0 (hands c.end.transmit (data_of ch m) (on_channel c (data_out ch)))
    or_else always (plain 0) (hands_none c))

-- what a due call says, hands over and leaves
abbrev pub due_says : ControlUnit → (m : List ℕ) → Said × (Option Frame × ControlUnit)
due_says c m = ((due_of c m).told.said, ((due_of c m).frame, (due_of c m).left))

-- ---- send, take and close

-- "Sending: 4, 5, 6"
abbrev pub send_table : (limit : ℕ) → ControlUnit → (n : ℕ) → Table ControlUnit
send_table limit c n =
    (let ch = c.end.channel in
    row (not (is_open c)) 4 c
    or_else row (not (no_message ch)) 5 c
    or_else row (eqb n 0 || ltb limit n) 6 c
    or_else always (plain 0) (on_channel c (on_sender ch (message_accepted ch.sender n))))

-- what a send says and leaves
abbrev pub send_says : (limit : ℕ) → ControlUnit → (n : ℕ) → Said × ControlUnit
send_says limit c n = ((sent_by limit c n).told.said, (sent_by limit c n).left)

-- "Take: 4, 5, 7"; what is shown has the declared length, and the reader "reports the four flags with the message" (02, request 1); a refusal shows and reports none
abbrev pub take_table : ControlUnit → (room : ℕ) → Table (ℕ × ℕ × ControlUnit)
take_table c room =
    (let ch = c.end.channel in
    let m = ch.receiver.complete in
    row (not (is_open c)) 4 (0, 0, c)
    or_else row (not (is_waiting ch)) 5 (0, 0, c)
    or_else row (ltb room m.length) 7 (0, 0, c)
    or_else always (plain 0) (m.length, m.flags, on_channel c (on_receiver ch (message_taken ch.receiver))))

-- what a take says, the length that it shows, the flags that it reports, and what it leaves
abbrev pub take_says : ControlUnit → (room : ℕ) → Said × (ℕ × ℕ × ControlUnit)
take_says c room = ((taken_by c room).told.said, ((taken_by c room).len, (taken_by c room).flags, (taken_by c room).left))

-- "any .. close on a closed record" gives 4, and what is due stays; "leaves one A8 due"
abbrev pub close_table : ControlUnit → Table ControlUnit
close_table c =
    row (is_closed c) 4 c
    or_else always (plain 0) (leaving c)

-- what a close says and leaves
abbrev pub close_says : ControlUnit → Said × ControlUnit
close_says c = ((closed c).told.said, (closed c).left)
