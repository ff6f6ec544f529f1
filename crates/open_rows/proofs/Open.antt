-- The rows that an open channel meets, call by call and in the order of 01, whatever record the channel is part of: what is left
-- is told by what becomes of that record. An open end says and leaves what they tell: Arrival.antt, Calls.antt.
use Rattle.std.specs.Prelude.{if◌then◌else◌}
use Prim.Native.Nat.{ℕ}
use mathlib.Core.Bool.{Bool, false, not, ◌&&◌, ◌||◌}
use mathlib.Core.List.{List}
use lib.ListN.{length}
use lib.Dec.{ltb, eqb}
use Rattle.std.specs.declared.option.Option.{Option}
use Rattle.channel.specs.declared.Channel.{Channel}
use Rattle.open_end.specs.declared.Frame.{Frame}
use Rattle.open_rows.specs.Tables.{plain, row, Table, always, ◌or_else◌}
use Rattle.open_rows.specs.Records.{on_sender, on_receiver}
use Rattle.open_rows.specs.Rows.{is_telegram, is_setup, is_disconnect, is_padded, no_test_out, bad_block, out_of_place, changes_nothing, not_ready_too_often, no_message, is_waiting, waits_untaken, short_later, broken, short_first, asked_for_ack, thrown_away, finishes, channel_after, buffer_after, repeats_used_up, tests_used_up, channel_later, hands, hands_none, single, six_bytes, test_due, test_out, accept_out, ack_out, ack_byte, data_due, data_of, data_out, message_accepted, message_taken}

-- what becomes of a record with an open channel: it goes on with another channel, or is closed, with nothing or with one A8 due
pub record Ways (A : Type 0) : Type 0 where
  pub goes_on : Channel → A
  pub given_up : A
  pub leaves : A

module _ {A : Type 0} (w : Ways A) where
  -- "Order on arrival: .. 1, 4, 2, 12, 5, 7 (a later frame), 9, 7 (a first frame)"; every A0 is not due, and 8 comes of an Ack that is not refused
  abbrev pub arrival_rows : (limit : ℕ) → Channel → (s b : List ℕ) → Table (Bool × A × List ℕ)
  arrival_rows limit ch s b =
      row (not (is_telegram s)) 1 (false, w.goes_on ch, b)
      or_else row (is_setup s || no_test_out ch s) 4 (is_padded s, w.goes_on ch, b)
      or_else row (bad_block s) 2 (is_padded s, w.goes_on ch, b)
      or_else row (out_of_place ch s || changes_nothing ch s) 12 (is_padded s, w.goes_on (asked_for_ack ch s), b)
      or_else row (not_ready_too_often ch s) 8 (is_padded s, w.given_up, b)
      or_else row (waits_untaken ch s) 5 (false, w.goes_on (asked_for_ack ch s), b)
      or_else row (short_later ch s (length b)) 7 (false, w.goes_on ch, b)
      or_else row (broken limit ch s) 9 (false, w.goes_on (thrown_away ch s), b)
      or_else row (short_first ch s (length b)) 7 (false, w.goes_on (thrown_away ch s), b)
      or_else always (record { number = 0; done = finishes ch s; opcode = 0 })
      (is_padded s, if is_disconnect s then w.leaves else w.goes_on (channel_after ch s), buffer_after ch s b)

  -- time passes: 0, or 8
  abbrev pub time_rows : Channel → ℕ → Table A
  time_rows ch n =
      row (repeats_used_up ch n || tests_used_up ch n) 8 w.given_up
      or_else always (plain 0) (w.goes_on (channel_later ch n))

  -- "Sending order .. CA and test, break, Ack, then data": what is due goes out on the transmit ID; row 7, "only when the frame to hand over is data"
  abbrev pub due_rows : (transmit : ℕ) → Channel → (m : List ℕ) → Table (Option Frame × A)
  due_rows transmit ch m =
      (let own = ch.parameters.own in
      row ch.accept 0 (hands transmit (six_bytes 0xA1 own.block own.t1 own.t3) (w.goes_on (accept_out ch)))
      or_else row (test_due ch) 0 (hands transmit (single 0xA3) (w.goes_on (test_out ch)))
      or_else row ch.receiver.ack.due 0 (hands transmit (single (ack_byte ch.receiver.ack)) (w.goes_on (ack_out ch)))
      or_else row (data_due ch.sender && not (eqb (length m) ch.sender.length)) 7 (hands_none (w.goes_on ch))
      or_else row (data_due ch.sender) 0 (hands transmit (data_of ch m) (w.goes_on (data_out ch)))
      or_else always (plain 0) (hands_none (w.goes_on ch)))

  -- "Sending: .. 5, 6"
  abbrev pub send_rows : (limit : ℕ) → Channel → (n : ℕ) → Table A
  send_rows limit ch n =
      row (not (no_message ch)) 5 (w.goes_on ch)
      or_else row (eqb n 0 || ltb limit n) 6 (w.goes_on ch)
      or_else always (plain 0) (w.goes_on (on_sender ch (message_accepted ch.sender n)))

  -- "Take: .. 5, 7"
  abbrev pub take_rows : Channel → (room : ℕ) → Table (ℕ × ℕ × A)
  take_rows ch room =
      (let m = ch.receiver.complete in
      row (not (is_waiting ch)) 5 (0, 0, w.goes_on ch)
      or_else row (ltb room m.length) 7 (0, 0, w.goes_on ch)
      or_else always (plain 0) (m.length, m.flags, w.goes_on (on_receiver ch (message_taken ch.receiver))))
