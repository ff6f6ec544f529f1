-- A telegram that arrives at an open end: it says and leaves what `arrival_rows` tells.
use Rattle.std.specs.Prelude.{if◌then◌else◌}
use Prim.Native.Nat.{ℕ, ◌+◌, ◌-◌, ◌*◌, ◌/◌, ◌%◌, ◌≤◌, ◌<◌}
use native.Mathlib.Omega.{arith}
use mathlib.Core.Bool.{Bool, true, false, not, ◌&&◌, ◌||◌, or-false}
use mathlib.Core.List.{List}
use mathlib.Core.Path.{◌≡◌, refl, ◌∙◌}
use lib.ListN.{length, drop, get_or, length-drop}
use lib.Seq.{get_or-drop}
use lib.Dec.{ltb, leb, eqb}
use borrow.Author.Tests.{eq-eqb, ne_eqb, lt-ltb, le-ltb, le-leb, lt-leb}
use Rattle.laws.proofs.Branches.{not_on, not-off}
use Rattle.telegram.specs.Kinds.{fields, fillable, sorted}
use Rattle.telegram.specs.declared.kinds.Telegram.{Telegram}
use Rattle.telegram.specs.declared.kinds.Telegram.TheVariants.{Data, Ack, Test, Break, Disconnect, Setup, Accept, Malformed}
use Rattle.telegram.specs.Cutting.{frames_of}
use Rattle.sender.specs.Sending.{distance, held_for, again, finished, acknowledged}
use Rattle.sender.specs.declared.Terms.{Terms}
use Rattle.sender.specs.declared.Sender.{Sender}
use Rattle.sender.specs.declared.Heard.{Heard}
use Rattle.sender.proofs.Acks.{Counts, Stalls, AckCase, no-message, in-hold, repeated, beyond, ack-used-up, held_back, all-acked, part-acked, heard-ack, ack_case}
use Rattle.telegram.specs.declared.cutting.Message.{Message}
use Rattle.receiver.specs.declared.Receiver.{Receiver}
use Rattle.receiver.specs.declared.Received.{Received}
use Rattle.receiver.specs.declared.Cause.{Cause}
use Rattle.receiver.specs.Receiving.{is_used, numbered, settled as receiver_settled, on_data}
use Rattle.receiver.proofs.Outcomes.{declared_by, Brings, at_first, at-later, Breaks, too_short, declares-none, over-limit, too_many, no_end, early-end, Judged, breaks, short-first, short-later, goes_on, ends, InOrder, Outcome, out-of-place, untaken, thrown-away, in-order, outcome}
use Rattle.receiver.proofs.Laws.{NotData, received-data, buffered-noted}
use Rattle.channel.specs.Opened.{with_sender, with_receiver, restarted}
use Rattle.channel.specs.declared.Channel.{Channel}
use Rattle.channel.specs.declared.Answered.{Answered as ChannelAnswered}
use Rattle.arrival.specs.Arrived.{data_answer, ack_answer, arrived as channel_arrived, buffered_by}
use Rattle.arrival.proofs.Arriving.{answers, ArrivalOutcome, data-came, ack-came, test-came, break-came, disconnect-came, setup-came, accept-undue, accept-bad, accept-came, malformed-came, arrival-outcome, arrived-data, arrived-ack, unwritten}
use Rattle.open_end.specs.declared.answers.Answer.TheVariants.{Channel as ByChannel}
use Rattle.open_end.specs.declared.answers.Said.{Said}
use Rattle.open_end.specs.declared.OpenEnd.{OpenEnd}
use Rattle.open_end.specs.Answers.{said}
use Rattle.open_end.specs.OpenEnd.{course_of, arrived_at, buffered_at}
use Rattle.open_rows.specs.Tables.{plain, row, Table, always, ◌or_else◌, told_by}
use Rattle.open_rows.specs.Records.{none_received}
use Rattle.open_rows.specs.Rows.{numbered_by, is_at_first, written_at, is_data, is_ack, number_in, asks_ack, is_last, is_ready, out_of_place, no_message, is_holding, waits_untaken, throws_away, is_judged, short_later, broken, short_first, asked_for_ack, thrown_away, receiving_after, buffer_after}
use Rattle.open_rows.proofs.Open.{Ways, arrival_rows}
use Rattle.open_rows.proofs.Ends.{settled_by, arrives_at}
use Rattle.open_rows.proofs.Bytes.{Only, telegram, by_kind, data-bytes, data-unpadded, padded-eight, setup-unpadded}
use Rattle.open_rows.proofs.Same.{block_same, ahead-same, acked-same, carried_same, copied-same}
use Rattle.open_rows.proofs.Tests.{unbroken, behind}

module _ {A : Type 0} (w : Ways A) (limit : ℕ) (ch : Channel) (s b : List ℕ) where
  -- what the table tells
  abbrev tabled : Said × (Bool × A × List ℕ)
  tabled = told_by (arrival_rows w limit ch s b)

  -- the channel's parts
  abbrev sending : Sender
  sending = ch.sender

  abbrev terms : Terms
  terms = ch.parameters.terms

  abbrev receiving : Receiver
  receiving = ch.receiver

  -- the mark of these bytes, sorted as t
  abbrev mark_of : Telegram → Bool
  mark_of t = fillable t && eqb (length s) 8

  -- what is said and left by an answer of the channel, with the mark p and the buffer x then; and by what the halves make of data and of an Ack
  abbrev passed : List ℕ → Bool → ChannelAnswered → Said × (Bool × A × List ℕ)
  passed x p r = (said (ByChannel r.answer), (p, settled_by w (course_of r.answer) r.channel, x))

  abbrev written : List ℕ
  written = if is_at_first ch then written_at 0 (drop 3 s) b else written_at receiving.at.fill (drop 1 s) b

  abbrev receives : Received → Said × (Bool × A × List ℕ)
  receives r = passed (if is_used r.note then written else b) false (answers (data_answer r.note) (with_receiver ch r.receiver))

  abbrev hears : Heard → Said × (Bool × A × List ℕ)
  hears h = passed b (eqb (length s) 8) (answers (ack_answer h.note) (with_sender ch h.sender))

  -- by a telegram
  abbrev opens : Telegram → Said × (Bool × A × List ℕ)
  opens t = passed (buffered_by limit ch t (drop 1 s) b) (mark_of t) (channel_arrived limit ch t (drop 1 s) (length b))

  -- ---- the rows that data on an open connection meets

  abbrev data_rows : Table (Bool × A × List ℕ)
  data_rows =
      row (out_of_place ch s) 12 (false, w.goes_on (asked_for_ack ch s), b)
      or_else row (waits_untaken ch s) 5 (false, w.goes_on (asked_for_ack ch s), b)
      or_else row (short_later ch s (length b)) 7 (false, w.goes_on ch, b)
      or_else row (broken limit ch s) 9 (false, w.goes_on (thrown_away ch s), b)
      or_else row (short_first ch s (length b)) 7 (false, w.goes_on (thrown_away ch s), b)
      or_else always (plain 0) (false, w.goes_on (restarted (with_receiver ch (receiving_after ch s))), buffer_after ch s b)

  -- in order, bringing its message m to fill bytes
  abbrev message_rows : Message → ℕ → Table (Bool × A × List ℕ)
  message_rows m fill =
      row (ltb m.length fill || not (is_last s) && leb m.length fill || is_last s && ltb fill m.length) 9 (false, w.goes_on (thrown_away ch s), b)
      or_else row (ltb (length b) m.length) 7 (false, w.goes_on (thrown_away ch s), b)
      or_else always (plain 0) (
        false,
        w.goes_on (restarted (with_receiver ch (if is_last s then numbered_by ch s false none_received 0 m else numbered_by ch s false m fill receiving.complete))),
        written,
      )

  throws : {t : Bool} → receiving.at.discarding ≡ t → throws_away ch ≡ t
  unfolding throws_away
  throws e = e

  -- the length that a first frame declares
  abbrev first-length : ℕ
  first-length = 256 * (get_or s 1 0 % 16) + get_or s 2 0

  -- the same in the bytes behind its first and in all of them, and so its flags
  declares : (declared_by (drop 1 s)).length ≡ first-length
  declares = rw (get_or-drop 1 s 0 0, get_or-drop 1 s 1 0)

  flags : (declared_by (drop 1 s)).flags ≡ get_or s 1 0 / 16
  flags = rw (get_or-drop 1 s 0 0)

  declares-some : 1 ≤ (declared_by (drop 1 s)).length → eqb first-length 0 ≡ false
  declares-some some = ne_eqb first-length 0 (λ z. let none = declares ∙ z in omega arith)

  -- it has two length bytes or not
  longer : 2 ≤ length (drop 1 s) → eqb (length s) 2 ≡ false
  longer two = let l = length-drop 1 s in ne_eqb (length s) 2 (λ e. omega arith)

  two_bytes : is_data s ≡ true → length (drop 1 s) < 2 → eqb (length s) 2 ≡ true
  two_bytes d short = let l = length-drop 1 s in let two = data-bytes s d in eq-eqb (length s) 2 (omega arith)

  module _ (d : is_data s ≡ true) where
    module _ (o : InOrder receiving (number_in s)) where
      placed : out_of_place ch s ≡ false
      placed = rw (d, eq-eqb _ _ o.expected)

      none-waits : waits_untaken ch s ≡ false
      none-waits = rw (d, eq-eqb _ _ o.expected, o.none-waits)

      is-judged : is_judged ch s ≡ true
      is-judged = rw (d, eq-eqb _ _ o.expected, throws o.not-discarding)

      message-rows : {m : Message} {fill : ℕ} → Brings limit receiving (drop 1 s) (length b) m fill → told_by (message_rows m fill) ≡ told_by data_rows
      message-rows (at_first f two some most) =
          rw (placed, none-waits, is-judged, throws o.not-discarding, f, declares, flags, length-drop 1 s, behind (length s), longer two, declares-some some, le-ltb _ _ (rw declares at most))
      message-rows (at-later f held) = rw (placed, none-waits, is-judged, throws o.not-discarding, f, length-drop 1 s, le-ltb _ _ held)

      -- what meets a message's rows, meets the data's
      meets : {m : Message} {fill : ℕ} {v : Said × (Bool × A × List ℕ)} → Brings limit receiving (drop 1 s) (length b) m fill → v ≡ told_by (message_rows m fill) → v ≡ told_by data_rows
      meets g e = e ∙ message-rows g

      broken-told : {x : Cause} → Breaks limit receiving (is_last s) (drop 1 s) (length b) x → ◌≡◌ {A = Said × (Bool × A × List ℕ)} (plain 9, (false, w.goes_on (thrown_away ch s), b)) (told_by data_rows)
      broken-told (too_short f short) = rw (placed, none-waits, is-judged, f, two_bytes d short)
      broken-told (declares-none f two z) = rw (placed, none-waits, is-judged, f, longer two, eq-eqb _ _ (rw declares at z))
      broken-told (over-limit f two some over) = rw (placed, none-waits, is-judged, f, longer two, declares-some some, lt-ltb _ _ (rw declares at over))
      broken-told (too_many g many) = meets g (rw (lt-ltb _ _ many))
      broken-told (no_end {m = m} {fill = fill} g l e) = meets g (rw (le-ltb m.length fill (omega arith), l, le-leb m.length fill (omega arith)))
      broken-told (early-end {m = m} {fill = fill} g l few) = meets g (rw (le-ltb m.length fill (omega arith), l, lt-ltb fill m.length few))

      judged-told : {x : Received} → Judged limit receiving (asks_ack s) (is_last s) (drop 1 s) (length b) x → receives x ≡ told_by data_rows
      unfolding course_of numbered receiver_settled
      judged-told (breaks h) = broken-told h
      judged-told (short-first {m = m} {fill = fill} g e short) = meets g (rw (unbroken (is_last s) fill m.length e, lt-ltb _ _ short))
      judged-told (short-later f short) = rw (placed, none-waits, is-judged, f, lt-ltb _ _ short)
      judged-told (goes_on {m = m} {fill = fill} g l less roomy) =
          meets g (rw (l, le-ltb m.length fill (omega arith), lt-leb m.length fill less, le-ltb (length b) m.length roomy))
      judged-told (ends {m = m} {fill = fill} g l all roomy) =
          meets g (rw (l, le-ltb m.length fill (omega arith), le-ltb fill m.length (omega arith), le-ltb (length b) m.length roomy))

    received-told : {x : Received} → Outcome limit receiving (asks_ack s) (is_last s) (number_in s) (drop 1 s) (length b) x → receives x ≡ told_by data_rows
    unfolding course_of numbered receiver_settled
    received-told (out-of-place n) = rw (d, ne_eqb _ _ n, or-false)
    received-told (untaken e w) = rw (d, eq-eqb _ _ e, w, or-false)
    received-told (thrown-away e w t) = rw (d, eq-eqb _ _ e, w, throws t)
    received-told (in-order o j) = judged-told o j

  -- ---- the rows that an Ack on an open connection meets

  -- how far the Ack's number lies ahead
  abbrev away : ℕ
  away = distance sending (number_in s)

  abbrev acks : Bool
  acks = is_ack s && not (no_message ch) && not (is_holding ch) && not (eqb away 0) && not (ltb (sending.high - sending.acked) away)

  abbrev ends_there : Bool
  ends_there = acks && eqb (sending.acked + away) (frames_of sending.length)

  abbrev heard_rows : Sender → Table (Bool × A × List ℕ)
  heard_rows x =
      row (is_ack s && (no_message ch || is_holding ch || eqb away 0 && is_ready s || ltb (sending.high - sending.acked) away)) 12 (eqb (length s) 8, w.goes_on ch, b)
      or_else row (is_ack s && eqb away 0 && not (is_ready s) && ltb terms.repeats (sending.count + 1)) 8 (eqb (length s) 8, w.given_up, b)
      or_else always (record { number = 0; done = ends_there; opcode = 0 }) (eqb (length s) 8, w.goes_on (restarted (with_sender ch x)), b)

  abbrev ack_rows : Table (Bool × A × List ℕ)
  ack_rows =
      heard_rows
      (if eqb away 0 then again sending (held_for terms (is_ready s)) sending.gap
      else if ends_there then finished sending away (held_for terms (is_ready s))
      else acknowledged sending away (held_for terms (is_ready s)))

  some-message : Counts sending → no_message ch ≡ false
  some-message n = ne_eqb sending.length 0 (λ z. omega arith)

  no-hold : Counts sending → is_holding ch ≡ false
  no-hold n = le-ltb 0 sending.hold (omega arith)

  far : 1 ≤ away → eqb away 0 ≡ false
  far some = ne_eqb away 0 (λ z. omega arith)

  within : sending.acked + away ≤ sending.high → ltb (sending.high - sending.acked) away ≡ false
  within most = le-ltb (sending.high - sending.acked) away (omega arith)

  not_beyond : Stalls sending (is_ready s) (number_in s) → ltb (sending.high - sending.acked) away ≡ false
  not_beyond h = let z = h.none in le-ltb (sending.high - sending.acked) away (omega arith)

  module _ (a : is_ack s ≡ true) where
    heard-told : {x : Heard} → AckCase terms sending (is_ready s) (number_in s) x → hears x ≡ told_by ack_rows
    unfolding course_of
    heard-told (no-message z) = rw (a, eq-eqb _ _ z)
    heard-told (in-hold some held) = rw (a, ne_eqb sending.length 0 (λ z. omega arith), lt-ltb _ _ held)
    heard-told (repeated n z ready) = rw (a, some-message n, no-hold n, eq-eqb _ _ z, ready)
    heard-told (beyond n some out) = rw (a, some-message n, no-hold n, far some, lt-ltb (sending.high - sending.acked) away (omega arith))
    heard-told (ack-used-up h most) =
        let more : terms.repeats < sending.count + 1 = omega arith in
        rw (a, some-message h.counts, no-hold h.counts, not_beyond h, eq-eqb _ _ h.none, h.busy, lt-ltb _ _ more)
    heard-told (held_back h few) =
        let most : sending.count + 1 ≤ terms.repeats = omega arith in
        rw (a, some-message h.counts, no-hold h.counts, not_beyond h, eq-eqb _ _ h.none, h.busy, le-ltb _ _ most)
    heard-told (all-acked h e) = rw (a, some-message h.counts, no-hold h.counts, far h.some, within h.within, eq-eqb _ _ e)
    heard-told (part-acked h e) = rw (a, some-message h.counts, no-hold h.counts, far h.some, within h.within, ne_eqb _ _ e)

  -- ---- the other telegrams

  -- a telegram other than data and Ack, of these bytes
  abbrev Reads : Telegram → Type 0
  Reads (Data asks last number) = ⊥
  Reads (Ack ready number) = ⊥
  Reads Test = Only s 2
  Reads Break = Only s 3
  Reads Disconnect = Only s 4
  Reads (Setup p) = Only s 5
  Reads (Accept p) = Only s 6 × (p ≡ fields s)
  Reads Malformed = Only s 7

  -- ---- kind by kind

  data-told : Only s 0 → opens (Data (asks_ack s) (is_last s) (number_in s)) ≡ tabled
  data-told k =
      let rows : told_by data_rows ≡ tabled = rw (telegram k, data-unpadded s k.data', k.data', k.ack, k.test, k.accept, k.disconnect, k.setup, or-false) in
      let x = on_data limit receiving (asks_ack s) (is_last s) (number_in s) (drop 1 s) (length b) in
      rw (
        arrived-data limit ch (drop 1 s) (length b) (asks_ack s) (is_last s) (number_in s),
        received-data limit receiving (drop 1 s) (length b) (asks_ack s) (is_last s) (number_in s),
        buffered-noted receiving x.note (drop 1 s) b,
        copied-same receiving s b,
      )
      (received-told k.data' (outcome limit receiving (asks_ack s) (is_last s) (number_in s) (drop 1 s) (length b)) ∙ rows)

  ack-told : Only s 1 → opens (Ack (is_ready s) (number_in s)) ≡ tabled
  ack-told k =
      let rows : told_by ack_rows ≡ tabled =
      rw (telegram k, padded-eight s k.data', k.data', k.ack, k.test, k.break, k.accept, k.disconnect, k.setup, ahead-same ch s, carried_same sending.length (sending.acked + away), acked-same sending s) in
      rw (
        unwritten limit ch (Ack (is_ready s) (number_in s)) (drop 1 s) b tt,
        arrived-ack limit ch (drop 1 s) (length b) (is_ready s) (number_in s),
        heard-ack terms sending (is_ready s) (number_in s),
      )
      (heard-told k.ack (ack_case terms sending (is_ready s) (number_in s)) ∙ rows)

  came : {r : Received} {h : Heard} {t : Telegram} {x : ChannelAnswered} → ArrivalOutcome ch r h t x → Reads t → passed b (mark_of t) x ≡ tabled
  unfolding course_of
  came data-came k = absurd k
  came ack-came k = absurd k
  came test-came k = rw (telegram k, padded-eight s k.data', k.data', k.ack, k.test, k.break, k.accept, k.disconnect, k.setup)
  came break-came k = rw (telegram k, padded-eight s k.data', k.data', k.ack, k.test, k.break, k.accept, k.disconnect, k.setup)
  came disconnect-came k = rw (telegram k, padded-eight s k.data', k.data', k.ack, k.accept, k.disconnect, k.setup)
  came setup-came k = rw (telegram k, setup-unpadded s k.setup, k.accept, k.setup)
  came (accept-undue o) h = let k = h.0 in rw (telegram k, padded-eight s k.data', k.accept, k.setup, not_on _ o)
  came (accept-bad o e) h =
      let k = h.0 in rw (telegram k, padded-eight s k.data', k.accept, k.setup, not-off _ o, block_same s (rw h.1 at e))
  came (accept-came o e) h =
      let k = h.0 in
      rw (telegram k, padded-eight s k.data', k.data', k.ack, k.test, k.break, k.accept, k.disconnect, k.setup, not-off _ o, block_same s (rw h.1 at e))
  came malformed-came k = rw (telegram k)

  other-told : (t : Telegram) → NotData t → Reads t → opens t ≡ tabled
  other-told t n k = rw (unwritten limit ch t (drop 1 s) b n) (came (arrival-outcome limit ch (drop 1 s) (length b) t) k)

  arrives-told : passed (buffered_by limit ch (sorted s).kind (drop 1 s) b) (sorted s).padded (channel_arrived limit ch (sorted s).kind (drop 1 s) (length b)) ≡ tabled
  arrives-told =
      by_kind s (λ t. opens t ≡ tabled)
      data-told
      ack-told
      (other-told Test tt)
      (other-told Break tt)
      (other-told Disconnect tt)
      (other-told (Setup (fields s)) tt)
      (λ k. other-told (Accept (fields s)) tt (k, refl))
      (other-told Malformed tt)

pub open-arrive : {A : Type 0} (w : Ways A) (limit : ℕ) (e : OpenEnd) (s b : List ℕ) → arrives_at w limit e s b ≡ told_by (arrival_rows w limit e.channel s b)
unfolding arrived_at buffered_at
open-arrive w limit e s b = arrives-told w limit e.channel s b
