-- For each call: a number is said exactly where a row of it holds and none before it in the call's table does; and what the call
-- leaves with it, where all rows of that number leave the same. Then what holds of every answer to a frame.
-- The tables stand in specs/Rows.antt, `Says` and `Given` in crates/open_rows/specs/Tables.antt.
use Rattle.std.specs.Prelude.{if◌then◌else◌}
use Prim.Native.Nat.{ℕ}
use mathlib.Core.Bool.{Bool, true, false, not, ◌&&◌, ◌||◌, true≢false, false≢true}
use mathlib.Core.List.{List}
use mathlib.Core.Logic.{◌↔◌, ◌≢◌}
use mathlib.Core.Path.{◌≡◌, refl, sym, ap, ◌∙◌}
use native.Mathlib.Omega.{arith}
use lib.Dec.{ltb, eqb}
use borrow.Author.Tests.{ltb-true, ltb-false, le-ltb, eqb-false, ne_eqb, not-true}
use Rattle.laws.specs.If.{when◌then◌else◌}
use Rattle.laws.proofs.Cases.{by, either, and_first, and_second, or-first, or-second}
use Rattle.telegram.specs.declared.cutting.Message.{Message}
use Rattle.settings.specs.declared.Settings.{Settings}
use Rattle.channel.specs.declared.Channel.{Channel}
use Rattle.open_end.specs.declared.answers.Said.{Said}
use Rattle.unit.specs.declared.ControlUnit.{ControlUnit}
use Rattle.open_rows.specs.Tables.{plain, always, told_by, Given, Says}
use Rattle.open_rows.specs.Records.{on_sender, on_receiver}
use Rattle.open_rows.specs.Rows.{is_setup, is_padded, is_at_first, asked_for_ack, thrown_away, finishes, channel_later, hands_none, message_accepted, message_taken}
use Rattle.open_rows.proofs.Tables.{Leaving, given, says, every, every_held}
use Rattle.open_rows.proofs.Bytes.{ack-kind, setup-unpadded}
use Rattle.open_rows.proofs.Rows.{bare, with-mark, carries, finishing}
use Rattle.unit_rows.specs.Records.{is_closed, is_open, closed_with, closed_record, leaving, on_channel}
use Rattle.unit_rows.specs.Rows.{on_request_id, is_request, other_unit, in_sending, other_id, arrival_table, arrive_says, set_table, set_says, time_table, time_says, due_table, due_says, send_table, send_says, take_table, take_says, close_table, close_says}
use Rattle.unit_rows.specs.UnitRows.{NoReply}
use Rattle.unit_rows.proofs.Ways.{ways_of}
use Rattle.unit_rows.proofs.Arrival.{arrive-told}
use Rattle.unit_rows.proofs.Calls.{set_told, time-told, due-told, send-told, take-told, close-told}

-- an answer to a reply, by its number or its opcode
abbrev of_reply : Said → Bool
of_reply a = eqb a.number 11 || ltb 0 a.opcode

no-reply : (a : Said) → of_reply a ≡ false → NoReply a
no-reply a e = let z = ltb-false 0 a.opcode (or-second (eqb a.number 11) (ltb 0 a.opcode) e) in (eqb-false a.number 11 (or-first (eqb a.number 11) (ltb 0 a.opcode) e), omega arith)

-- ---- a frame arrives

module _ (limit : ℕ) (c : ControlUnit) (id : ℕ) (s b : List ℕ) where
  abbrev ch : Channel
  ch = c.end.channel

  abbrev Arrives : ℕ → Bool × ControlUnit × List ℕ → Type 0
  Arrives n x = Says n x (arrive_says limit c id s b) (arrival_table limit c id s b)

  arrive : (n : ℕ) {x : Bool × ControlUnit × List ℕ} → Leaving n x (arrival_table limit c id s b) → Arrives n x
  arrive = says _ (arrive-told limit c id s b)

  -- every number, those too that an arrival never gives
  pub arrive-row : (n : ℕ) → ((arrive_says limit c id s b).0.number ≡ n) ↔ Given n (arrive_says limit c id s b).1 (arrival_table limit c id s b)
  arrive-row = given (arrival_table limit c id s b) (arrive-told limit c id s b)

  pub arrive-row-1 : Arrives 1 (false, c, b)
  arrive-row-1 = arrive 1 (λ _. refl, (λ _. refl, tt))

  pub arrive-row-2 : Arrives 2 (is_padded s, c, b)
  arrive-row-2 = arrive 2 (λ _. refl, tt)

  pub arrive-row-3 : Arrives 3 (false, c, b)
  arrive-row-3 = arrive 3 (λ _. refl, (λ _. refl, tt))

  pub arrive-row-5 : Arrives 5 (false, on_channel c (asked_for_ack ch s), b)
  arrive-row-5 = arrive 5 (λ _. refl, tt)

  pub arrive-row-7 : Arrives 7 (false, if is_at_first ch then on_channel c (thrown_away ch s) else c, b)
  arrive-row-7 =
      arrive 7 (
        λ h. let later : is_at_first ch ≡ false = not-true (is_at_first ch) (search (and_first, and_second)) in rw later,
        (λ h. let first : is_at_first ch ≡ true = search (and_first, and_second) in rw first, tt),
      )

  pub arrive-row-9 : Arrives 9 (false, on_channel c (thrown_away ch s), b)
  arrive-row-9 = arrive 9 (λ _. refl, tt)

  pub arrive-row-12 : Arrives 12 (is_padded s, on_channel c (asked_for_ack ch s), b)
  arrive-row-12 = arrive 12 (λ _. refl, tt)

  -- "A refusal never writes to the buffer"
  pub arrive-keeps-buffer : (arrive_says limit c id s b).0.number ≢ 0 → (arrive_says limit c id s b).1.2 ≡ b
  arrive-keeps-buffer refuses =
      rw (ne_eqb _ _ refuses) at
      (every (arrival_table limit c id s b) (arrive-told limit c id s b) (λ a x. when eqb a.number 0 then Unit else x.2 ≡ b)
      (refl, (refl, (refl, (tt, (refl, (refl, (refl, (refl, (refl, (refl, (refl, (refl, (refl, (refl, (refl, (refl, tt)))))))))))))))))

  -- no row is of a reply
  pub arrive-no-reply : NoReply (arrive_says limit c id s b).0
  arrive-no-reply =
      no-reply (arrive_says limit c id s b).0
      (every (arrival_table limit c id s b) (arrive-told limit c id s b) (λ a x. of_reply a ≡ false)
      (refl, (refl, (refl, (refl, (refl, (refl, (refl, (refl, (refl, (refl, (refl, (refl, (refl, (refl, (refl, (refl, refl)))))))))))))))))

  -- the mark is that of the bytes, and none goes with 1 or 3
  marked-carries : (arrive_says limit c id s b).1.0 ≡ true
      → (is_padded s ≡ true) × ((arrive_says limit c id s b).0.number ≢ 1) × ((arrive_says limit c id s b).0.number ≢ 3)
  marked-carries =
      every (arrival_table limit c id s b) (arrive-told limit c id s b) (λ a x. x.0 ≡ true → (is_padded s ≡ true) × (a.number ≢ 1) × (a.number ≢ 3)) (
        bare,
        (bare, (bare, (bare, (bare, (bare, (bare, (with-mark 4 refl, (with-mark 2 refl, (bare, (with-mark 12 refl, (with-mark 8 refl, (bare, (bare, (bare, (bare, with-mark 0 refl))))))))))))))),
      )

  -- what the table tells of the mark and of done
  told-mark : (arrive_says limit c id s b).1.0 ≡ (told_by (arrival_table limit c id s b)).1.0
  told-mark = ap (λ (x : Said × (Bool × ControlUnit × List ℕ)). x.1.0) (arrive-told limit c id s b)

  told-done : (arrive_says limit c id s b).0.done ≡ (told_by (arrival_table limit c id s b)).0.done
  told-done = ap (λ (x : Said × (Bool × ControlUnit × List ℕ)). x.0.done) (arrive-told limit c id s b)

  -- neither on 0x200
  abbrev Bare : Said × (Bool × ControlUnit × List ℕ) → Type 0
  Bare y = (y.1.0 ≡ false) × (y.0.done ≡ false)

  bare-request : on_request_id id ≡ true → Bare (told_by (arrival_table limit c id s b))
  bare-request r =
      rw r
      (by Bare (not (is_request s)) (λ _. (refl, refl)) (λ _.
      by Bare (other_unit c s) (λ _. (refl, refl)) (λ _.
      by Bare (in_sending c) (λ _. (refl, refl)) (λ _. (refl, refl)))))

  -- a mark is on the receive ID of a unit that is not closed
  marked-there : (arrive_says limit c id s b).1.0 ≡ true → (on_request_id id ≡ false) × (is_closed c ≡ false)
  marked-there m =
      either (on_request_id id) (λ r. absurd (false≢true (sym (told-mark ∙ (bare-request r).0) ∙ m))) (λ r.
      (r, either (is_closed c) (λ e. absurd (false≢true (sym (told-mark ∙ rw (r, e)) ∙ m))) (λ e. e)))

  -- and every answer there has it, but 1 and 3 and those to an A0 or to data, which are not padded
  carries-marked : is_padded s ≡ true → on_request_id id ≡ false → is_closed c ≡ false
      → (arrive_says limit c id s b).0.number ≢ 1 → (arrive_says limit c id s b).0.number ≢ 3 → (arrive_says limit c id s b).1.0 ≡ true
  carries-marked padded req closed =
      every_held (arrival_table limit c id s b) (arrive-told limit c id s b) (λ a x. a.number ≢ 1 → a.number ≢ 3 → x.0 ≡ true) (
        λ _ one three. absurd (one refl),
        (
          λ _ one three. absurd (three refl),
          (
            λ h. absurd (false≢true (sym req ∙ and_first (on_request_id id) (in_sending c) h)),
            (
              λ h. absurd (false≢true (sym req ∙ h)),
              (
                λ h. absurd (false≢true (sym closed ∙ h)),
                (
                  λ _ one three. absurd (three refl),
                  (
                    λ _ one three. absurd (one refl),
                    (
                      λ _ one three. padded,
                      (
                        λ _ one three. padded,
                        (
                          λ h. absurd (false≢true (sym (setup-unpadded s (and_first (is_setup s) (in_sending c) h)) ∙ padded)),
                          carries (ways_of c) limit ch s b (is_open c) (always (plain 0) (is_padded s, c, b)) padded (λ one three. padded),
                        ),
                      ),
                    ),
                  ),
                ),
              ),
            ),
          ),
        ),
      )

  -- "Every answer to an arriving frame, but 1, 3 and a closed record's 4, carries that mark on" (02, request 4)
  pub arrive-marks : ((arrive_says limit c id s b).1.0 ≡ true)
      ↔ ((is_padded s ≡ true) × (on_request_id id ≡ false) × (is_closed c ≡ false)
      × ((arrive_says limit c id s b).0.number ≢ 1) × ((arrive_says limit c id s b).0.number ≢ 3))
  arrive-marks = (
    λ m. let k = marked-carries m in let t = marked-there m in (k.0, t.0, t.1, k.1, k.2),
    λ g. carries-marked g.0 g.1 g.2 g.3 g.4,
  )

  not_done : (is_open c && finishes ch s) ≡ false → (arrive_says limit c id s b).0.done ≡ false
  not_done f =
      every (arrival_table limit c id s b) (arrive-told limit c id s b) (λ a x. a.done ≡ false)
      (refl, (refl, (refl, (refl, (refl, (refl, (refl, (refl, (refl, (refl, (refl, (refl, (refl, (refl, (refl, (refl, f))))))))))))))))

  -- done is said on the receive ID
  done-there : (arrive_says limit c id s b).0.done ≡ true → (on_request_id id ≡ false) × (other_id c id ≡ false)
  done-there d =
      either (on_request_id id) (λ r. absurd (false≢true (sym (told-done ∙ (bare-request r).1) ∙ d))) (λ r. (
        r,
        either (other_id c id)
            (λ o. absurd (false≢true (sym (told-done ∙ either (is_closed c) (λ e. rw (r, e)) (λ e. rw (r, e, o))) ∙ d)))
            (λ o. o),
      ))

  finishes-there : on_request_id id ≡ false → other_id c id ≡ false → is_open c ≡ true → finishes ch s ≡ true → (arrive_says limit c id s b).0.done ≡ true
  finishes-there req same open' f =
      let phase = ltb-true 5 c.phase open' in
      let closed : is_closed c ≡ false = le-ltb c.phase 3 (omega arith) in
      let k = ack-kind s (search (and_first, and_second)) in
      told-done ∙ rw (req, closed, same, open', k.setup) (rw k.setup at (finishing (ways_of c) limit ch s b f))

  -- "The message is done when its last frame is acknowledged, and the answer to that Ack says so"
  pub arrive-done : ((arrive_says limit c id s b).0.done ≡ true)
      ↔ ((on_request_id id ≡ false) × (other_id c id ≡ false) × (is_open c ≡ true) × (finishes ch s ≡ true))
  arrive-done = (
    λ d. let t = done-there d in
        let f : (is_open c && finishes ch s) ≡ true = either (is_open c && finishes ch s) (λ f. f) (λ f. absurd (true≢false (sym d ∙ not_done f))) in
        (t.0, t.1, and_first (is_open c) (finishes ch s) f, and_second (is_open c) (finishes ch s) f),
    λ g. finishes-there g.0 g.1 g.2 g.3,
  )

-- ---- set

module _ (c : ControlUnit) (s : Settings) (reply : ℕ) where
  pub set-row : (n : ℕ) → ((set_says c s reply).0.number ≡ n) ↔ Given n (set_says c s reply).1 (set_table c s reply)
  set-row = given (set_table c s reply) (set_told c s reply)

  pub set-row-0 : Says 0 (closed_with s reply) (set_says c s reply) (set_table c s reply)
  set-row-0 = says _ (set_told c s reply) 0 refl

  pub set-row-4 : Says 4 c (set_says c s reply) (set_table c s reply)
  set-row-4 = says _ (set_told c s reply) 4 (λ _. refl, tt)

  pub set-row-10 : Says 10 c (set_says c s reply) (set_table c s reply)
  set-row-10 = says _ (set_told c s reply) 10 (λ _. refl, tt)

  pub set-no-reply : NoReply (set_says c s reply).0
  set-no-reply = no-reply (set_says c s reply).0 (every (set_table c s reply) (set_told c s reply) (λ a x. of_reply a ≡ false) (refl, (refl, refl)))

-- ---- time passes

module _ (c : ControlUnit) (n : ℕ) where
  pub time-row : (m : ℕ) → ((time_says c n).0.number ≡ m) ↔ Given m (time_says c n).1 (time_table c n)
  time-row = given (time_table c n) (time-told c n)

  pub time-row-0 : Says 0 (if is_open c then on_channel c (channel_later c.end.channel n) else c) (time_says c n) (time_table c n)
  time-row-0 = says _ (time-told c n) 0 refl

  pub time-row-8 : Says 8 (closed_record c) (time_says c n) (time_table c n)
  time-row-8 = says _ (time-told c n) 8 (λ _. refl, tt)

  pub time-no-reply : NoReply (time_says c n).0
  time-no-reply = no-reply (time_says c n).0 (every (time_table c n) (time-told c n) (λ a x. of_reply a ≡ false) (refl, refl))

-- ---- what is due

module _ (c : ControlUnit) (m : List ℕ) where
  -- with 0, the frame of the first row that holds is handed over, or none
  pub due-row : (n : ℕ) → ((due_says c m).0.number ≡ n) ↔ Given n (due_says c m).1 (due_table c m)
  due-row = given (due_table c m) (due-told c m)

  pub due-row-7 : Says 7 (hands_none c) (due_says c m) (due_table c m)
  due-row-7 = says _ (due-told c m) 7 (λ _. refl, tt)

  pub due-no-reply : NoReply (due_says c m).0
  due-no-reply =
      no-reply (due_says c m).0
      (every (due_table c m) (due-told c m) (λ a x. of_reply a ≡ false) (refl, (refl, (refl, (refl, (refl, (refl, (refl, (refl, (refl, refl))))))))))

-- ---- send

module _ (limit : ℕ) (c : ControlUnit) (n : ℕ) where
  pub send-row : (m : ℕ) → ((send_says limit c n).0.number ≡ m) ↔ Given m (send_says limit c n).1 (send_table limit c n)
  send-row = given (send_table limit c n) (send-told limit c n)

  pub send-row-0 : Says 0 (on_channel c (on_sender c.end.channel (message_accepted c.end.channel.sender n))) (send_says limit c n) (send_table limit c n)
  send-row-0 = says _ (send-told limit c n) 0 refl

  pub send-row-4 : Says 4 c (send_says limit c n) (send_table limit c n)
  send-row-4 = says _ (send-told limit c n) 4 (λ _. refl, tt)

  pub send-row-5 : Says 5 c (send_says limit c n) (send_table limit c n)
  send-row-5 = says _ (send-told limit c n) 5 (λ _. refl, tt)

  pub send-row-6 : Says 6 c (send_says limit c n) (send_table limit c n)
  send-row-6 = says _ (send-told limit c n) 6 (λ _. refl, tt)

  pub send-no-reply : NoReply (send_says limit c n).0
  send-no-reply = no-reply (send_says limit c n).0 (every (send_table limit c n) (send-told limit c n) (λ a x. of_reply a ≡ false) (refl, (refl, (refl, refl))))

-- ---- take

module _ (c : ControlUnit) (room : ℕ) where
  pub take_row : (n : ℕ) → ((take_says c room).0.number ≡ n) ↔ Given n (take_says c room).1 (take_table c room)
  take_row = given (take_table c room) (take-told c room)

  abbrev complete : Message
  complete = c.end.channel.receiver.complete

  pub take-row-0 :
      Says 0 (complete.length, complete.flags, on_channel c (on_receiver c.end.channel (message_taken c.end.channel.receiver))) (take_says c room) (take_table c room)
  take-row-0 = says _ (take-told c room) 0 refl

  pub take-row-4 : Says 4 (0, 0, c) (take_says c room) (take_table c room)
  take-row-4 = says _ (take-told c room) 4 (λ _. refl, tt)

  pub take-row-5 : Says 5 (0, 0, c) (take_says c room) (take_table c room)
  take-row-5 = says _ (take-told c room) 5 (λ _. refl, tt)

  pub take-row-7 : Says 7 (0, 0, c) (take_says c room) (take_table c room)
  take-row-7 = says _ (take-told c room) 7 (λ _. refl, tt)

  pub take-no-reply : NoReply (take_says c room).0
  take-no-reply = no-reply (take_says c room).0 (every (take_table c room) (take-told c room) (λ a x. of_reply a ≡ false) (refl, (refl, (refl, refl))))

-- ---- close

module _ (c : ControlUnit) where
  pub close_row : (n : ℕ) → ((close_says c).0.number ≡ n) ↔ Given n (close_says c).1 (close_table c)
  close_row = given (close_table c) (close-told c)

  pub close-row-0 : Says 0 (leaving c) (close_says c) (close_table c)
  close-row-0 = says _ (close-told c) 0 refl

  pub close-row-4 : Says 4 c (close_says c) (close_table c)
  close-row-4 = says _ (close-told c) 4 (λ _. refl, tt)

  pub close-no-reply : NoReply (close_says c).0
  close-no-reply = no-reply (close_says c).0 (every (close_table c) (close-told c) (λ a x. of_reply a ≡ false) (refl, refl))
