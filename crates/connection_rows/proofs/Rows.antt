-- For each call and each number: the number is said exactly where a row of it holds and none before it in the call's table does,
-- and what the call leaves with it. The tables stand in specs/Rows.antt, `Says` and `Given` in crates/open_rows/specs/Tables.antt.
use Rattle.std.specs.Prelude.{if◌then◌else◌}
use Prim.Native.Nat.{ℕ}
use mathlib.Core.Bool.{Bool, true, false, not, ◌&&◌, ◌||◌, or-false, true≢false, false≢true}
use mathlib.Core.List.{List}
use mathlib.Core.Logic.{◌↔◌, ◌≢◌}
use mathlib.Core.Path.{◌≡◌, refl, sym, ap, ◌∙◌}
use lib.ListN.{get_or}
use lib.Dec.{eqb}
use borrow.Author.Tests.{ne_eqb, not-true}
use Rattle.laws.specs.If.{when◌then◌else◌}
use Rattle.laws.proofs.Cases.{either, and_first, and_second, or-first, or-second}
use Rattle.telegram.specs.declared.cutting.Message.{Message}
use Rattle.profile.specs.declared.Profile.{Profile}
use Rattle.settings.specs.declared.Settings.{Settings}
use Rattle.channel.specs.declared.Channel.{Channel}
use Rattle.open_end.specs.declared.answers.Said.{Said}
use Rattle.connection.specs.declared.Connection.{Connection}
use Rattle.connection.specs.Calls.{closed_due, due_of}
use Rattle.open_rows.specs.Tables.{plain, always, told_by, Given, Says}
use Rattle.open_rows.specs.Records.{on_sender, on_receiver}
use Rattle.open_rows.specs.Rows.{is_setup, is_padded, is_at_first, asked_for_ack, thrown_away, finishes, buffer_after, hands, hands_none, single, message_accepted, message_taken}
use Rattle.open_rows.proofs.Tables.{Leaving, given, says, every, every_held}
use Rattle.open_rows.proofs.Bytes.{setup-unpadded}
use Rattle.open_rows.proofs.Tests.{other-phase}
use Rattle.open_rows.proofs.Rows.{bare, with-mark, carries, finishing}
use Rattle.connection_rows.specs.Records.{is_closed, is_requesting, is_agreeing, is_open, closed_record, leaving_on, asking, on_channel}
use Rattle.connection_rows.specs.Rows.{kind_not_due, other_id, record_after, arrival_table, arrive_says, open_table, open_as_says, record_later, time_table, time_says, due_table, due_says, send_table, send_says, take_table, take_says, close_table, close_says}
use Rattle.connection_rows.proofs.Ways.{ways_of}
use Rattle.connection_rows.proofs.Bytes.{refusal-unpadded, ack-there}
use Rattle.connection_rows.proofs.Arrival.{arrive-told}
use Rattle.connection_rows.proofs.Calls.{open_told, time-told, due-told, send-told, take-told, close-told}

-- ---- a frame arrives

module _ (limit : ℕ) (c : Connection) (id : ℕ) (s b : List ℕ) where
  abbrev ch : Channel
  ch = c.end.channel

  abbrev Arrives : ℕ → Bool × Connection × List ℕ → Type 0
  Arrives n x = Says n x (arrive_says limit c id s b) (arrival_table limit c id s b)

  arrive : (n : ℕ) {x : Bool × Connection × List ℕ} → Leaving n x (arrival_table limit c id s b) → Arrives n x
  arrive = says _ (arrive-told limit c id s b)

  -- every number, those too that an arrival never gives
  pub arrive-row : (n : ℕ) → ((arrive_says limit c id s b).0.number ≡ n) ↔ Given n (arrive_says limit c id s b).1 (arrival_table limit c id s b)
  arrive-row = given (arrival_table limit c id s b) (arrive-told limit c id s b)

  pub arrive-row-0 : Arrives 0 (is_padded s, record_after c s, if is_open c then buffer_after ch s b else b)
  arrive-row-0 = arrive 0 refl

  pub arrive-row-1 : Arrives 1 (false, c, b)
  arrive-row-1 = arrive 1 (λ _. refl, tt)

  pub arrive-row-2 : Arrives 2 (is_padded s, c, b)
  arrive-row-2 = arrive 2 (λ _. refl, tt)

  pub arrive-row-3 : Arrives 3 (false, c, b)
  arrive-row-3 = arrive 3 (λ _. refl, tt)

  -- a closed record's 4 has no mark; of a kind that is not due only an A0 meets one, and that is never padded
  undue-mark : kind_not_due c s ≡ true → is_padded s ≡ (not (is_closed c) && is_padded s)
  undue-mark undue =
      either (is_closed c)
      (λ closed. let u : (is_setup s || false) ≡ true = rw (closed, other-phase c.phase 0 1 closed refl, other-phase c.phase 0 2 closed refl) at undue in
      rw closed (setup-unpadded s (sym (or-false (is_setup s)) ∙ u)))
      (λ closed. rw closed)

  pub arrive-row-4 : Arrives 4 (not (is_closed c) && is_padded s, c, b)
  arrive-row-4 = arrive 4 (λ closed. rw closed, (λ undue. rw (← undue-mark undue), tt))

  pub arrive-row-5 : Arrives 5 (false, on_channel c (asked_for_ack ch s), b)
  arrive-row-5 = arrive 5 (λ _. refl, tt)

  pub arrive-row-7 : Arrives 7 (false, if is_at_first ch then on_channel c (thrown_away ch s) else c, b)
  arrive-row-7 =
      arrive 7 (
        λ h. let later : is_at_first ch ≡ false = not-true (is_at_first ch) (search (and_first, and_second)) in rw later,
        (λ h. let first : is_at_first ch ≡ true = search (and_first, and_second) in rw first, tt),
      )

  pub arrive-row-8 : Arrives 8 (is_padded s, closed_record, b)
  arrive-row-8 = arrive 8 (λ _. refl, tt)

  pub arrive-row-9 : Arrives 9 (false, on_channel c (thrown_away ch s), b)
  arrive-row-9 = arrive 9 (λ _. refl, tt)

  pub arrive-row-11 : Arrives 11 (false, closed_record, b)
  arrive-row-11 = arrive 11 (λ _. refl, tt)

  pub arrive-row-12 : Arrives 12 (is_padded s, on_channel c (asked_for_ack ch s), b)
  arrive-row-12 = arrive 12 (λ _. refl, tt)

  -- "A refusal never writes to the buffer"
  pub arrive-keeps-buffer : (arrive_says limit c id s b).0.number ≢ 0 → (arrive_says limit c id s b).1.2 ≡ b
  arrive-keeps-buffer refuses =
      rw (ne_eqb _ _ refuses) at
      (every (arrival_table limit c id s b) (arrive-told limit c id s b) (λ a x. when eqb a.number 0 then Unit else x.2 ≡ b)
      (refl, (refl, (refl, (refl, (refl, (refl, (refl, (refl, (refl, (refl, (refl, (refl, tt)))))))))))))

  -- "11 | D6, D7 or D8, with that opcode", and no other answer has one
  pub arrive-opcode : (arrive_says limit c id s b).0.opcode ≡ (if eqb (arrive_says limit c id s b).0.number 11 then get_or s 1 0 else 0)
  arrive-opcode =
      every (arrival_table limit c id s b) (arrive-told limit c id s b) (λ a x. a.opcode ≡ (if eqb a.number 11 then get_or s 1 0 else 0))
      (refl, (refl, (refl, (refl, (refl, (refl, (refl, (refl, (refl, (refl, (refl, (refl, refl))))))))))))

  -- "Every answer to an arriving frame, but 1, 3 and a closed record's 4, carries that mark on" (02, request 4)
  marked-carries : (arrive_says limit c id s b).1.0 ≡ true
      → (is_padded s ≡ true) × ((arrive_says limit c id s b).0.number ≢ 1) × ((arrive_says limit c id s b).0.number ≢ 3)
  marked-carries =
      every (arrival_table limit c id s b) (arrive-told limit c id s b) (λ a x. x.0 ≡ true → (is_padded s ≡ true) × (a.number ≢ 1) × (a.number ≢ 3))
      (bare, (bare, (bare, (with-mark 4 refl, (with-mark 2 refl, (bare, (with-mark 12 refl, (with-mark 8 refl, (bare, (bare, (bare, (bare, with-mark 0 refl))))))))))))

  standing : (arrive_says limit c id s b).1.0 ≡ true → is_closed c ≡ false
  standing m = either (is_closed c) (λ closed. absurd (false≢true (sym (told-mark ∙ rw closed) ∙ m))) (λ closed. closed)
    where
      told-mark : (arrive_says limit c id s b).1.0 ≡ (told_by (arrival_table limit c id s b)).1.0
      told-mark = ap (λ (x : Said × (Bool × Connection × List ℕ)). x.1.0) (arrive-told limit c id s b)

  -- so it is with every other answer: those without a mark are to data or to a reply, or 1, 3 or a closed record's 4
  carries-marked : is_padded s ≡ true → is_closed c ≡ false → (arrive_says limit c id s b).0.number ≢ 1 → (arrive_says limit c id s b).0.number ≢ 3 → (arrive_says limit c id s b).1.0 ≡ true
  carries-marked padded open' =
      every_held (arrival_table limit c id s b) (arrive-told limit c id s b) (λ a x. a.number ≢ 1 → a.number ≢ 3 → x.0 ≡ true) (
        λ closed. absurd (false≢true (sym open' ∙ closed)),
        (
          λ _ one three. absurd (three refl),
          (
            λ _ one three. absurd (one refl),
            (
              λ _ one three. padded,
              (
                λ _ one three. padded,
                (
                  λ r. absurd (false≢true (sym (refusal-unpadded c.profile s (search and_second)) ∙ padded)),
                  carries (ways_of c) limit ch s b (is_open c) (always (plain 0) (is_padded s, c, b)) padded (λ one three. padded),
                ),
              ),
            ),
          ),
        ),
      )

  pub arrive-marks : ((arrive_says limit c id s b).1.0 ≡ true)
      ↔ ((is_padded s ≡ true) × (is_closed c ≡ false) × ((arrive_says limit c id s b).0.number ≢ 1) × ((arrive_says limit c id s b).0.number ≢ 3))
  arrive-marks = (λ m. let k = marked-carries m in (k.0, standing m, k.1, k.2), λ g. carries-marked g.0 g.1 g.2 g.3)

  not_done : (is_open c && finishes ch s) ≡ false → (arrive_says limit c id s b).0.done ≡ false
  not_done f =
      every (arrival_table limit c id s b) (arrive-told limit c id s b) (λ a x. a.done ≡ false)
      (refl, (refl, (refl, (refl, (refl, (refl, (refl, (refl, (refl, (refl, (refl, (refl, f))))))))))))

  told-done : (arrive_says limit c id s b).0.done ≡ (told_by (arrival_table limit c id s b)).0.done
  told-done = ap (λ (x : Said × (Bool × Connection × List ℕ)). x.0.done) (arrive-told limit c id s b)

  not_ours : other_id c id ≡ true → (arrive_says limit c id s b).0.done ≡ false
  not_ours o = told-done ∙ (either (is_closed c) (λ e. rw e) (λ e. rw (e, o)))

  finishes-there : is_open c ≡ true → other_id c id ≡ false → finishes ch s ≡ true → (arrive_says limit c id s b).0.done ≡ true
  finishes-there open' same f =
      let phases : (is_closed c || is_requesting c || is_agreeing c) ≡ false = not-true (is_closed c || is_requesting c || is_agreeing c) open' in
      let closed : is_closed c ≡ false = search (or-first, or-second) in
      let req : is_requesting c ≡ false = search (or-first, or-second) in
      let agr : is_agreeing c ≡ false = search (or-first, or-second) in
      told-done ∙ rw (closed, same, req, agr, ack-there c.profile s (search (and_first, and_second))) (finishing (ways_of c) limit ch s b f)

  -- "The message is done when its last frame is acknowledged, and the answer to that Ack says so"
  pub arrive-done : ((arrive_says limit c id s b).0.done ≡ true) ↔ ((is_open c ≡ true) × (other_id c id ≡ false) × (finishes ch s ≡ true))
  arrive-done = (
    λ d. let f : (is_open c && finishes ch s) ≡ true = either (is_open c && finishes ch s) (λ f. f) (λ f. absurd (true≢false (sym d ∙ not_done f))) in
        (search and_first, either (other_id c id) (λ o. absurd (true≢false (sym d ∙ not_ours o))) (λ o. o), search and_second),
    λ g. finishes-there g.0 g.1 g.2,
  )

-- ---- open

module _ (c : Connection) (p : Profile) (s : Settings) where
  pub open_row : (n : ℕ) → ((open_as_says c p s).0.number ≡ n) ↔ Given n (open_as_says c p s).1 (open_table c p s)
  open_row = given (open_table c p s) (open_told c p s)

  pub open-row-0 : Says 0 (asking 1 p s 0 0) (open_as_says c p s) (open_table c p s)
  open-row-0 = says _ (open_told c p s) 0 refl

  pub open-row-4 : Says 4 c (open_as_says c p s) (open_table c p s)
  open-row-4 = says _ (open_told c p s) 4 (λ _. refl, tt)

  pub open-row-10 : Says 10 c (open_as_says c p s) (open_table c p s)
  open-row-10 = says _ (open_told c p s) 10 (λ _. refl, tt)

-- ---- time passes

module _ (c : Connection) (n : ℕ) where
  pub time-row : (m : ℕ) → ((time_says c n).0.number ≡ m) ↔ Given m (time_says c n).1 (time_table c n)
  time-row = given (time_table c n) (time-told c n)

  pub time-row-0 : Says 0 (record_later c n) (time_says c n) (time_table c n)
  time-row-0 = says _ (time-told c n) 0 refl

  pub time-row-8 : Says 8 closed_record (time_says c n) (time_table c n)
  time-row-8 = says _ (time-told c n) 8 (λ _. refl, tt)

-- ---- what is due

module _ (c : Connection) (m : List ℕ) where
  pub due-row : (n : ℕ) → ((due_says c m).0.number ≡ n) ↔ Given n (due_says c m).1 (due_table c m)
  due-row = given (due_table c m) (due-told c m)

  -- with 0, the frame of the first row that holds is handed over, or none
  pub due-row-0 : ((due_says c m).0.number ≡ 0) ↔ Given 0 (due_says c m).1 (due_table c m)
  due-row-0 = due-row 0

  pub due-row-7 : Says 7 (hands_none c) (due_says c m) (due_table c m)
  due-row-7 = says _ (due-told c m) 7 (λ _. refl, tt)

-- "record closed, nothing due"
pub closed-hands-none : (m : List ℕ) → due_says closed_record m ≡ (plain 0, hands_none closed_record)
unfolding due_of closed_due
closed-hands-none m = refl

-- "closed, one A8 due"
pub leaving-hands-one : (transmit : ℕ) (m : List ℕ) → due_says (leaving_on transmit) m ≡ (plain 0, hands transmit (single 0xA8) closed_record)
unfolding due_of closed_due
leaving-hands-one transmit m = refl

-- ---- send

module _ (limit : ℕ) (c : Connection) (n : ℕ) where
  pub send-row : (m : ℕ) → ((send_says limit c n).0.number ≡ m) ↔ Given m (send_says limit c n).1 (send_table limit c n)
  send-row = given (send_table limit c n) (send-told limit c n)

  pub send-row-0 : Says 0 (on_channel c (on_sender c.end.channel (message_accepted c.end.channel.sender n))) (send_says limit c n) (send_table limit c n)
  send-row-0 = says _ (send-told limit c n) 0 refl

  pub send-row-4 : Says 4 c (send_says limit c n) (send_table limit c n)
  send-row-4 = says _ (send-told limit c n) 4 (λ _. refl, tt)

  pub send-row-5 : Says 5 c (send_says limit c n) (send_table limit c n)
  send-row-5 = says _ (send-told limit c n) 5 (λ _. refl, tt)

  pub send-row-6 : Says 6 c (send_says limit c n) (send_table limit c n)
  send-row-6 = says _ (send-told limit c n) 6 (λ _. refl, tt)

-- ---- take

module _ (c : Connection) (room : ℕ) where
  pub take_row : (n : ℕ) → ((take_says c room).0.number ≡ n) ↔ Given n (take_says c room).1 (take_table c room)
  take_row = given (take_table c room) (take-told c room)

  abbrev complete : Message
  complete = c.end.channel.receiver.complete

  pub take-row-0 : Says 0 (complete.length, complete.flags, on_channel c (on_receiver c.end.channel (message_taken c.end.channel.receiver))) (take_says c room) (take_table c room)
  take-row-0 = says _ (take-told c room) 0 refl

  pub take-row-4 : Says 4 (0, 0, c) (take_says c room) (take_table c room)
  take-row-4 = says _ (take-told c room) 4 (λ _. refl, tt)

  pub take-row-5 : Says 5 (0, 0, c) (take_says c room) (take_table c room)
  take-row-5 = says _ (take-told c room) 5 (λ _. refl, tt)

  pub take-row-7 : Says 7 (0, 0, c) (take_says c room) (take_table c room)
  take-row-7 = says _ (take-told c room) 7 (λ _. refl, tt)

-- ---- close

module _ (c : Connection) where
  pub close_row : (n : ℕ) → ((close_says c).0.number ≡ n) ↔ Given n (close_says c).1 (close_table c)
  close_row = given (close_table c) (close-told c)

  pub close-row-0 : Says 0 (if is_requesting c then closed_record else leaving_on c.end.transmit) (close_says c) (close_table c)
  close-row-0 = says _ (close-told c) 0 refl

  pub close-row-4 : Says 4 c (close_says c) (close_table c)
  close-row-4 = says _ (close-told c) 4 (λ _. refl, tt)
