-- 02, request 5, call by call, as one claim: what each call of a control unit says and leaves is what its table in specs/Rows.antt
-- tells, and each number is given exactly where the table gives it, for every record, ID, frame, buffer, settings, reply, time,
-- message length and room. proofs/UnitRows.antt proves it.
use Rattle.std.specs.Prelude.{ℕ, true, false, List, ◌↔◌, ◌≢◌, ◌≡◌, length, take}
use Rattle.std.specs.Borrow.{Bor}
use Rattle.telegram.specs.Cutting.{longest}
use Rattle.settings.specs.declared.Settings.{Settings}
use Rattle.open_end.specs.declared.answers.Said.{Said}
use Rattle.open_rows.specs.Tables.{told_by, GoesBy}
use Rattle.open_rows.specs.Rows.{is_padded, finishes}
use Rattle.unit.specs.declared.ControlUnit.{ControlUnit}
use Rattle.unit.specs.Record.{closed_unit}
use Rattle.unit.specs.Calls.{takes}
use Rattle.unit_rows.specs.Records.{is_closed, is_open, unit_defaults, closed_with}
use Rattle.unit_rows.specs.Rows.{on_request_id, other_id, arrival_table, arrive_says, set_table, set_says, time_table, time_says, due_table, due_says, send_table, send_says, take_table, take_says, close_table, close_says}

-- "11 | D6, D7 or D8, with that opcode" is for a reply that arrives: neither is said
abbrev pub NoReply : Said → Type 0
NoReply a = (a.number ≢ 11) × (a.opcode ≡ 0)

-- what 01 and request 5 say of the numbers on this side, call by call; the limit is the longest message's length
pub record UnitRows : Type 0 where
  -- "messages of 1 to 1,024 bytes": the limit that the code's promises name
  pub limit : longest ≡ 1024
  -- a closed unit, nothing due, is had without any input, with these settings and D0 to reply
  pub had : closed_unit ≡ closed_with unit_defaults 0xD0
  -- a CAN frame arrives, and a buffer is lent
  pub arrive : (limit : ℕ) (c : ControlUnit) (id : ℕ) (s b : List ℕ) → GoesBy (arrive_says limit c id s b) (arrival_table limit c id s b)
  -- set
  pub set : (c : ControlUnit) (s : Settings) (reply : ℕ) → GoesBy (set_says c s reply) (set_table c s reply)
  -- time has passed
  pub time : (c : ControlUnit) (n : ℕ) → GoesBy (time_says c n) (time_table c n)
  -- what is due to be sent
  pub due : (c : ControlUnit) (m : List ℕ) → GoesBy (due_says c m) (due_table c m)
  -- send a message of n bytes
  pub send : (limit : ℕ) (c : ControlUnit) (n : ℕ) → GoesBy (send_says limit c n) (send_table limit c n)
  -- take a message
  pub take' : (c : ControlUnit) (room : ℕ) → GoesBy (take_says c room) (take_table c room)
  -- close
  pub close : (c : ControlUnit) → GoesBy (close_says c) (close_table c)
  -- "the message is shown as the first part of the lent buffer": where that lies, as many of its first bytes as the table tells
  pub shows :
      (c : ControlUnit) (buffer : Bor (List ℕ)) →
      (takes c buffer).message ≡ take (told_by (take_table c (length buffer.now))).1.0 buffer.now
  pub lies : (c : ControlUnit) (buffer : Bor (List ℕ)) → (takes c buffer).place ≡ buffer.ref_ptr
  -- the reader "reports the four flags with the message" (02, request 1): those that the table tells
  pub reports : (c : ControlUnit) (buffer : Bor (List ℕ)) → (takes c buffer).flags ≡ (told_by (take_table c (length buffer.now))).1.1
  -- and the take says and leaves what the table tells
  pub looks :
      (c : ControlUnit) (buffer : Bor (List ℕ)) →
      ((takes c buffer).told.said ≡ (told_by (take_table c (length buffer.now))).0)
      × ((takes c buffer).left ≡ (told_by (take_table c (length buffer.now))).1.2)
  -- "A refusal never writes to the buffer"
  pub keeps :
      (limit : ℕ) (c : ControlUnit) (id : ℕ) (s b : List ℕ) →
      (arrive_says limit c id s b).0.number ≢ 0 → (arrive_says limit c id s b).1.2 ≡ b
  -- "The message is done when its last frame is acknowledged, and the answer to that Ack says so"
  pub done :
      (limit : ℕ) (c : ControlUnit) (id : ℕ) (s b : List ℕ) →
      ((arrive_says limit c id s b).0.done ≡ true)
      ↔ ((on_request_id id ≡ false) × (other_id c id ≡ false) × (is_open c ≡ true) × (finishes c.end.channel s ≡ true))
  -- "Every answer to an arriving frame, but 1, 3 and a closed record's 4, carries that mark on" (02, request 4): of a telegram of 8 bytes that is no data, and none on 0x200
  pub marks :
      (limit : ℕ) (c : ControlUnit) (id : ℕ) (s b : List ℕ) →
      ((arrive_says limit c id s b).1.0 ≡ true)
      ↔ ((is_padded s ≡ true) × (on_request_id id ≡ false) × (is_closed c ≡ false)
      × ((arrive_says limit c id s b).0.number ≢ 1) × ((arrive_says limit c id s b).0.number ≢ 3))
  -- no answer of this side has the number 11 or an opcode
  pub unasked :
      (limit : ℕ) (c : ControlUnit) (id : ℕ) (s b m : List ℕ) (t : Settings) (n : ℕ) →
      NoReply (arrive_says limit c id s b).0
      × NoReply (set_says c t n).0
      × NoReply (time_says c n).0
      × NoReply (due_says c m).0
      × NoReply (send_says limit c n).0
      × NoReply (take_says c n).0
      × NoReply (close_says c).0

-- the claim
abbrev pub UnitRowsHolds : Type 0
UnitRowsHolds = UnitRows
