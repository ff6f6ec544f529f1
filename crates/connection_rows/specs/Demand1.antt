-- Demand 1, as one claim: what each call says and leaves is what its table in specs/Rows.antt tells, and each number is given exactly
-- where the table gives it, for every record, ID, frame, buffer, profile, settings, time, message length and room. proofs/Demand1.antt proves it.
use Rattle.std.specs.Prelude.{ℕ, true, false, List, ◌↔◌, ◌≢◌, ◌≡◌, length, take, get_or, eqb, if◌then◌else◌}
use Rattle.std.specs.Borrow.{Bor}
use Rattle.telegram.specs.Cutting.{longest}
use Rattle.profile.specs.declared.Profile.{Profile}
use Rattle.settings.specs.declared.Settings.{Settings}
use Rattle.open_rows.specs.Tables.{told_by, GoesBy}
use Rattle.open_rows.specs.Records.{tp20_numbers}
use Rattle.open_rows.specs.Rows.{is_padded, finishes}
use Rattle.connection.specs.declared.Connection.{Connection}
use Rattle.connection.specs.Calls.{takes}
use Rattle.connection_rows.specs.Records.{is_closed, is_open}
use Rattle.connection_rows.specs.Rows.{other_id, arrival_table, arrive_says, open_table, open_as_says, open_says, time_table, time_says, due_table, due_says, send_table, send_says, take_table, take_says, close_table, close_says}

-- what 01 says of the numbers, call by call; the limit is the longest message's length
pub record Demand1 : Type 0 where
  -- "messages of 1 to 1,024 bytes": the limit that the code's promises name
  pub limit : longest ≡ 1024
  -- a CAN frame arrives, and a buffer is lent
  pub arrive : (limit : ℕ) (c : Connection) (id : ℕ) (s b : List ℕ) → GoesBy (arrive_says limit c id s b) (arrival_table limit c id s b)
  -- open in a profile (02, request 10); and open, which is in TP 2.0
  pub open_as : (c : Connection) (p : Profile) (s : Settings) → GoesBy (open_as_says c p s) (open_table c p s)
  pub open' : (c : Connection) (s : Settings) → GoesBy (open_says c s) (open_table c tp20_numbers s)
  -- time has passed
  pub time : (c : Connection) (n : ℕ) → GoesBy (time_says c n) (time_table c n)
  -- what is due to be sent
  pub due : (c : Connection) (m : List ℕ) → GoesBy (due_says c m) (due_table c m)
  -- send a message of n bytes
  pub send : (limit : ℕ) (c : Connection) (n : ℕ) → GoesBy (send_says limit c n) (send_table limit c n)
  -- take a message
  pub take' : (c : Connection) (room : ℕ) → GoesBy (take_says c room) (take_table c room)
  -- close
  pub close : (c : Connection) → GoesBy (close_says c) (close_table c)
  -- "the message is shown as the first part of the lent buffer": where that lies, as many of its first bytes as the table tells
  pub shows :
      (c : Connection) (buffer : Bor (List ℕ)) →
      (takes c buffer).message ≡ take (told_by (take_table c (length buffer.now))).1.0 buffer.now
  pub lies : (c : Connection) (buffer : Bor (List ℕ)) → (takes c buffer).place ≡ buffer.ref_ptr
  -- the reader "reports the four flags with the message" (02, request 1): those that the table tells
  pub reports : (c : Connection) (buffer : Bor (List ℕ)) → (takes c buffer).flags ≡ (told_by (take_table c (length buffer.now))).1.1
  -- and the take says and leaves what the table tells
  pub looks :
      (c : Connection) (buffer : Bor (List ℕ)) →
      ((takes c buffer).told.said ≡ (told_by (take_table c (length buffer.now))).0)
      × ((takes c buffer).left ≡ (told_by (take_table c (length buffer.now))).1.2)
  -- "A refusal never writes to the buffer"
  pub keeps :
      (limit : ℕ) (c : Connection) (id : ℕ) (s b : List ℕ) →
      (arrive_says limit c id s b).0.number ≢ 0 → (arrive_says limit c id s b).1.2 ≡ b
  -- "The message is done when its last frame is acknowledged, and the answer to that Ack says so"
  pub done :
      (limit : ℕ) (c : Connection) (id : ℕ) (s b : List ℕ) →
      ((arrive_says limit c id s b).0.done ≡ true) ↔ ((is_open c ≡ true) × (other_id c id ≡ false) × (finishes c.end.channel s ≡ true))
  -- "Every answer to an arriving frame, but 1, 3 and a closed record's 4, carries that mark on" (02, request 4): of a telegram of 8 bytes that is no data
  pub marks :
      (limit : ℕ) (c : Connection) (id : ℕ) (s b : List ℕ) →
      ((arrive_says limit c id s b).1.0 ≡ true)
      ↔ ((is_padded s ≡ true) × (is_closed c ≡ false) × ((arrive_says limit c id s b).0.number ≢ 1) × ((arrive_says limit c id s b).0.number ≢ 3))
  -- "D6, D7 or D8, with that opcode", and no other answer has one
  pub opcode :
      (limit : ℕ) (c : Connection) (id : ℕ) (s b : List ℕ) →
      (arrive_says limit c id s b).0.opcode ≡ (if eqb (arrive_says limit c id s b).0.number 11 then get_or s 1 0 else 0)

-- the claim
abbrev pub Demand1Holds : Type 0
Demand1Holds = Demand1
