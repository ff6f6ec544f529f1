-- One record driven by hand: what becomes of it, call by call and line by line.
use Rattle.std.specs.Prelude.{◌≡◌, ℕ, ◌+◌, ◌-◌, ◌^◌, ◌<◌, min, Bool, true, List, ◌++◌, length, take, drop, replicate, Option, Some, None, if◌then◌else◌}
use Rattle.std.proofs.lemmas.List.Edits.{sets}
use Rattle.text.specs.Written.{place_after}
use Rattle.dialogue.specs.Words.{behind_word}
use Rattle.dialogue.specs.Calls.{call_of, call_into}
use Rattle.dialogue.specs.Session.{fresh_session, renewed, lending, keeping, next_line, is_over, with_output}
use Rattle.dialogue.specs.declared.calls.Call.{Call}
use Rattle.dialogue.specs.declared.calls.Call.TheVariants.{Nothing, Wrong, New, Frame, Time, Due, DueOf, Send, Take, Close, Room, Buffer, Other}
use Rattle.dialogue.specs.declared.session.Session.{Session}
use Rattle.dialogue.specs.declared.driven.Reply.{Reply}
use Rattle.dialogue.specs.declared.driven.Buffers.{Buffers}
use Rattle.dialogue.specs.declared.driven.Console.{Console}

-- what each call of a record answers and leaves
pub record Calls (C : Type 0) : Type 0 where
  pub closed : C
  pub arrived : C → (id : ℕ) → (bytes : List ℕ) → (room : ℕ) → Reply C
  pub buffered : C → (id : ℕ) → (bytes buffer : List ℕ) → List ℕ
  pub elapsed : C → (tenths : ℕ) → Reply C
  pub due : C → (message : List ℕ) → Reply C
  pub sent : C → (message : List ℕ) → Reply C
  pub accepted : (number : ℕ) → Bool
  pub taken : C → (room : ℕ) → Reply C
  pub close : C → Reply C
  pub own : C → (name : ℕ) → (words : List ℕ) → Option (Reply C)

abbrev pub no_bytes : Buffers
no_bytes = record { text = replicate 16002 0; bytes = replicate 8192 0; buffer = replicate 4096 0; message = replicate 4096 0 }

module _ {C : Type 0} where
  -- a session and the buffers before and after an answer is said, and the console that goes on
  pub record Said (reply : Reply C) (s : Session) (b : Buffers) (r : Console C) (after : Buffers) : Type 0 where
    pub driven : r.driven ≡ reply.next
    pub session : r.session ≡ with_output s r.session.output
    pub bytes : after.bytes ≡ b.bytes
    pub buffer : after.buffer ≡ b.buffer
    pub message : after.message ≡ b.message

module _ {C : Type 0} (calls : Calls C) where
  -- a closed record, and no line read
  abbrev pub begun : Console C
  begun = record { driven = calls.closed; session = fresh_session }

  -- how much of the buffer is lent to a frame
  abbrev pub most_lent : Console C → Buffers → ℕ
  most_lent c b = min c.session.room (length b.buffer)

  -- the record that a call of its own leaves, if it is one
  abbrev pub left_by : Option (Reply C) → C → C
  left_by None c = c
  left_by (Some r) c = r.next

  -- the record that a call leaves, with the words behind its name
  abbrev pub left : Call → List ℕ → Console C → Buffers → C
  left Nothing words c b = c.driven
  left Wrong words c b = c.driven
  left New words c b = calls.closed
  left (Frame id n) words c b = (calls.arrived c.driven id (take n b.bytes) (most_lent c b)).next
  left (Time t) words c b = (calls.elapsed c.driven t).next
  left Due words c b = (calls.due c.driven (take c.session.length b.message)).next
  left (DueOf n) words c b = (calls.due c.driven (take n b.bytes)).next
  left (Send n) words c b = (calls.sent c.driven (take n b.bytes)).next
  left Take words c b = (calls.taken c.driven c.session.room).next
  left Close words c b = (calls.close c.driven).next
  left (Room n) words c b = c.driven
  left Buffer words c b = c.driven
  left (Other name) words c b = left_by (calls.own c.driven name words) c.driven

  -- a message of n bytes of the line is accepted
  abbrev pub accepts : ℕ → Console C → Buffers → Bool
  accepts n c b = calls.accepted (calls.sent c.driven (take n b.bytes)).carried.said.number

  -- the buffer that a call leaves: a frame may write to what is lent of it
  abbrev pub buffer_left : Call → Console C → Buffers → List ℕ
  buffer_left New c b = replicate (length b.buffer) 0
  buffer_left (Frame id n) c b =
      calls.buffered c.driven id (take n b.bytes) (take (most_lent c b) b.buffer) ++ drop (most_lent c b) b.buffer
  buffer_left call c b = b.buffer

  -- the message that a call leaves: the last that was accepted
  abbrev pub message_left : Call → Console C → Buffers → List ℕ
  message_left (Send n) c b = if accepts n c b then sets b.message 0 (take n b.bytes) else b.message
  message_left call c b = b.message

  -- the session that a call leaves, but for the output
  abbrev pub session_left : Call → Console C → Buffers → Session
  session_left New c b = renewed c.session
  session_left (Room n) c b = lending c.session n
  session_left (Send n) c b =
      if accepts n c b then keeping c.session (place_after (length b.message) 0 (length (take n b.bytes))) else c.session
  session_left call c b = c.session

  -- a console and what it lends before and after a call, with the words behind its name
  pub record Ran (call : Call) (words : List ℕ) (c : Console C) (b : Buffers) (r : Console C) (after : Buffers) : Type 0 where
    pub driven : r.driven ≡ left call words c b
    pub session : r.session ≡ with_output (session_left call c b) r.session.output
    pub bytes : after.bytes ≡ b.bytes
    pub buffer : after.buffer ≡ buffer_left call c b
    pub message : after.message ≡ message_left call c b

  -- a console whose input has ended, it may be, with a line that was read
  abbrev pub with_line : Bool → Console C → Console C
  with_line ended c = record { driven = c.driven; session = next_line c.session ended }

  -- a line is in the text, and the bytes that it gives are read
  abbrev pub with_text : (text line : List ℕ) → Buffers → Buffers
  with_text text line b = record { text = text; bytes = call_into b.bytes line; buffer = b.buffer; message = b.message }

  -- a console and what it lends before and after a turn: a line is read into the text, and what it asks for is run
  pub record Turned (c : Console C) (b : Buffers) (r : Console C) (after : Buffers) : Type 0 where
    pub line : List ℕ
    pub ended : Bool
    pub text : List ℕ
    pub ran : Ran (call_of (length b.bytes) line) (behind_word line) (with_line ended c) (with_text text line b) r after

  -- the same before and after so many turns
  pub data Turns : ℕ → Console C → Buffers → Console C → Buffers → Type 0 where
    no_turn : {c : Console C} {b : Buffers} → Turns 0 c b c b
    one_more : {n : ℕ} {c d e : Console C} {b s t : Buffers} → Turns n c b d s → Turned d s e t → Turns (n + 1) c b e t

  -- a console after turns that began with a closed record, no line read and no bytes, and went on until the input ended or the
  -- output took no more
  pub record Talked (r : Console C) : Type 0 where
    pub turns : ℕ
    pub after : Buffers
    pub turned : Turns turns begun no_bytes r after
    pub until : turns < 2 ^ 64 - 1 → is_over r.session ≡ true
