-- 02, 7, "Several units at a time": what each call of a table answers and leaves.
use Rattle.std.specs.Prelude.{ℕ, false, not, List, length, leb, if◌then◌else◌, None}
use Rattle.std.specs.Borrow.{Bor}
use Rattle.std.specs.declared.option.Option.TheVariants.{None}
use Rattle.settings.specs.Settings.{allowed}
use Rattle.settings.specs.declared.Settings.{Settings}
use Rattle.channel.specs.declared.Answer.TheVariants.{NotDue}
use Rattle.open_end.specs.declared.answers.Answer.TheVariants.{Channel, OtherId, OutOfRange, Full}
use Rattle.open_end.specs.Answers.{told, gives, Look, seen}
use Rattle.connection.specs.declared.Connection.{Connection}
use Rattle.connection.specs.Calls.{opening, arrived, buffered, elapsed, due_of, sent_by, taken_by, closed}
use Rattle.table.specs.declared.Table.{Table}
use Rattle.table.specs.declared.Opened.{Opened}
use Rattle.table.specs.declared.Arrived.{Arrived}
use Rattle.open_end.specs.declared.answers.Answered.{Answered}
use Rattle.open_end.specs.declared.answers.Due.{Due}
use Rattle.open_end.specs.declared.answers.TakeStep.{TakeStep}
use Rattle.table.specs.Table.{places, at, with, named, owner_of, free_of, is_used, reserved}

-- ---- open

-- 13, nothing changed
abbrev pub full : Table → Opened
full t = record { told = told Full; place = None; left = t }

-- 10, nothing changed
abbrev pub refuses : Table → Opened
refuses t = record { told = told OutOfRange; place = None; left = t }

-- 13 "exactly when all eight places are open or opening, and comes before 10; otherwise the lowest closed place is used and named"
unfoldable pub opens : Table → Settings → Opened
opens t s =
    if leb places (free_of t) then full t
    else if reserved s.receive then refuses t
    else if is_used t s.unit s.receive then refuses t
    else if not (allowed s) then refuses t
    else
    (let r = opening (at t (free_of t)) s in
    record { told = r.told; place = named (free_of t); left = with t (free_of t) r.left })

-- ---- a frame arrives

-- "Arriving frames go to the one owner; a frame for none is answer 3"
unfoldable pub arrives : (limit : ℕ) → Table → (id : ℕ) → (s : List ℕ) → (room : ℕ) → Arrived
arrives limit t id s room =
    if leb places (owner_of t id) then record { told = told OtherId; padded = false; place = None; left = t }
    else
    (let r = arrived limit (at t (owner_of t id)) id s room in
    record { told = r.told; padded = r.padded; place = named (owner_of t id); left = with t (owner_of t id) r.left })

-- the lent buffer after it: the owner's
unfoldable pub buffers : (limit : ℕ) → Table → (id : ℕ) → (s b : List ℕ) → List ℕ
buffers limit t id s b = if leb places (owner_of t id) then b else buffered limit (at t (owner_of t id)) id s b

-- ---- "Every other call names its place, 0 to 7 (else 4)"

-- 4, nothing changed
abbrev pub nowhere : Table → Answered Table
nowhere t = gives NotDue t

-- what the record at a place answers, and the table with what it leaves there
abbrev pub answers : Table → (place : ℕ) → Answered Connection → Answered Table
answers t p r = record { told = r.told; left = with t p r.left }

-- time passes
unfoldable pub elapses : Table → (place : ℕ) → ℕ → Answered Table
elapses t p n = if leb places p then nowhere t else answers t p (elapsed (at t p) n)

-- what is due, lent a message
unfoldable pub hands : Table → (place : ℕ) → List ℕ → Due Table
hands t p m =
    if leb places p then record { told = told (Channel NotDue); frame = None; left = t }
    else (let d = due_of (at t p) m in record { told = d.told; frame = d.frame; left = with t p d.left })

-- a message of n bytes is offered
unfoldable pub sends : (limit : ℕ) → Table → (place : ℕ) → ℕ → Answered Table
sends limit t p n = if leb places p then nowhere t else answers t p (sent_by limit (at t p) n)

-- a message is taken, lent a buffer of room bytes
unfoldable pub takes : Table → (place : ℕ) → (room : ℕ) → TakeStep Table
takes t p room =
    if leb places p then record { told = told (Channel NotDue); len = 0; flags = 0; left = t }
    else (let r = taken_by (at t p) room in record { told = r.told; len = r.len; flags = r.flags; left = with t p r.left })

-- a message is taken, lent a buffer: it is shown as the first part of it, where it lies
abbrev pub shows : Table → (place : ℕ) → (buffer : Bor (List ℕ)) → Look Table
shows t p b = seen (takes t p (length b.now)) b

-- close
unfoldable pub closes : Table → (place : ℕ) → Answered Table
closes t p = if leb places p then nowhere t else answers t p (closed (at t p))
