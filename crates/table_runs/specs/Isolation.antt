-- 02, 7: isolation, sentence by sentence. Two runs from an empty table, side by side. proofs/Isolation.antt proves it.
use Rattle.std.specs.Prelude.{ℕ, ◌≤◌, ◌<◌, Bool, false, ◌≡◌, ◌≢◌, ◌⊎◌, List, [], ◌∷◌, eqb, length, get_or, set, replicate, take as front, if◌then◌else◌, Option, Some, None}
use Rattle.settings.specs.declared.Settings.{Settings}
use Rattle.open_end.specs.declared.answers.Told.{Told}
use Rattle.open_end.specs.declared.Frame.{Frame}
use Rattle.connection.specs.declared.Connection.{Connection}
use Rattle.connection.specs.Record.{is_closed, closed_record}
use Rattle.connection.specs.Calls.{buffered}
use Rattle.table.specs.declared.Table.{Table}
use Rattle.table.specs.Table.{places, empty, at, owner_of}
use Rattle.table.specs.Calls.{opens, arrives, buffers, elapses, hands, sends, takes, closes}
use Rattle.table_runs.specs.Runs.{Call, step, run, goes_to}
use Rattle.table_runs.specs.Runs.Call.{open', frame, time, due, send, take, close}

-- ---- one run

-- a table, and the buffer of the connection at each place: "each connection lent its own buffer"
pub record Desk : Type 0 where
  pub table : Table
  pub lent : List (List ℕ)

-- an empty table, and no buffer yet
abbrev pub start : Desk
start = record { table = empty; lent = replicate places [] }

-- the buffer at a place
abbrev pub buffer_at : Desk → ℕ → List ℕ
buffer_at d p = get_or d.lent p []

-- all that a call is answered with: the frame handed over, if there is one, and a message's flags and bytes if one is shown.
-- A call's room is any number here; in a call of 01 it is the length of the lent buffer
pub record Reply : Type 0 where
  pub told : Told
  pub place : Option ℕ
  pub padded : Bool
  pub frame : Option Frame
  pub flags : ℕ
  pub message : List ℕ

-- an answer that carries nothing else
abbrev pub plainly : Told → Reply
plainly a = record { told = a; place = None; padded = false; frame = None; flags = 0; message = [] }

-- ---- "Take two runs from an empty table"

-- what happens in them
pub data Event : Type 0 where
  -- "with the same openings"
  opening : Settings → (buffer : List ℕ) → Event
  -- the one that begins the "one connection"; its buffer in the second run may be another
  begins : Settings → (buffer buffer' : List ℕ) → Event
  -- "the same calls to the others"
  both : Call → Event
  -- "one connection getting any calls of its own between", in the first run or in the second;
  -- a frame that is its own in one run and nobody's in the other comes as one of each
  first second : Call → Event

-- the two, and the place of the one connection: 8 before it begins, if its opening is refused, and once a later opening has taken its place
pub record Two : Type 0 where
  pub one : Desk
  pub two : Desk
  pub apart : ℕ

-- both start empty
abbrev pub begin : Two
begin = record { one = start; two = start; apart = places }

-- ---- what is assumed of a call

-- no opening
abbrev pub NoOpening : Call → Type 0
NoOpening (open' s) = ⊥
NoOpening (frame id bytes room) = Unit {0}
NoOpening (time p n) = Unit {0}
NoOpening (due p m) = Unit {0}
NoOpening (send p n) = Unit {0}
NoOpening (take p room) = Unit {0}
NoOpening (close p) = Unit {0}

-- the unit and the receive ID that a record uses
abbrev pub usage : Connection → Option (ℕ × ℕ)
usage c = if is_closed c then None else Some (c.settings.unit, c.settings.receive)

-- "the same places, units and receive IDs in use"
abbrev pub SameInUse : Desk → Desk → Type 0
SameInUse d e = (p : ℕ) → usage (at d.table p) ≡ usage (at e.table p)

-- a call that is not the one connection's: it goes to another, or to none (where there is no such connection, x is 8, and every call is one)
abbrev pub ToOthers : Desk → (apart : ℕ) → Call → Type 0
ToOthers d x c = goes_to d.table c ≡ x → places ≤ x

-- a call of nobody's: it goes to none, or to a place that stands as in the empty table, as one does that was never opened
abbrev pub Nobodys : Desk → Call → Type 0
Nobodys d c = (places ≤ goes_to d.table c) ⊎ (at d.table (goes_to d.table c) ≡ closed_record)

-- a call of the one connection's own, or of nobody's
abbrev pub OfItsOwn : Desk → (apart : ℕ) → Call → Type 0
OfItsOwn d x c = (goes_to d.table c ≡ x) ⊎ Nobodys d c

-- ---- what a call does

module _ (limit : ℕ) where
  -- what a call is answered with
  abbrev pub reply : Desk → Call → Reply
  reply d (open' s) =
      (let r = opens d.table s in
      record { told = r.told; place = r.place; padded = false; frame = None; flags = 0; message = [] })
  reply d (frame id bytes room) =
      (let r = arrives limit d.table id bytes room in
      record { told = r.told; place = r.place; padded = r.padded; frame = None; flags = 0; message = [] })
  reply d (time p n) = plainly (elapses d.table p n).told
  reply d (due p m) =
      (let r = hands d.table p m in
      record { told = r.told; place = None; padded = false; frame = r.frame; flags = 0; message = [] })
  reply d (send p n) = plainly (sends limit d.table p n).told
  reply d (take p room) =
      (let r = takes d.table p room in
      record { told = r.told; place = None; padded = false; frame = None; flags = r.flags; message = front r.len (buffer_at d p) })
  reply d (close p) = plainly (closes d.table p).told

  -- the lent buffers after it: a frame's owner may have written to its own
  abbrev pub lent_after : Desk → Call → List (List ℕ)
  lent_after d (frame id bytes room) = (let p = owner_of d.table id in set d.lent p (buffers limit d.table id bytes (buffer_at d p)))
  lent_after d (open' s) = d.lent
  lent_after d (time p n) = d.lent
  lent_after d (due p m) = d.lent
  lent_after d (send p n) = d.lent
  lent_after d (take p room) = d.lent
  lent_after d (close p) = d.lent

  -- a call
  abbrev pub after : Desk → Call → Desk
  after d c = record { table = step limit d.table c; lent = lent_after d c }

  -- an opening, with the buffer of the connection that it may begin
  abbrev pub opened : Desk → Settings → (buffer : List ℕ) → Desk
  opened d s b = record { table = step limit d.table (open' s); lent = set d.lent (goes_to d.table (open' s)) b }

  -- ---- two runs

  -- the one connection's place after an opening
  abbrev pub apart_after : Two → Settings → ℕ
  apart_after r s = if eqb (goes_to r.one.table (open' s)) r.apart then places else r.apart

  -- one event
  abbrev pub happens : Two → Event → Two
  happens r (opening s b) = record { one = opened r.one s b; two = opened r.two s b; apart = apart_after r s }
  happens r (begins s b b') = record { one = opened r.one s b; two = opened r.two s b'; apart = goes_to r.one.table (open' s) }
  happens r (both c) = record { one = after r.one c; two = after r.two c; apart = r.apart }
  happens r (first c) = record { one = after r.one c; two = r.two; apart = r.apart }
  happens r (second c) = record { one = r.one; two = after r.two c; apart = r.apart }

  -- a list of events
  abbrev pub runs : Two → List Event → Two
  runs r [] = r
  runs r (e ∷ es) = runs (happens r e) es

  -- ---- what is assumed

  -- what is assumed of an event
  abbrev pub Fair : Two → Event → Type 0
  Fair r (opening s b) = SameInUse r.one r.two
  Fair r (begins s b b') = SameInUse r.one r.two × (r.apart ≡ places)
  Fair r (both c) = NoOpening c × (ToOthers r.one r.apart c × ToOthers r.two r.apart c)
  Fair r (first c) = NoOpening c × OfItsOwn r.one r.apart c
  Fair r (second c) = NoOpening c × OfItsOwn r.two r.apart c

  -- and of each in a list
  abbrev pub AllFair : Two → List Event → Type 0
  AllFair r [] = Unit {0}
  AllFair r (e ∷ es) = Fair r e × AllFair (happens r e) es

  -- ---- what then holds

  -- the replies of a run to the openings and to the calls to the others
  abbrev pub replies : (Two → Desk) → Two → List Event → List Reply
  replies side r [] = []
  replies side r (opening s b ∷ es) = reply (side r) (open' s) ∷ replies side (happens r (opening s b)) es
  replies side r (begins s b b' ∷ es) = reply (side r) (open' s) ∷ replies side (happens r (begins s b b')) es
  replies side r (both c ∷ es) = reply (side r) c ∷ replies side (happens r (both c)) es
  replies side r (first c ∷ es) = replies side (happens r (first c)) es
  replies side r (second c ∷ es) = replies side (happens r (second c)) es

  -- the calls of the first run, and of the second
  abbrev pub first_calls : List Event → List Call
  first_calls [] = []
  first_calls (opening s b ∷ es) = open' s ∷ first_calls es
  first_calls (begins s b b' ∷ es) = open' s ∷ first_calls es
  first_calls (both c ∷ es) = c ∷ first_calls es
  first_calls (first c ∷ es) = c ∷ first_calls es
  first_calls (second c ∷ es) = first_calls es

  abbrev pub second_calls : List Event → List Call
  second_calls [] = []
  second_calls (opening s b ∷ es) = open' s ∷ second_calls es
  second_calls (begins s b b' ∷ es) = open' s ∷ second_calls es
  second_calls (both c ∷ es) = c ∷ second_calls es
  second_calls (first c ∷ es) = second_calls es
  second_calls (second c ∷ es) = c ∷ second_calls es

  -- "each connection lent its own buffer": a frame's owner writes to its own as a lone record does, and every other buffer stays
  pub record LendsItsOwn (d : Desk) (id : ℕ) (bytes : List ℕ) (room : ℕ) : Type 0 where
    pub owner : (p : ℕ) → owner_of d.table id ≡ p → p < length d.lent → p < places
        → buffer_at (after d (frame id bytes room)) p ≡ buffered limit (at d.table p) id bytes (buffer_at d p)
    pub others : (p : ℕ) → p ≢ owner_of d.table id → buffer_at (after d (frame id bytes room)) p ≡ buffer_at d p

  -- each of the two is a run of its calls from the empty table
  pub record AreRuns (es : List Event) : Type 0 where
    pub one : (runs begin es).one.table ≡ run limit empty (first_calls es)
    pub two : (runs begin es).two.table ≡ run limit empty (second_calls es)

  -- "the answers, buffers and records of the others are the same", at the end of the list: so at every moment, as a front of a fair list is fair
  pub record Isolated (es : List Event) : Type 0 where
    pub answers : replies (λ r. r.one) begin es ≡ replies (λ r. r.two) begin es
    pub buffers : (p : ℕ) → p ≢ (runs begin es).apart → buffer_at (runs begin es).one p ≡ buffer_at (runs begin es).two p
    pub records : (p : ℕ) → p ≢ (runs begin es).apart → at (runs begin es).one.table p ≡ at (runs begin es).two.table p

-- for every list of events
abbrev pub IsolationHolds : Type 0
IsolationHolds = (limit : ℕ) (es : List Event) → AllFair limit begin es → Isolated limit es
