-- 02, 7, "Demand 3 holds for each connection": a place of a table as an end of `delivery`, each call by the very definition of its contract
-- (but for a frame that this place does not own, at `heard`), while any calls go to the other places in between. proofs/Demand3.antt proves what is claimed.
use Rattle.std.specs.Prelude.{ℕ, ◌≤◌, ◌<◌, true, List, [], ◌∷◌, ◌++◌, ◌≢◌, ◌≡◌, eqb, if◌then◌else◌}
use Rattle.std.specs.Option.{is_some}
use Rattle.open_end.specs.OpenEnd.{given_frame}
use Rattle.telegram.specs.Outgoing.{bytes_of}
use Rattle.channel.specs.declared.Answer.TheVariants.{NotDue}
use Rattle.open_end.specs.declared.answers.Answer.TheVariants.{Channel}
use Rattle.open_end.specs.declared.answers.Told.{Told as Answer}
use Rattle.open_end.specs.Answers.{told}
use Rattle.connection.specs.declared.Connection.{Connection}
use Rattle.connection.specs.Record.{is_open}
use Rattle.table.specs.declared.Table.{Table}
use Rattle.open_end.specs.declared.answers.Due.{Due}
use Rattle.open_end.specs.declared.answers.TakeStep.{TakeStep}
use Rattle.table.specs.Table.{places, empty, at, owner_of}
use Rattle.table.specs.Calls.{arrives, buffers, elapses, hands, sends, takes}
use Rattle.table_runs.specs.Runs.{Call, run, goes_to}
use Rattle.table_runs.specs.Runs.Call.{frame, time, due, send, take}
use Rattle.delivery.specs.End.{Told, Taken, Given, End}
use Rattle.delivery.specs.Claim.{Demand3Holds}
use Rattle.delivery.specs.BothWays.{BothWaysHolds}
use Rattle.connection_delivery.specs.Ends.{connection_end}
use Rattle.unit_delivery.specs.Ends.{unit_end}

-- ---- a table, seen from one place

-- every call to the table so far, from the empty one;
-- and what goes to the other places before each further call to this one, the first one first: when it is used up, nothing does
pub record Past : Type 0 where
  pub calls : List Call
  pub others : List (List Call)

-- one call more
abbrev pub called : Past → Call → Past
called x c = record { calls = x.calls ++ (c ∷ []); others = x.others }

module _ (limit : ℕ) where
  -- the table that the calls have led to
  abbrev pub table_of : Past → Table
  table_of x = run limit empty x.calls

  module _ (place : ℕ) where
    -- the record at the place
    abbrev pub record_of : Past → Connection
    record_of x = at (table_of x) place

    -- calls meant for the others are made one by one; one that would go to this place is left out,
    -- and so is an opening that would take it: from then on another connection would stand there
    unfoldable pub meanwhile : (calls meant : List Call) → List Call
    meanwhile calls [] = calls
    meanwhile calls (c ∷ cs) = meanwhile (if eqb (goes_to (run limit empty calls) c) place then calls else calls ++ (c ∷ [])) cs

    -- the next of the others' lists has been called
    unfoldable pub after_others : (calls : List Call) → (others : List (List Call)) → Past
    after_others calls [] = record { calls = calls; others = [] }
    after_others calls (cs ∷ rest) = record { calls = meanwhile calls cs; others = rest }

    -- what a call to this place meets
    abbrev pub readied : Past → Past
    readied x = after_others x.calls x.others

    -- "Arriving frames go to the one owner": one for another or for none is no call of this connection. The table answers it 3, or what its owner says;
    -- here it is told 4, as by a closed record: of a number only 8 is noted, and while the place is open it owns its receive ID (`owns`)
    abbrev pub heard : Table → (id : ℕ) → (bytes : List ℕ) → (room : ℕ) → Answer
    heard t id bytes room = if eqb (owner_of t id) place then (arrives limit t id bytes room).told else told (Channel NotDue)

    -- the lent buffer after it: only an owner's is written
    abbrev pub lent_after : Table → (id : ℕ) → (bytes buffer : List ℕ) → List ℕ
    lent_after t id bytes b = if eqb (owner_of t id) place then buffers limit t id bytes b else b

-- ---- the end

-- what a call says, and the calls so far with it
abbrev pub tells : Answer → Past → Told Past
tells a x = record { number = a.said.number; done = a.said.done; state = x }

-- the same of a take
abbrev pub shows : TakeStep Table → Past → Taken Past
shows t x = record { number = t.told.said.number; message = record { length = t.len; flags = t.flags }; state = x }

-- the same of what is due: the frame's ID and bytes
abbrev pub gives : Due Table → Past → Given Past
gives d x = record { given = is_some d.frame; id = (given_frame d.frame).id; bytes = bytes_of (given_frame d.frame).payload; state = x }

-- the table's calls at a place, each after what goes to the others; its channel and its two IDs are those of the record there
abbrev pub place_end : (limit place : ℕ) → End
place_end limit p =
    record {
      State = Past;
      send = λ x n. (let y = readied limit p x in tells (sends limit (table_of limit y) p n).told (called y (send p n)));
      take = λ x room. (let y = readied limit p x in shows (takes (table_of limit y) p room) (called y (take p room)));
      time = λ x n. (let y = readied limit p x in tells (elapses (table_of limit y) p n).told (called y (time p n)));
      due = λ x m. (let y = readied limit p x in gives (hands (table_of limit y) p m) (called y (due p m)));
      arrive = λ x id bytes room. (let y = readied limit p x in tells (heard limit p (table_of limit y) id bytes room) (called y (frame id bytes room)));
      buffered = λ x id. lent_after limit p (table_of limit (readied limit p x)) id;
      open' = λ x. is_open (record_of limit p x);
      channel = λ x. (record_of limit p x).end.channel;
      receives = λ x. (record_of limit p x).end.receive;
      transmits = λ x. (record_of limit p x).end.transmit;
    }

-- ---- what is claimed

-- a place and another end: demand 3, whichever of the two sends, and request 14's claim
pub record ForAPlace (limit place : ℕ) (F : End) : Type 0 where
  pub sends : Demand3Holds (place_end limit place) F
  pub receives : Demand3Holds F (place_end limit place)
  pub both : BothWaysHolds (place_end limit place) F

-- "Demand 3 holds for each connection": for each place and a control unit, a connection record or a place of another table,
-- and every limit on lengths that twelve bits can say
abbrev pub PlacesDeliver : Type 0
PlacesDeliver =
    (limit : ℕ) → limit ≤ 4095 → (p : ℕ) → p < places
    → ForAPlace limit p (unit_end limit) × ForAPlace limit p (connection_end limit true) × ((q : ℕ) → q < places → ForAPlace limit p (place_end limit q))

-- ---- what a place meets

module _ (limit place : ℕ) where
  -- none of some calls goes to the place, each met by the table that those before it leave
  abbrev pub AllElsewhere : (calls meant : List Call) → Type 0
  AllElsewhere calls [] = Unit {0}
  AllElsewhere calls (c ∷ cs) = (goes_to (run limit empty calls) c ≢ place) × AllElsewhere (calls ++ (c ∷ [])) cs

  -- what goes to the others is called, all of it and in its order; and while the place is open it owns its receive ID: a frame there is answered and written as the table does
  pub record Meets : Type 0 where
    pub others : (calls cs : List Call) (rest : List (List Call)) → AllElsewhere calls cs
        → readied limit place (record { calls = calls; others = cs ∷ rest }) ≡ record { calls = calls ++ cs; others = rest }
    pub owns : place < places → (x : Past) → is_open (record_of limit place x) ≡ true → owner_of (table_of limit (readied limit place x)) (record_of limit place x).end.receive ≡ place

abbrev pub PlacesMeet : Type 0
PlacesMeet = (limit place : ℕ) → Meets limit place
