-- 02, 7: lists of calls to a table, and what holds after every list from the empty one. proofs/Runs.antt proves it.
use Rattle.std.specs.Prelude.{ℕ, ◌≤◌, ◌<◌, true, false, ◌≡◌, ◌≢◌, List, [], ◌∷◌, length, Option, Some, None}
use Rattle.profile.specs.Profile.{tp20}
use Rattle.settings.specs.declared.Settings.{Settings}
use Rattle.connection.specs.declared.Connection.{Connection}
use Rattle.connection.specs.Record.{is_closed, is_requesting, hears}
use Rattle.table.specs.declared.Table.{Table}
use Rattle.table.specs.Table.{places, empty, at, owner_of, reserved}
use Rattle.table.specs.Calls.{opens, arrives, elapses, hands, sends, takes, closes}

-- ---- lists of calls

-- the calls of a table; of a lent buffer and of an offered message the length counts
pub data Call : Type 0 where
  open' : Settings → Call
  frame : (id : ℕ) → (bytes : List ℕ) → (room : ℕ) → Call
  time : (place tenths : ℕ) → Call
  due : (place : ℕ) → (message : List ℕ) → Call
  send : (place length : ℕ) → Call
  take : (place room : ℕ) → Call
  close : (place : ℕ) → Call

-- one call, by the very definition of its contract
abbrev pub step : (limit : ℕ) → Table → Call → Table
step limit t (open' s) = (opens t s).left
step limit t (frame id bytes room) = (arrives limit t id bytes room).left
step limit t (time p n) = (elapses t p n).left
step limit t (due p m) = (hands t p m).left
step limit t (send p n) = (sends limit t p n).left
step limit t (take p room) = (takes t p room).left
step limit t (close p) = (closes t p).left

-- a list of calls
abbrev pub run : (limit : ℕ) → Table → List Call → Table
run limit t [] = t
run limit t (c ∷ cs) = run limit (step limit t c) cs

-- ---- a call to one place leaves every other place as it was

-- the number of a place, and 8 for none
abbrev pub number_of : Option ℕ → ℕ
number_of None = places
number_of (Some p) = p

-- the place that a call goes to: the one that an opening takes, a frame's owner, or the one that is named
abbrev pub goes_to : Table → Call → ℕ
goes_to t (open' s) = number_of (opens t s).place
goes_to t (frame id bytes room) = owner_of t id
goes_to t (time p n) = p
goes_to t (due p m) = p
goes_to t (send p n) = p
goes_to t (take p room) = p
goes_to t (close p) = p

-- of every table, and every call
abbrev pub OthersStay : Type 0
OthersStay = (limit : ℕ) (t : Table) (c : Call) (p : ℕ) → p ≢ goes_to t c → at (step limit t c) p ≡ at t p

-- ---- what is in use

-- a place is open or opening
abbrev pub InUse : Table → (place : ℕ) → Type 0
InUse t p = is_closed (at t p) ≡ false

-- units and receive IDs in use are distinct, and no ID has two owners
pub record Distinct (t : Table) : Type 0 where
  pub units : (p q : ℕ) → InUse t p → InUse t q → (at t p).settings.unit ≡ (at t q).settings.unit → p ≡ q
  pub receives : (p q : ℕ) → InUse t p → InUse t q → (at t p).settings.receive ≡ (at t q).settings.receive → p ≡ q
  pub owners : (id p q : ℕ) → hears (at t p) id ≡ true → hears (at t q) id ≡ true → p ≡ q

-- after every list of calls
abbrev pub DistinctHolds : Type 0
DistinctHolds = (limit : ℕ) (cs : List Call) → Distinct (run limit empty cs)

-- "each found by the ID it listens on": it owns that ID
abbrev pub FoundHolds : Type 0
FoundHolds = (limit : ℕ) (cs : List Call) (id p : ℕ) → hears (at (run limit empty cs) p) id ≡ true → owner_of (run limit empty cs) id ≡ p

-- what makes it so: a record in use has a unit and a receive ID that a table takes, and listens on no other receive ID
pub record Settled (c : Connection) : Type 0 where
  pub unit : c.settings.unit ≤ 0xEF
  pub receive : reserved c.settings.receive ≡ false
  pub listens : is_requesting c ≡ false → c.end.receive ≡ c.settings.receive

-- a table of eight places, every record TP 2.0's, in use as `open` lets them come into use
pub record Proper (t : Table) : Type 0 where
  pub eight : length t.places ≡ places
  pub profiles : (p : ℕ) → p < places → (at t p).profile ≡ tp20
  pub settled : (p : ℕ) → InUse t p → Settled (at t p)
  pub units : (p q : ℕ) → InUse t p → InUse t q → (at t p).settings.unit ≡ (at t q).settings.unit → p ≡ q
  pub receives : (p q : ℕ) → InUse t p → InUse t q → (at t p).settings.receive ≡ (at t q).settings.receive → p ≡ q

-- the empty table is proper, each call keeps it so, and so does every list of calls
abbrev pub ProperHolds : Type 0
ProperHolds = (limit : ℕ) (cs : List Call) → Proper (run limit empty cs)

-- "Requests 2, 5, 7 and 11 stay TP 2.0" (02, 10): after every list of calls the record at each place is TP 2.0's, closed or not
abbrev pub Tp20Only : Type 0
Tp20Only = (limit : ℕ) (cs : List Call) (p : ℕ) → p < places → (at (run limit empty cs) p).profile ≡ tp20
