-- A call to one place leaves every other as it was; and after every list of calls the units and receive IDs in use are distinct, no ID has two owners, and every record is TP 2.0's.
use Prim.Native.Nat.{ℕ, ◌+◌, ◌≤◌, ◌<◌}
use native.Mathlib.Omega.{arith}
use mathlib.Core.Bool.{true, false, ◌||◌, true≢false, false≢true}
use mathlib.Core.List.{List, [], ◌∷◌}
use mathlib.Core.Logic.{◌≢◌}
use mathlib.Core.Option.{Option}
use mathlib.Core.Path.{◌≡◌, refl, sym, ◌∙◌, ap}
use lib.Dec.{leb, eqb}
use lib.ListN.{length-set, get_or-replicate, get_or-eq_default}
use borrow.Author.Tests.{le-leb, eqb-true, eqb-false}
use Rattle.laws.proofs.Cases.{by, by-not, by-eq, by-lt, by_le, either, or-first, or-second}
use Rattle.profile.specs.Profile.{tp20}
use Rattle.profile.specs.Opening.{reply_id}
use Rattle.profile.specs.declared.Profile.{Profile}
use Rattle.settings.specs.Settings.{allowed}
use Rattle.settings.specs.declared.Settings.{Settings}
use Rattle.settings.proofs.Rules.{allowed-exactly}
use Rattle.connection.specs.declared.Connection.{Connection}
use Rattle.connection.specs.Record.{is_closed, is_requesting, is_that, requesting, closed_record, listens_on, hears}
use Rattle.connection.proofs.Rules.{hears-closed}
use Rattle.table.specs.declared.Table.{Table}
use Rattle.table.specs.declared.Opened.{Opened}
use Rattle.table.specs.Table.{places, empty, no_record, at, with, owner_of, free_of, uses_either, is_used, reserved}
use Rattle.table.specs.Calls.{opens}
use Rattle.table_runs.specs.Runs.{Call, step, run, number_of, goes_to, OthersStay, InUse, Distinct, DistinctHolds, FoundHolds, Settled, Proper, ProperHolds, Tp20Only}
use Rattle.table_runs.specs.Runs.Call.{open', frame, time, due, send, take, close}
use Rattle.table.proofs.Found.{owner-hears, owner-first, unused-at}
use Rattle.table_runs.proofs.Records.{GoesOnAs, Left, arrived-left, elapsed-left, due-left, sent-left, taken-left, closed-left}
use Rattle.table_runs.proofs.Steps.{put, leaves, steps-put, with-here, with-other, put_other}

-- ---- "a call to one place leaves every other place as it was"

pub others-stay : OthersStay
others-stay limit t c p other = rw (steps-put limit t c) (put_other t (goes_to t c) p (leaves limit t c) other)

-- ---- a record is put at a place of a proper table

-- no two places in use have the same number of a kind
abbrev Unique : (Settings → ℕ) → Table → Type 0
Unique f t = (p q : ℕ) → InUse t p → InUse t q → f (at t p).settings ≡ f (at t q).settings → p ≡ q

-- a record's number of a kind is in use at no other place
abbrev Apart : (Settings → ℕ) → Table → (place : ℕ) → Connection → Type 0
Apart f t p d = (q : ℕ) → q ≢ p → InUse t q → f d.settings ≢ f (at t q).settings

-- a record that may be in use at a place
record Fits (t : Table) (p : ℕ) (d : Connection) : Type 0 where
  settled : Settled d
  units : Apart (λ s. s.unit) t p d
  receives : Apart (λ s. s.receive) t p d

-- a record that may stand at a place: TP 2.0's, and closed or one of these
record Stands (t : Table) (p : ℕ) (d : Connection) : Type 0 where
  profile : d.profile ≡ tp20
  fits : is_closed d ≡ false → Fits t p d

-- a record in use that uses neither a unit nor a receive ID has neither
uses-neither : (unit receive : ℕ) (c : Connection) → is_closed c ≡ false → uses_either unit receive c ≡ false → (c.settings.unit ≢ unit) × (c.settings.receive ≢ receive)
unfolding uses_either
uses-neither unit receive c u e =
    let first = eqb c.settings.unit unit in
    let second = eqb c.settings.receive receive in
    let none : (first || second) ≡ false = rw (uses_either, u) at e in
    (eqb-false c.settings.unit unit (or-first first second none), eqb-false c.settings.receive receive (or-second first second none))

module _ {t : Table} (k : Proper t) where
  -- past the eight places nothing is in use
  used-below : (p : ℕ) → InUse t p → p < places
  used-below p u =
      by-lt (λ (_ : ℕ). p < places) p places {x = 0} {y = 0} (λ h. h)
      (λ h. absurd (true≢false (rw (get_or-eq_default t.places no_record {n = p} (rw k.eight h)) at u)))

  module _ (p : ℕ) (d : Connection) where
    -- what then stands at a place: the record that was put there, or what stood there before
    data Seen (q : ℕ) : Connection → Type 0 where
      here : q ≡ p → Seen q d
      other : q ≢ p → Seen q (at t q)

    seen : p < places → (q : ℕ) → Seen q (at (with t p d) q)
    seen below q =
        by-eq (λ (_ : ℕ). Seen q (at (with t p d) q)) q p {x = 0} {y = 0}
        (λ e. rw (ap (at (with t p d)) e ∙ with-here t p d k.eight below) (here e))
        (λ n. rw (with-other t p q d n) (other n))

    -- numbers of a kind stay unique if the record's is apart
    unique-with : p < places → (f : Settings → ℕ) → Unique f t → (is_closed d ≡ false → Apart f t p d) → Unique f (with t p d)
    unique-with below f unique apart q r = go (seen below q) (seen below r)
      where
        go : {x y : Connection} → Seen q x → Seen r y → is_closed x ≡ false → is_closed y ≡ false → f x.settings ≡ f y.settings → q ≡ r
        go (here e) (here g) u v same = e ∙ sym g
        go (here e) (other n) u v same = absurd (apart u r n v same)
        go (other n) (here e) u v same = absurd (apart v q n u (sym same))
        go (other n) (other m) u v same = unique q r u v same

    -- the table stays proper with a record that may stand there
    proper-put : (p < places → Stands t p d) → Proper (put t p d)
    proper-put stands =
        by_le Proper places p (λ _. k) λ below.
        let new = stands below in
        record {
          eight = length-set t.places p d ∙ k.eight;
          profiles = λ q. profile new (seen below q);
          settled = λ q. settled new (seen below q);
          units = unique-with below (λ s. s.unit) k.units (λ u. (new.fits u).units);
          receives = unique-with below (λ s. s.receive) k.receives (λ u. (new.fits u).receives);
        }
      where
        profile : Stands t p d → {q : ℕ} {x : Connection} → Seen q x → q < places → x.profile ≡ tp20
        profile new (here e) h = new.profile
        profile new {q} (other n) h = k.profiles q h

        settled : Stands t p d → {q : ℕ} {x : Connection} → Seen q x → is_closed x ≡ false → Settled x
        settled new (here e) u = (new.fits u).settled
        settled new {q} (other n) u = k.settled q u

    -- what a call leaves of the record that stood there may stand there
    left-stands : p < places → Left (at t p) d → Stands t p d
    left-stands below left = record { profile = left.profile (k.profiles p below); fits = λ u. fits (left.goes_on u) }
      where
        fits : GoesOnAs (at t p) d → Fits t p d
        fits on =
            record {
              settled = on.settled (k.settled p on.used);
              units = apart (λ s. s.unit) k.units;
              receives = apart (λ s. s.receive) k.receives;
            }
          where
            apart : (f : Settings → ℕ) → Unique f t → Apart f t p d
            apart f unique q n v e = n (unique q p v on.used (sym e ∙ ap f on.settings))

  -- the record of an opening fits
  new-fits : (p : ℕ) (s : Settings) → reserved s.receive ≡ false → is_used t s.unit s.receive ≡ false → allowed s ≡ true → Fits t p (requesting s)
  new-fits p s r i a =
      let within = ((allowed-exactly tp20 s).0 a).unit in
      record {
        settled = record { unit = omega arith; receive = r; listens = λ e. absurd (true≢false e) };
        units = λ q _ u e. (free q u).0 (sym e);
        receives = λ q _ u e. (free q u).1 (sym e);
      }
    where
      free : (q : ℕ) → InUse t q → ((at t q).settings.unit ≢ s.unit) × ((at t q).settings.receive ≢ s.receive)
      free q u = uses-neither s.unit s.receive (at t q) u (unused-at t s.unit s.receive q i (used-below q u))

  -- along the chain of `opens`: only a place that is taken is below 8
  opens-fits : (s : Settings) → number_of (opens t s).place < places → Fits t (number_of (opens t s).place) (requesting s)
  unfolding opens
  opens-fits s =
      by Taken (leb places (free_of t)) (λ _ h. absurd (omega arith)) λ _.
      by Taken (reserved s.receive) (λ _ h. absurd (omega arith)) λ r.
      by Taken (is_used t s.unit s.receive) (λ _ h. absurd (omega arith)) λ i.
      by-not Taken (allowed s) (λ _ h. absurd (omega arith)) λ a _.
      new-fits _ s r i a
    where
      Taken : Opened → Type 0
      Taken x = number_of x.place < places → Fits t (number_of x.place) (requesting s)

  -- what every call leaves may stand where it is left
  step-stands : (limit : ℕ) (c : Call) → goes_to t c < places → Stands t (goes_to t c) (leaves limit t c)
  step-stands limit (open' s) below = record { profile = refl; fits = λ _. opens-fits s below }
  step-stands limit (frame id bytes room) below = left-stands (owner_of t id) _ below (arrived-left _ limit id bytes room)
  step-stands limit (time p n) below = left-stands p _ below (elapsed-left _ n)
  step-stands limit (due p m) below = left-stands p _ below (due-left _ m)
  step-stands limit (send p n) below = left-stands p _ below (sent-left _ limit n)
  step-stands limit (take p room) below = left-stands p _ below (taken-left _ room)
  step-stands limit (close p) below = left-stands p _ below (closed-left _)

-- ---- every list of calls

-- no place of the empty table is in use
none-used : (p : ℕ) → InUse empty p → ⊥
none-used p u =
    by-lt (λ (_ : ℕ). ⊥) p places {x = 0} {y = 0}
    (λ h. true≢false (rw (get_or-replicate places p closed_record no_record h) at u))
    (λ h. true≢false (rw (get_or-eq_default empty.places no_record {n = p} h) at u))

pub proper-empty : Proper empty
proper-empty =
    record {
      eight = refl;
      profiles = λ p h. ap (λ c. c.profile) (get_or-replicate places p closed_record no_record h);
      settled = λ p u. absurd (none-used p u);
      units = λ p q u v e. absurd (none-used p u);
      receives = λ p q u v e. absurd (none-used p u);
    }

pub proper-step : (limit : ℕ) (t : Table) (c : Call) → Proper t → Proper (step limit t c)
proper-step limit t c k = rw (steps-put limit t c) (proper-put k (goes_to t c) (leaves limit t c) (step-stands k limit c))

proper-run : (limit : ℕ) (cs : List Call) (t : Table) → Proper t → Proper (run limit t cs)
proper-run limit [] t k = k
proper-run limit (c ∷ cs) t k = proper-run limit cs (step limit t c) (proper-step limit t c k)

pub proper-holds : ProperHolds
proper-holds limit cs = proper-run limit cs empty proper-empty

-- ---- "Requests 2, 5, 7 and 11 stay TP 2.0" (02, 10)

-- a record in use is TP 2.0's
pub proper-tp20 : (t : Table) → Proper t → (p : ℕ) → InUse t p → (at t p).profile ≡ tp20
proper-tp20 t k p u = k.profiles p (used-below k p u)

pub tp20-only : Tp20Only
tp20-only limit cs = (proper-holds limit cs).profiles

-- ---- owners

-- a record that hears an ID is in use
hears-used : (c : Connection) (id : ℕ) → hears c id ≡ true → is_closed c ≡ false
hears-used c id h = either (is_closed c) (λ e. absurd (true≢false (sym h ∙ hears-closed c (eqb-true c.phase 0 e) id))) (λ e. e)

-- the IDs of the replies to a C0 are reserved
reply-reserved : (id unit : ℕ) → unit ≤ 0xEF → id ≡ 0x200 + unit → reserved id ≡ true
unfolding reserved
reply-reserved id unit h e = rw (le-leb 0x200 id (omega arith), le-leb id 0x2EF (omega arith))

-- the ID that it hears: until the D0 a reserved one, by its unit; then its receive ID, which is not reserved
data Listens (c : Connection) (id : ℕ) : Type 0 where
  on-reply : reserved id ≡ true → id ≡ 0x200 + c.settings.unit → Listens c id
  on-receive : reserved id ≡ false → id ≡ c.settings.receive → Listens c id

listens : (c : Connection) (id : ℕ) → c.profile ≡ tp20 → Settled c → hears c id ≡ true → Listens c id
unfolding hears listens_on
listens c id plain k =
    by Told (is_closed c) (λ _ h. absurd (false≢true h)) λ _.
    by Told (is_requesting c) (λ _ h. replies (eqb-true id _ h ∙ ap (λ (x : Profile). reply_id x c.settings.unit) plain)) (λ r h. receives (eqb-true id _ h ∙ k.listens r))
  where
    Told : Option ℕ → Type 0
    Told x = is_that id x ≡ true → Listens c id

    replies : id ≡ 0x200 + c.settings.unit → Listens c id
    replies e = on-reply (reply-reserved id c.settings.unit k.unit e) e

    receives : id ≡ c.settings.receive → Listens c id
    receives e = on-receive (rw e k.receive) e

pub proper-distinct : (t : Table) → Proper t → Distinct t
proper-distinct t k = record { units = k.units; receives = k.receives; owners = owners }
  where
    owners : (id p q : ℕ) → hears (at t p) id ≡ true → hears (at t q) id ≡ true → p ≡ q
    owners id p q f g = go (listens (at t p) id (proper-tp20 t k p u) (k.settled p u) f) (listens (at t q) id (proper-tp20 t k q v) (k.settled q v) g)
      where
        u : InUse t p
        u = hears-used (at t p) id f

        v : InUse t q
        v = hears-used (at t q) id g

        go : Listens (at t p) id → Listens (at t q) id → p ≡ q
        go (on-reply r d) (on-reply s e) = k.units p q u v (omega (arith, d, e))
        go (on-reply r d) (on-receive s e) = absurd (true≢false (sym r ∙ s))
        go (on-receive r d) (on-reply s e) = absurd (true≢false (sym s ∙ r))
        go (on-receive r d) (on-receive s e) = k.receives p q u v (sym d ∙ e)

pub distinct-holds : DistinctHolds
distinct-holds limit cs = proper-distinct (run limit empty cs) (proper-holds limit cs)

-- the place that hears an ID is the one that owns it
pub one-owner : (t : Table) → Proper t → (id p : ℕ) → hears (at t p) id ≡ true → owner_of t id ≡ p
one-owner t k id p h = (proper-distinct t k).owners id (owner_of t id) p (owner-hears t id below) h
  where
    below : owner_of t id < places
    below =
        by-lt (λ (_ : ℕ). owner_of t id < places) p (owner_of t id) {x = 0} {y = 0}
        (λ l. absurd (true≢false (sym h ∙ owner-first t id p l)))
        (λ l. omega (arith, used-below k p (hears-used (at t p) id h)))

pub found-holds : FoundHolds
found-holds limit cs id p h = one-owner (run limit empty cs) (proper-holds limit cs) id p h
