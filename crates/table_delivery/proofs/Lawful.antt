-- A place of a table is a lawful end: each law is that of the record there.
use Prim.Native.Nat.{ℕ, ◌<◌}
use mathlib.Core.Bool.{true, ◌&&◌, ◌||◌, and-true}
use mathlib.Core.List.{List}
use mathlib.Core.Logic.{◌≢◌, ◌⊎◌, inl, inr}
use mathlib.Core.Path.{◌≡◌, refl, sym, ap, ◌∙◌}
use lib.Dec.{eqb}
use borrow.Author.Tests.{eqb-true, eqb-false, eq-eqb, not-true}
use Rattle.laws.proofs.Cases.{both, either, or-first, or-second}
use Rattle.profile.specs.declared.Profile.{Profile}
use Rattle.connection.specs.declared.Connection.{Connection}
use Rattle.connection.specs.Record.{is_closed, is_requesting, is_agreeing, is_open, listens_on, hears}
use Rattle.table.specs.Table.{places, owner_of}
use Rattle.table_runs.proofs.Runs.{tp20-only}
use Rattle.delivery.specs.End.{Told, Taken, Given}
use Rattle.delivery.specs.Line.{Line}
use Rattle.delivery.specs.Laws.{Tells, Shows, Hands, Carried, Lawful}
use Rattle.connection_delivery.specs.Ends.{connection_end}
use Rattle.connection_delivery.proofs.Keeps.{Runs}
use Rattle.connection_delivery.proofs.Around.{Refuses, Tied, open', closed}
use Rattle.connection_delivery.proofs.Lawful.{connection-lawful}
use Rattle.table_delivery.specs.Ends.{Past, table_of, record_of, readied, place_end}
use Rattle.table_delivery.proofs.Places.{told_there, shown_there, given_there, send-there, take-there, time-there, due-there, owned, arrive-there, buffered-there, arrive-elsewhere, buffered-elsewhere}

-- an open record listens on its receive ID
pub open-hears : (c : Connection) → is_open c ≡ true → hears c c.end.receive ≡ true
unfolding hears listens_on
open-hears c o =
    let early = or-first (is_closed c || is_requesting c) (is_agreeing c) (not-true _ o) in
    rw (or-first (is_closed c) (is_requesting c) early, or-second (is_closed c) (is_requesting c) early, eq-eqb c.end.receive c.end.receive refl)

-- a table's records are TP 2.0's: open is open with tests
pub with-tests : (limit place : ℕ) → place < places → (x : Past) → is_open (record_of limit place x) ≡ (connection_end limit true).open' (record_of limit place x)
with-tests limit place within x = sym (ap (λ (p : Profile). is_open (record_of limit place x) && p.tests) (tp20-only limit x.calls place within) ∙ and-true (is_open (record_of limit place x)))

module _ (limit place : ℕ) where
  -- the record at the place is tied
  abbrev pub PlaceTied : (receive transmit : ℕ) → Past → Line → Type 0
  PlaceTied r t x l = Tied (Runs true) (connection_end limit true) r t (record_of limit place x) l

  -- what the record tells, the place tells
  tells-too : {r t : ℕ} {q : Told Past} {l : Told Line} → Tells (Tied (Runs true) (connection_end limit true) r t) (told_there limit place q) l → Tells (PlaceTied r t) q l
  tells-too w = record { number = w.number; done = w.done; tied = w.tied }

  -- the same of a take
  shows-too : {r t : ℕ} {q : Taken Past} {l : Taken Line} → Shows (Tied (Runs true) (connection_end limit true) r t) (shown_there limit place q) l → Shows (PlaceTied r t) q l
  shows-too w = record { number = w.number; message = w.message; tied = w.tied }

  -- the same of what is due
  hands-too : {r t : ℕ} {q : Given Past} {l : Given Line} → Hands Carried t (Tied (Runs true) (connection_end limit true) r t) (given_there limit place q) l → Hands Carried t (PlaceTied r t) q l
  hands-too w = record { given = w.given; id = w.id; bytes = w.bytes; kind = w.kind; tied = w.tied }

  -- who meets a frame on an ID: this place, or another or nobody, and then the record refuses it
  abbrev Meets : Past → ℕ → Type 0
  Meets x id =
      (let owner = owner_of (table_of limit (readied limit place x)) id in
      (owner ≡ place) ⊎ ((owner ≢ place) × Refuses (connection_end limit true) id (record_of limit place x)))

  module _ (within : place < places) where
    -- a tied record listens on the ID, or refuses
    listens : {r t : ℕ} {c : Connection} {l : Line} → Tied (Runs true) (connection_end limit true) r t c l → (hears c r ≡ true) ⊎ Refuses (connection_end limit true) r c
    listens (open' c o k) = inl (open-hears c (both (is_open c) c.profile.tests o).0)
    listens (closed f) = inr f

    -- so a frame on the receive ID of a tied record comes to it, or is refused
    meets : (x : Past) {r t : ℕ} {l : Line} → PlaceTied r t x l → Meets x r
    meets x {r} tied = go (listens tied)
      where
        owner : ℕ
        owner = owner_of (table_of limit (readied limit place x)) r

        go : (hears (record_of limit place x) r ≡ true) ⊎ Refuses (connection_end limit true) r (record_of limit place x) → Meets x r
        go (inl h) = inl (owned limit place within x r h)
        go (inr f) = either (eqb owner place) (λ e. inl (eqb-true owner place e)) (λ e. inr (eqb-false owner place e, f))

    -- what such a frame tells
    arrives-too : (x : Past) (id : ℕ) → Meets x id → (bytes : List ℕ) (room : ℕ)
        → told_there limit place ((place_end limit place).arrive x id bytes room) ≡ (connection_end limit true).arrive (record_of limit place x) id bytes room
    arrives-too x id (inl mine) bytes room = arrive-there limit place within x id mine bytes room
    arrives-too x id (inr (other, f)) bytes room = arrive-elsewhere limit place within x id other bytes room ∙ sym (f.arrives bytes room)

    -- the lent buffer after it
    buffers-too : (x : Past) (id : ℕ) → Meets x id → (bytes b : List ℕ)
        → (place_end limit place).buffered x id bytes b ≡ (connection_end limit true).buffered (record_of limit place x) id bytes b
    buffers-too x id (inl mine) bytes b = buffered-there limit place within x id mine bytes b
    buffers-too x id (inr (other, f)) bytes b = buffered-elsewhere limit place within x id other bytes b ∙ sym (f.buffers bytes b)

    -- so it is lawful
    pub place-lawful : Lawful limit Carried (place_end limit place) PlaceTied
    place-lawful =
        (let L = connection-lawful limit true in
        record {
          kinds = λ k. k;
          begins = λ p f. open' (record_of limit place p.state) (sym (with-tests limit place within p.state) ∙ f.open') tt;
          opens = λ {x = x} tied. with-tests limit place within x ∙ L.opens tied;
          views = λ tied. L.views tied;
          sends = λ {r} {t} {x} {l} tied n. tells-too (rw (send-there limit place within x n) (L.sends tied n));
          takes = λ {r} {t} {x} {l} tied room. shows-too (rw (take-there limit place within x room) (L.takes tied room));
          times = λ {r} {t} {x} {l} tied n. tells-too (rw (time-there limit place within x n) (L.times tied n));
          hands = λ {r} {t} {x} {l} tied m. hands-too (rw (due-there limit place within x m) (L.hands tied m));
          arrives = λ {r} {t} {x} {l} tied bytes k room. tells-too (rw (arrives-too x r (meets x tied) bytes room) (L.arrives tied bytes k room));
          buffers = λ {r} {t} {x} {l} tied bytes k b. rw (buffers-too x r (meets x tied) bytes b) (L.buffers tied bytes k b);
        })
