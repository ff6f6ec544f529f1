-- A place of a table tells what the record there tells, whatever goes to the other places in between.
use Rattle.std.specs.Prelude.{if◌then◌else◌}
use Prim.Native.Nat.{ℕ, ◌<◌}
use mathlib.Core.Bool.{true, false}
use mathlib.Core.List.{List, [], ◌∷◌, ◌++◌}
use mathlib.Core.Logic.{◌≢◌}
use mathlib.Core.Path.{◌≡◌, refl, sym, ◌∙◌}
use lib.Dec.{leb, eqb}
use borrow.Author.Tests.{lt-leb, eq-eqb, ne_eqb}
use Rattle.laws.proofs.Cases.{by-eq}
use Rattle.channel.specs.declared.Answer.TheVariants.{NotDue}
use Rattle.connection.specs.declared.Connection.{Connection}
use Rattle.connection.specs.Record.{hears}
use Rattle.table.specs.declared.Table.{Table}
use Rattle.table.specs.Table.{places, empty, at, owner_of}
use Rattle.table.specs.Calls.{arrives, buffers, elapses, hands, sends, takes}
use Rattle.table_runs.specs.Runs.{Call, step, run, goes_to}
use Rattle.table_runs.specs.Runs.Call.{frame, time, due, send, take}
use Rattle.table_runs.proofs.Steps.{leaves, steps-put, with-here}
use Rattle.table_runs.proofs.Runs.{others-stay, proper-holds, one-owner}
use Rattle.delivery.specs.End.{Told, Taken, Given}
use Rattle.connection_delivery.specs.Ends.{connection_end}
use Rattle.connection_delivery.proofs.Around.{tells}
use Rattle.table_delivery.specs.Ends.{Past, called, table_of, record_of, meanwhile, after_others, readied, place_end}

module _ (limit place : ℕ) where
  -- ---- the others

  -- one call more
  run-called : (t : Table) (cs : List Call) (c : Call) → run limit t (cs ++ (c ∷ [])) ≡ step limit (run limit t cs) c
  run-called t [] c = refl
  run-called t (d ∷ cs) c = run-called (step limit t d) cs c

  -- a call that goes elsewhere leaves the record
  pub elsewhere : (cs : List Call) (c : Call) → goes_to (run limit empty cs) c ≢ place → at (run limit empty (cs ++ (c ∷ []))) place ≡ at (run limit empty cs) place
  elsewhere cs c other = rw (run-called empty cs c) (others-stay limit (run limit empty cs) c place (λ e. other (sym e)))

  -- and so do all that are called meanwhile
  meanwhile-stays : (calls cs : List Call) → at (run limit empty (meanwhile limit place calls cs)) place ≡ at (run limit empty calls) place
  unfolding meanwhile
  meanwhile-stays calls [] = refl
  meanwhile-stays calls (c ∷ cs) =
      meanwhile-stays (if eqb (goes_to (run limit empty calls) c) place then calls else calls ++ (c ∷ [])) cs
      ∙ by-eq (λ (l : List Call). at (run limit empty l) place ≡ at (run limit empty calls) place) (goes_to (run limit empty calls) c) place (λ e. refl) (elsewhere calls c)

  -- so a call to this place meets the record as the last one left it
  pub readied-stays : (calls : List Call) (others : List (List Call)) → record_of limit place (after_others limit place calls others) ≡ at (run limit empty calls) place
  unfolding after_others
  readied-stays calls [] = refl
  readied-stays calls (cs ∷ rest) = meanwhile-stays calls cs

  -- ---- what a place tells, as the record there would tell it

  -- what a call tells, and the record that it leaves
  abbrev pub told_there : Told Past → Told Connection
  told_there r = record { number = r.number; done = r.done; state = record_of limit place r.state }

  -- the same of a take
  abbrev pub shown_there : Taken Past → Taken Connection
  shown_there r = record { number = r.number; message = r.message; state = record_of limit place r.state }

  -- the same of what is due
  abbrev pub given_there : Given Past → Given Connection
  given_there r = record { given = r.given; id = r.id; bytes = r.bytes; state = record_of limit place r.state }

  module _ (within : place < places) where
    -- the place is one of the eight
    inside : leb places place ≡ false
    inside = lt-leb places place within

    -- a call to this place leaves its record there
    pub left_there : (x : Past) (c : Call) → goes_to (table_of limit x) c ≡ place → record_of limit place (called x c) ≡ leaves limit (table_of limit x) c
    left_there x c here =
        rw (run-called empty x.calls c, steps-put limit (table_of limit x) c, here, inside)
        (with-here (table_of limit x) place (leaves limit (table_of limit x) c) (proper-holds limit x.calls).eight within)

    module _ (x : Past) where
      -- what a call meets
      abbrev met : Past
      met = readied limit place x

      -- the record in it is the same
      same-there : record_of limit place met ≡ record_of limit place x
      same-there = readied-stays x.calls x.others

      -- ---- call by call

      -- a message is offered
      pub send-there : (n : ℕ) → told_there ((place_end limit place).send x n) ≡ (connection_end limit true).send (record_of limit place x) n
      unfolding sends
      send-there n = rw (← same-there, left_there met (send place n) refl, inside)

      -- a message is taken
      pub take-there : (room : ℕ) → shown_there ((place_end limit place).take x room) ≡ (connection_end limit true).take (record_of limit place x) room
      unfolding takes
      take-there room = rw (← same-there, left_there met (take place room) refl, inside)

      -- time passes
      pub time-there : (n : ℕ) → told_there ((place_end limit place).time x n) ≡ (connection_end limit true).time (record_of limit place x) n
      unfolding elapses
      time-there n = rw (← same-there, left_there met (time place n) refl, inside)

      -- what is due
      pub due-there : (m : List ℕ) → given_there ((place_end limit place).due x m) ≡ (connection_end limit true).due (record_of limit place x) m
      unfolding hands
      due-there m = rw (← same-there, left_there met (due place m) refl, inside)

      -- ---- a frame arrives

      -- the place owns the ID that its record listens on
      pub owned : (id : ℕ) → hears (record_of limit place x) id ≡ true → owner_of (table_of limit met) id ≡ place
      owned id h = one-owner (table_of limit met) (proper-holds limit met.calls) id place (rw same-there h)

      -- a frame on an ID that it owns is the record's
      module _ (id : ℕ) (mine : owner_of (table_of limit met) id ≡ place) where
        pub arrive-there : (bytes : List ℕ) (room : ℕ) → told_there ((place_end limit place).arrive x id bytes room) ≡ (connection_end limit true).arrive (record_of limit place x) id bytes room
        unfolding arrives
        arrive-there bytes room =
            rw (← same-there, left_there met (frame id bytes room) mine, leaves, mine, inside, eq-eqb place place refl)

        -- the lent buffer after it
        pub buffered-there : (bytes b : List ℕ) → (place_end limit place).buffered x id bytes b ≡ (connection_end limit true).buffered (record_of limit place x) id bytes b
        unfolding buffers
        buffered-there bytes b = rw (← same-there, mine, inside, eq-eqb place place refl)

      -- one on another's or nobody's leaves the record, and is told 4
      module _ (id : ℕ) (other : owner_of (table_of limit met) id ≢ place) where
        pub arrive-elsewhere : (bytes : List ℕ) (room : ℕ) → told_there ((place_end limit place).arrive x id bytes room) ≡ tells NotDue (record_of limit place x)
        arrive-elsewhere bytes room = rw (← same-there, elsewhere met.calls (frame id bytes room) other, ne_eqb (owner_of (table_of limit met) id) place other)

        -- and the lent buffer
        pub buffered-elsewhere : (bytes b : List ℕ) → (place_end limit place).buffered x id bytes b ≡ b
        buffered-elsewhere bytes b = rw (ne_eqb (owner_of (table_of limit met) id) place other)
