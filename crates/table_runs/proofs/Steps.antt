-- A call puts one record at the place that it goes to, and none where it goes to none.
--     put, leaves                         a table with a record put at a place; the record that a call puts there
--     steps-put                           a call leaves just that
--     with-here, with-other, put_other    what then stands at that place, and at another
use Rattle.std.specs.Prelude.{if◌then◌else◌}
use Prim.Native.Nat.{ℕ, ◌<◌}
use mathlib.Core.Logic.{◌≢◌}
use mathlib.Core.Path.{◌≡◌, refl}
use lib.Dec.{leb}
use lib.ListN.{length}
use lib.Seq.{get_or-set_same, get_or-set_other}
use borrow.Author.Tests.{lt-leb, eqb-true}
use Rattle.laws.proofs.Cases.{by, by-not, by_le, each}
use Rattle.settings.specs.Settings.{allowed}
use Rattle.settings.specs.declared.Settings.{Settings}
use Rattle.connection.specs.declared.Connection.{Connection}
use Rattle.connection.specs.Record.{requesting}
use Rattle.connection.specs.Calls.{arrived, elapsed, due_of, sent_by, taken_by, closed}
use Rattle.connection.proofs.Rules.{opening-leaves}
use Rattle.table.specs.declared.Table.{Table}
use Rattle.table.specs.declared.Opened.{Opened}
use Rattle.table.specs.declared.Arrived.{Arrived}
use Rattle.open_end.specs.declared.answers.Answered.{Answered}
use Rattle.open_end.specs.declared.answers.Due.{Due}
use Rattle.open_end.specs.declared.answers.TakeStep.{TakeStep}
use Rattle.table.specs.Table.{places, no_record, at, with, owner_of, free_of, is_used, reserved}
use Rattle.table.specs.Calls.{opens, arrives, elapses, hands, sends, takes, closes}
use Rattle.table_runs.specs.Runs.{Call, step, number_of, goes_to}
use Rattle.table_runs.specs.Runs.Call.{open', frame, time, due, send, take, close}
use Rattle.table.proofs.Found.{free-closed}

-- a table with a record put at a place, and the same table for none
abbrev pub put : Table → (place : ℕ) → Connection → Table
put t p d = if leb places p then t else with t p d

-- the record that a call puts at the place that it goes to
abbrev pub leaves : (limit : ℕ) → Table → Call → Connection
leaves limit t (open' s) = requesting s
leaves limit t (frame id bytes room) = (arrived limit (at t (owner_of t id)) id bytes room).left
leaves limit t (time p n) = (elapsed (at t p) n).left
leaves limit t (due p m) = (due_of (at t p) m).left
leaves limit t (send p n) = (sent_by limit (at t p) n).left
leaves limit t (take p room) = (taken_by (at t p) room).left
leaves limit t (close p) = (closed (at t p)).left

-- an opening puts its record at the lowest closed place, if it is taken
opens-put : (t : Table) (s : Settings) → (opens t s).left ≡ put t (number_of (opens t s).place) (requesting s)
unfolding opens
opens-put t s =
    by_le Puts places (free_of t) (λ _. refl) λ free.
    by Puts (reserved s.receive) (λ _. refl) λ _.
    by Puts (is_used t s.unit s.receive) (λ _. refl) λ _.
    by-not Puts (allowed s) (λ _. refl) λ a.
    rw (lt-leb places (free_of t) free, lt-leb places (free_of t) free, opening-leaves (at t (free_of t)) s (eqb-true _ _ (free-closed t free)) a)
  where
    Puts : Opened → Type 0
    Puts x = x.left ≡ put t (number_of x.place) (requesting s)

-- every call, by its chain
pub steps-put : (limit : ℕ) (t : Table) (c : Call) → step limit t c ≡ put t (goes_to t c) (leaves limit t c)
unfolding arrives elapses hands sends takes closes
steps-put limit t (open' s) = opens-put t s
steps-put limit t (frame id bytes room) = each (λ (x : Arrived). x.left) (leb places (owner_of t id)) refl refl
steps-put limit t (time p n) = each (λ (x : Answered Table). x.left) (leb places p) refl refl
steps-put limit t (due p m) = each (λ (x : Due Table). x.left) (leb places p) refl refl
steps-put limit t (send p n) = each (λ (x : Answered Table). x.left) (leb places p) refl refl
steps-put limit t (take p room) = each (λ (x : TakeStep Table). x.left) (leb places p) refl refl
steps-put limit t (close p) = each (λ (x : Answered Table). x.left) (leb places p) refl refl

-- the record that was put at a place of eight
pub with-here : (t : Table) (p : ℕ) (d : Connection) → length t.places ≡ places → p < places → at (with t p d) p ≡ d
with-here t p d eight h = get_or-set_same t.places p d no_record (rw eight h)

-- another place stays as it was
pub with-other : (t : Table) (p q : ℕ) (d : Connection) → q ≢ p → at (with t p d) q ≡ at t q
with-other t p q d = get_or-set_other t.places p q d no_record

pub put_other : (t : Table) (p q : ℕ) (d : Connection) → q ≢ p → at (put t p d) q ≡ at t q
put_other t p q d other = by (λ (x : Table). at x q ≡ at t q) (leb places p) (λ _. refl) (λ _. with-other t p q d other)
