-- 02, 7, "Several units at a time": the table, who owns an ID, and what is in use.
use Rattle.std.specs.Prelude.{ℕ, zero, suc, ◌+◌, Bool, false, not, ◌&&◌, ◌||◌, get_or, set, replicate, ltb, leb, eqb, if◌then◌else◌, Option, Some, None}
use Rattle.connection.specs.declared.Connection.{Connection}
use Rattle.open_end.specs.OpenEnd.{unopened}
use Rattle.connection.specs.Record.{phase_closed, is_closed, no_attempt, closed_record, hears}
use Rattle.table.specs.declared.Table.{Table}

-- ---- the places

-- "eight connections at once, kept in one table": its places are 0 to 7
abbrev pub places : ℕ
places = 8

-- a table with every place closed, and nothing due
abbrev pub empty : Table
empty = record { places = replicate places closed_record }

-- what stands for a record past the last place: closed, with every number 0, those of the profile too
abbrev pub no_record : Connection
no_record =
    record {
      phase = phase_closed;
      profile =
          record {
            request = 0;
            reply = 0;
            offset = 0;
            units = record { least = 0; most = 0 };
            receives = record { least = 0; most = 0 };
            transmits = record { least = 0; most = 0 };
            short = false;
            tests = false;
            least_t3 = 0;
            bounded = false;
          };
      settings = record { receive = 0; unit = 0; block = 0; t1 = 0; t3 = 0; t_e = 0; mntc = 0; mntb = 0; t_wait = 0; t_ct = 0; mnct = 0 };
      attempt = no_attempt;
      leaving = false;
      end = unopened 0 0;
    }

-- the record at a place
abbrev pub at : Table → ℕ → Connection
at t p = get_or t.places p no_record

-- a table with another record at a place
abbrev pub with : Table → ℕ → Connection → Table
with t p c = record { places = set t.places p c }

-- a place by its number, and none for 8 and more
abbrev pub named : ℕ → Option ℕ
named p = if leb places p then None else Some p

-- ---- the lowest place of which something holds, and 8 for none

-- the same from a place on, of so many
abbrev pub lowest_from : (Connection → Bool) → Table → (from count : ℕ) → ℕ
lowest_from P t p zero = p
lowest_from P t p (suc n) = if P (at t p) then p else lowest_from P t (p + 1) n

abbrev pub lowest : (Connection → Bool) → Table → ℕ
lowest P t = lowest_from P t 0 places

-- "each found by the ID it listens on": the place that owns an ID
unfoldable pub owner_of : Table → (id : ℕ) → ℕ
owner_of t id = lowest (λ c. hears c id) t

-- "the lowest closed place"
unfoldable pub free_of : Table → ℕ
free_of t = lowest is_closed t

-- ---- in use

-- a record that is open or opening has this unit or this receive ID; closed, it uses none
unfoldable pub uses_either : (unit receive : ℕ) → Connection → Bool
uses_either unit receive c = not (is_closed c) && (eqb c.settings.unit unit || eqb c.settings.receive receive)

-- "a unit or a receive ID in use", at some place
unfoldable pub is_used : Table → (unit receive : ℕ) → Bool
is_used t unit receive = ltb (lowest (uses_either unit receive) t) places

-- "a receive ID from 0x200 to 0x2EF": replies to a C0 come there
unfoldable pub reserved : ℕ → Bool
reserved id = leb 0x200 id && leb id 0x2EF
