-- 02, 7: the claim speaks of every connection that a table opens to a control unit, whatever goes to the other places meanwhile.
-- proofs/Opened.antt proves it.
use Rattle.std.specs.Prelude.{ℕ, ◌<◌, true, false, List, [], ◌≡◌, length, Some}
use Rattle.settings.specs.Settings.{allowed}
use Rattle.settings.specs.declared.Settings.{Settings}
use Rattle.settings.specs.Agreed.{own_fields}
use Rattle.connection.specs.Record.{requesting, agreeing, opened}
use Rattle.unit.specs.Record.{settable, closed_with}
use Rattle.table.specs.Table.{places, empty, reserved}
use Rattle.table.specs.Calls.{opens}
use Rattle.table_runs.specs.Runs.Call.{open'}
use Rattle.delivery.specs.End.{End}
use Rattle.delivery.specs.System.{Try, System}
use Rattle.delivery.specs.Claim.{Fresh, no_history}
use Rattle.unit_delivery.specs.Ends.{unit_end}
use Rattle.table_delivery.specs.Ends.{Past, called, table_of, record_of, place_end}

-- the frame that is due at an end is handed over, and arrives at another one: the states of the two
abbrev pub passed : (E F : End) → (room : ℕ) → E.State → F.State → E.State × F.State
passed E F room x y = (let d = E.due x [] in (d.state, (F.arrive y d.id d.bytes room).state))

-- a request and its reply
abbrev pub asked : (E F : End) → (room room' : ℕ) → E.State × F.State → E.State × F.State
asked E F room room' w =
    (let request = passed E F room' w.0 w.1 in
    let reply = passed F E room request.1 request.0 in
    (reply.1, reply.0))

-- two ends as they stand, nothing on its way, and nothing noted yet
abbrev pub anew : {E F : End} → E.State × F.State → (b b' : List ℕ) → Try → System E F
anew w b b' try =
    record {
      near = record { state = w.0; buffer = b };
      far = record { state = w.1; buffer = b' };
      forward = [];
      backward = [];
      forth = no_history try;
      back = no_history try;
    }

-- a place with an opening called, and a closed unit with D0 to reply: C0 and D0, A0 and A1
abbrev pub opened_pair : (limit place : ℕ) → Past → (s t : Settings) → (b b' : List ℕ) → Try → System (place_end limit place) (unit_end limit)
opened_pair limit p x s t b b' =
    (let ask = asked (place_end limit p) (unit_end limit) (length b) (length b') in
    anew (ask (ask (called x (open' s), closed_with t 0xD0))) b b')

-- an empty table takes at place 0 every opening that 01 and 02 allow;
-- and wherever a table takes one, whatever was called before, to a unit that is set to it: the record there is open, and the place and the unit are fresh
pub record OpeningLeadsToFresh : Type 0 where
  pub takes : (s : Settings) → allowed s ≡ true → reserved s.receive ≡ false → ((opens empty s).told.said.number ≡ 0) × ((opens empty s).place ≡ Some 0)
  pub fresh :
      (limit p : ℕ) → p < places → (x : Past) (s t : Settings) → (opens (table_of limit x) s).place ≡ Some p
      → settable t 0xD0 ≡ true → s.unit ≡ t.unit → (b b' : List ℕ) (try : Try)
      → (let pair = opened_pair limit p x s t b b' try in
      (record_of limit p pair.near.state ≡ opened (agreeing (requesting s) t.receive) (own_fields t)) × Fresh pair)
