-- The claim speaks of something: wherever a table takes an opening, the place and the control unit come to be fresh.
use Rattle.std.specs.Prelude.{Some}
use Prim.Native.Nat.{ℕ, ◌+◌, ◌<◌}
use native.Mathlib.Omega.{arith}
use mathlib.Core.Bool.{Bool, true, false}
use mathlib.Core.List.{List, []}
use mathlib.Core.Logic.{◌≢◌}
use mathlib.Core.Path.{◌≡◌, refl, ap, ◌∙◌}
use lib.ListN.{length}
use borrow.Author.Tests.{eq-eqb, ne_eqb}
use Rattle.telegram.specs.Outgoing.{bytes_of}
use Rattle.opening.specs.Opening.{request_id, request_of, reply_of}
use Rattle.profile.specs.Profile.{tp20}
use Rattle.profile.proofs.Opening.{tp20-positive, tp20-requests}
use Rattle.settings.specs.Settings.{allowed}
use Rattle.settings.specs.declared.Settings.{Settings}
use Rattle.settings.proofs.Rules.{allowed-exactly}
use Rattle.settings.specs.Agreed.{own_fields}
use Rattle.channel.specs.declared.Answer.TheVariants.{Good}
use Rattle.open_end.specs.declared.Frame.{Frame}
use Rattle.connection.specs.declared.Connection.{Connection}
use Rattle.connection.specs.Record.{listens_on, hears, requesting, agreeing, opened}
use Rattle.connection.specs.Calls.{opening_as, arrived, due_of}
use Rattle.open_end.specs.Answers.{gives, marked, hand_over, gives as unit_gives, marked as unit_marked, hand_over as unit_hands_over}
use Rattle.unit.specs.declared.ControlUnit.{ControlUnit}
use Rattle.unit.specs.Record.{phase_replied, phase_open, settable, closed_with, accepting, at_phase}
use Rattle.unit.specs.Calls.{arrived as unit_arrived, due_of as unit_due}
use Rattle.unit.proofs.Rules.{settable-exactly}
use Rattle.table.specs.declared.Table.{Table}
use Rattle.table.specs.Table.{places, empty, free_of, uses_either, is_used, reserved}
use Rattle.table.specs.Calls.{opens}
use Rattle.table.proofs.Rules.{open-0-exactly, open-named}
use Rattle.table_runs.specs.Runs.{number_of}
use Rattle.table_runs.specs.Runs.Call.{open'}
use Rattle.delivery.specs.System.{Try}
use Rattle.delivery.specs.Claim.{Fresh}
use Rattle.connection_delivery.specs.Ends.{connection_end}
use Rattle.connection_delivery.proofs.Opened.{allowed-parts, eleven-bits, awaiting, hands-c0, d0-arrives, hands-a0, a1-arrives}
use Rattle.unit_delivery.specs.Ends.{unit_end}
use Rattle.unit_opening.proofs.Answering.{asked_at, c0-arrives, hands-d0, a0-arrives, hands-a1}
use Rattle.table_delivery.specs.Ends.{Past, called, table_of, record_of, place_end}
use Rattle.table_delivery.specs.Opening.{passed, asked, anew, OpeningLeadsToFresh}
use Rattle.table_delivery.proofs.Lawful.{with-tests}
use Rattle.table_delivery.proofs.Places.{given_there, left_there, due-there, owned, arrive-there}

-- an empty table has every place closed, and uses no unit and no ID
empty-takes : (s : Settings) → allowed s ≡ true → reserved s.receive ≡ false → ((opens empty s).told.said.number ≡ 0) × ((opens empty s).place ≡ Some 0)
unfolding opens free_of is_used uses_either opening_as
empty-takes s a free = rw (free, a) (refl, refl)

-- ---- a request and its reply

-- what stands at the place, and the unit
record Stand (limit p : ℕ) (c : Connection) (u : ControlUnit) (w : Past × ControlUnit) : Type 0 where
  there : record_of limit p w.0 ≡ c
  unit : w.1 ≡ u

module _ (limit p : ℕ) (within : p < places) where
  module _ {c c' : Connection} {u u' : ControlUnit} {f : Frame} {k : Bool} {w : Past × ControlUnit} (room : ℕ) where
    -- a frame from the place to the unit
    to-unit : Stand limit p c u w → due_of c [] ≡ hand_over f c' → unit_arrived limit u f.id (bytes_of f.payload) room ≡ unit_marked k (unit_gives Good u')
        → Stand limit p c' u' (passed (place_end limit p) (unit_end limit) room w.0 w.1)
    to-unit stand d a =
        let g : given_there limit p ((place_end limit p).due w.0 []) ≡ record { given = true; id = f.id; bytes = bytes_of f.payload; state = c' } =
        due-there limit p within w.0 [] ∙ rw (stand.there, d) in
        record { there = ap (λ y. y.state) g; unit = rw (ap (λ y. y.id) g, ap (λ y. y.bytes) g, stand.unit, a) }

    -- and one from the unit to the place
    to-place : Stand limit p c u w → unit_due u [] ≡ unit_hands_over f u' → hears c f.id ≡ true → arrived limit c f.id (bytes_of f.payload) room ≡ marked k (gives Good c')
        → (let r = passed (unit_end limit) (place_end limit p) room w.1 w.0 in Stand limit p c' u' (r.1, r.0))
    to-place stand d h a =
        rw (stand.unit, d)
        (record {
          there = ap (λ y. y.state) (arrive-there limit p within w.0 f.id (owned limit p within w.0 f.id (rw stand.there h)) (bytes_of f.payload) room) ∙ rw (stand.there, a);
          unit = refl;
        })

-- a place is fresh with its record
fresh-there : (limit p : ℕ) → p < places → (x : Past) (v : ControlUnit) (b b' : List ℕ) (try : Try)
    → Fresh {N = connection_end limit true} {F = unit_end limit} (anew (record_of limit p x, v) b b' try) → Fresh {N = place_end limit p} {F = unit_end limit} (anew (x, v) b b' try)
fresh-there limit p within x v b b' try f =
    let n = f.near in
    record {
      near = record { open' = with-tests limit p within x ∙ n.open'; sender = n.sender; receiver = n.receiver; tests = n.tests; accept = n.accept; t1 = n.t1; t_wait = n.t_wait };
      far = f.far;
      to-far = f.to-far;
      to-near = f.to-near;
      agreed = f.agreed;
      least = f.least;
      most = f.most;
      forward = refl;
      backward = refl;
      forth = refl;
      back = refl;
    }

-- ---- the opening

module _ (limit p : ℕ) (within : p < places) (s t : Settings) (a : allowed s ≡ true) (set : settable t 0xD0 ≡ true) (one : s.unit ≡ t.unit) where
  -- what the record comes to be
  abbrev open_record : Connection
  open_record = opened (agreeing (requesting s) t.receive) (own_fields t)

  -- and the unit
  abbrev open_unit : ControlUnit
  open_unit = at_phase (accepting (asked_at (closed_with t 0xD0) s.receive phase_replied) (own_fields s)) phase_open

  -- the unit's settings are allowed
  settings-allowed : allowed t ≡ true
  settings-allowed = (allowed-exactly tp20 t).1 ((settable-exactly t 0xD0).0 set).0

  -- and its receive ID is not 0x200
  other : t.receive ≢ request_id
  other = ((settable-exactly t 0xD0).0 set).1

  -- the record's C0, in bytes
  c0-of : due_of (requesting s) [] ≡ hand_over (record { id = request_id; payload = request_of s.unit s.receive }) (awaiting (requesting s) s.t_e)
  c0-of = rw (← tp20-requests s.unit s.receive) (hands-c0 limit tp20 s [])

  -- the record awaits the D0 on its unit's ID
  awaits-d0 : (left : ℕ) → hears (awaiting (requesting s) left) (request_id + t.unit) ≡ true
  unfolding hears listens_on
  awaits-d0 left = rw (one, eq-eqb (request_id + t.unit) (request_id + t.unit) refl)

  -- and then the A1 on its receive ID
  awaits-a1 : (left : ℕ) → hears (awaiting (agreeing (requesting s) t.receive) left) s.receive ≡ true
  unfolding hears listens_on
  awaits-a1 left = eq-eqb s.receive s.receive refl

  -- the D0 comes on that ID
  d0-here : (left room : ℕ) → arrived limit (awaiting (requesting s) left) (request_id + t.unit) (bytes_of (reply_of 0xD0 s.receive t.receive)) room
      ≡ marked false (gives Good (agreeing (requesting s) t.receive))
  d0-here left room = rw (← one) (d0-arrives limit tp20 s t.receive _ (tp20-positive s.receive t.receive (eleven-bits s a) (eleven-bits t settings-allowed)) left room)

  -- open, the record and the unit are fresh
  record-fresh : (b b' : List ℕ) (try : Try) → Fresh {N = connection_end limit true} {F = unit_end limit} (anew (open_record, open_unit) b b' try)
  record-fresh b b' try =
      let near = allowed-parts tp20 s a in
      let far = allowed-parts tp20 t settings-allowed in
      record {
        near = record { open' = refl; sender = refl; receiver = refl; tests = refl; accept = refl; t1 = near.t1; t_wait = near.t_wait };
        far = record { open' = rw (ne_eqb t.receive request_id other); sender = refl; receiver = refl; tests = refl; accept = refl; t1 = far.t1; t_wait = far.t_wait };
        to-far = refl;
        to-near = refl;
        agreed = omega arith;
        least = omega (arith, near.least, far.least);
        most = omega (arith, near.most);
        forward = refl;
        backward = refl;
        forth = refl;
        back = refl;
      }

  -- C0 and D0, A0 and A1: both are open
  both-open : (x : Past) → (opens (table_of limit x) s).place ≡ Some p → (room room' : ℕ) → (let ask = asked (place_end limit p) (unit_end limit) room room' in
      Stand limit p open_record open_unit (ask (ask (called x (open' s), closed_with t 0xD0))))
  both-open x here room room' =
      let u = closed_with t 0xD0 in
      let id = s.receive in
      let near = allowed-parts tp20 s a in
      let far = allowed-parts tp20 t settings-allowed in
      let set_out : Stand limit p (requesting s) u (called x (open' s), u) = record { there = left_there limit p within x (open' s) (ap number_of here); unit = refl } in
      let c0 = to-unit limit p within room' set_out c0-of (c0-arrives u id limit room' refl one (eleven-bits s a)) in
      let d0 = to-place limit p within room c0 (hands-d0 u id []) (awaits-d0 s.t_e) (d0-here s.t_e room) in
      let a0 = to-unit limit p within room' d0 (hands-a0 limit tp20 s t.receive []) (a0-arrives u id (own_fields s) limit room' other near.least near.most) in
      to-place limit p within room a0 (hands-a1 u id (own_fields s) []) (awaits-a1 s.t_e)
      (a1-arrives limit tp20 s t.receive (own_fields t) far.least far.most s.t_e room)

-- what is taken is allowed
taken-allowed : (t : Table) (s : Settings) (p : ℕ) → (opens t s).place ≡ Some p → allowed s ≡ true
taken-allowed t s p here = (allowed-exactly tp20 s).1 ((open-0-exactly t s).0 (ap (λ r. r.said.number) (open-named t s p here).told)).1.ranges

-- the record there, and the two
pub opening-leads-to-fresh : OpeningLeadsToFresh
opening-leads-to-fresh =
    record {
      takes = empty-takes;
      fresh = λ limit p within x s t here set one b b' try.
          (let a = taken-allowed (table_of limit x) s p here in
          let stand = both-open limit p within s t a set one x here (length b) (length b') in
          (stand.there, fresh-there limit p within _ _ b b' try (rw (stand.there, stand.unit) (record-fresh limit p within s t a set one b b' try))));
    }
