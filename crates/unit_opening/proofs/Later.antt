-- Once both ends have been open no call ends an opening again, whatever they send, and whether they go on or are closed by 8.
use Prim.Native.Nat.{ℕ}
use native.Mathlib.Omega.{arith}
use mathlib.Core.Bool.{Bool, true, false, not, ◌&&◌}
use mathlib.Core.List.{List, [], ◌∷◌}
use mathlib.Core.Path.{◌≡◌, refl, sym, ap, subst, ◌∙◌}
use lib.ListN.{length, drop}
use lib.Dec.{eqb}
use borrow.Author.Tests.{ltb-true, le-ltb}
use Rattle.laws.proofs.Cases.{by, both}
use Rattle.std.specs.Option.{is_some}
use Rattle.opening.specs.Opening.{request_id}
use Rattle.telegram.specs.Kinds.{sorted}
use Rattle.settings.specs.declared.Settings.{Settings}
use Rattle.channel.specs.declared.Answer.{Answer}
use Rattle.channel.specs.declared.Answer.TheVariants.{Good, Done, Disconnected, Malformed, BlockSize, NotDue, Busy, BadLength, ShortBuffer, OtherLength, UsedUp, Broken, NoChange}
use Rattle.channel.specs.Numbers.{said}
use Rattle.arrival.specs.Arrived.{arrived as on_channel}
use Rattle.connection.specs.declared.Connection.{Connection}
use Rattle.connection.specs.Record.{is_open}
use Rattle.connection.specs.Calls.{arrived}
use Rattle.unit.specs.declared.ControlUnit.{ControlUnit}
use Rattle.unit.specs.Record.{is_closed as unit_closed, is_open as unit_open}
use Rattle.unit.specs.Calls.{due_of}
use Rattle.delivery.specs.End.{Told, Given}
use Rattle.delivery.specs.Line.{Line, line_arrive}
use Rattle.delivery.specs.Laws.{Carried}
use Rattle.delivery.specs.System.{Try, Flying, Party, Call, turned, lent, step}
use Rattle.delivery.specs.System.Side.{near, far}
use Rattle.delivery.specs.System.Fate.{goes, stays, lost}
use Rattle.delivery.specs.System.Act.{send, take, time, due, arrive}
use Rattle.delivery.specs.System.Call.{at}
use Rattle.delivery.proofs.Directions.{Fits}
use Rattle.delivery.proofs.Acts.{act-moves}
use Rattle.connection_delivery.specs.Ends.{connection_end}
use Rattle.connection_delivery.proofs.Keeps.{Runs}
use Rattle.connection_delivery.proofs.Around.{Tied, open', closed}
use Rattle.connection_delivery.proofs.Lawful.{connection-lawful}
use Rattle.unit_delivery.specs.Ends.{unit_end}
use Rattle.unit_delivery.proofs.Lawful.{unit_lawful}
use Rattle.unit_opening.specs.Opening.{arrival_ends, hand_over_ends, Bench, active_now, unit_now}
use Rattle.unit_opening.proofs.Terms.{acted-terms}
use Rattle.unit_opening.proofs.Stages.{Later}

-- no answer of a channel has the number of a refusal
not-refused : (a : Answer) → eqb (said a).number 11 ≡ false
not-refused Good = refl
not-refused Done = refl
not-refused Disconnected = refl
not-refused Malformed = refl
not-refused BlockSize = refl
not-refused NotDue = refl
not-refused Busy = refl
not-refused BadLength = refl
not-refused ShortBuffer = refl
not-refused OtherLength = refl
not-refused UsedUp = refl
not-refused (Broken c) = refl
not-refused NoChange = refl

line-not-refused : (limit : ℕ) (l : Line) (bytes : List ℕ) (room : ℕ) → eqb (line_arrive limit l bytes room).number 11 ≡ false
line-not-refused limit l bytes room =
    by (λ (x : Told Line). eqb x.number 11 ≡ false) l.live
    (λ e. not-refused (on_channel limit l.channel (sorted bytes).kind (drop 1 bytes) room).answer) (λ e. refl)

-- what stays as it is does not open
not_opened : (t : Bool) → (not t && t) ≡ false
not_opened true = refl
not_opened false = refl

-- a unit that hands nothing over refuses nothing
pub nothing-given : (t r : Bool) → (t && false && r) ≡ false
nothing-given true r = refl
nothing-given false r = refl

module _ (limit : ℕ) where
  -- a frame at an active end that is open, or closed by 8
  arrival-quiet : {r t : ℕ} {c : Connection} {l : Line} → Tied (Runs true) (connection_end limit true) r t c l → (bytes : List ℕ) (try : Try) → Carried (sorted bytes).kind
      → (rest : List Flying) (room : ℕ) → arrival_ends limit c (record { id = r; bytes = bytes; try = try } ∷ rest) room ≡ []
  arrival-quiet (open' c o kept) bytes try k rest room =
      let number = ((connection-lawful limit true).arrives (open' c o kept) bytes k room).number in
      let other : eqb (arrived limit c c.end.receive bytes room).told.said.number 11 ≡ false =
      rw number (line-not-refused limit (record { channel = c.end.channel; live = true }) bytes room) in
      rw (other, (both (is_open c) c.profile.tests o).0)
  arrival-quiet {r} {c = c} (closed f) bytes try k rest room =
      let four : (arrived limit c r bytes room).told.said.number ≡ 4 = ap (λ (x : Told Connection). x.number) (f.arrives bytes room) in
      let same : (arrived limit c r bytes room).left ≡ c = ap (λ (x : Told Connection). x.state) (f.arrives bytes room) in
      rw (four, same, not_opened (is_open c))

  -- the first frame of a link
  link-quiet : {r t : ℕ} {c : Connection} {l : Line} → Tied (Runs true) (connection_end limit true) r t c l → (link : List Flying) → Fits Carried r link → (room : ℕ) → arrival_ends limit c link room ≡ []
  link-quiet tied [] fits room = refl
  link-quiet {c = c} tied (f ∷ rest) fits room =
      subst (λ (id : ℕ). arrival_ends limit c (record { id = id; bytes = f.bytes; try = f.try } ∷ rest) room ≡ []) (sym fits.0)
      (arrival-quiet tied f.bytes f.try fits.1 rest room)

  -- what a unit that is open, or closed by 8, hands over
  pub hand-over-quiet : {r t : ℕ} {v : ControlUnit} {l : Line} → Tied (Runs true) (unit_end limit) r t v l → (m : List ℕ) → hand_over_ends v m ≡ []
  hand-over-quiet (open' v o k) m =
      let open-now = (both (unit_open v) (not (eqb v.settings.receive request_id)) o).0 in
      let not-closed : unit_closed v ≡ false = le-ltb v.phase 3 (omega (arith, ltb-true 5 v.phase open-now)) in
      rw (open-now, not-closed)
  hand-over-quiet {v = v} (closed f) m =
      let same : (due_of v m).left ≡ v = ap (λ (g : Given ControlUnit). g.state) (f.hands m) in
      let none : is_some (due_of v m).frame ≡ false = ap (λ (g : Given ControlUnit). g.given) (f.hands m) in
      rw (same, none, not_opened (unit_open v), nothing-given (unit_closed v) _)

module _ (limit : ℕ) (s : Settings) (u : ControlUnit) (b : Bench limit) (l : Later s u limit b.near.state b.far.state b.forward b.backward) where
  -- every call leaves two such ends
  pub later-step : (c : Call) → (let b' = step b c in Later s u limit b'.near.state b'.far.state b'.forward b'.backward)
  later-step (at near a) =
      let w = act-moves limit Carried (connection_end limit true) (unit_end limit) (Tied (Runs true) (connection_end limit true)) (connection-lawful limit true) s.receive u.settings.receive b l.near_line l.far_line a l.near_tied l.forward_fits l.backward_fits in
      record {
        near_line = w.line;
        far_line = l.far_line;
        near_tied = w.tied;
        far_tied = subst (λ (p : Party (unit_end limit)). Tied (Runs true) (unit_end limit) u.settings.receive s.receive p.state l.far_line) (sym w.far') l.far_tied;
        near_terms = acted-terms w ∙ l.near_terms;
        far_terms = l.far_terms;
        forward_fits = w.forward;
        backward_fits = w.backward;
      }
  later-step (at far a) =
      let w = act-moves limit Carried (unit_end limit) (connection_end limit true) (Tied (Runs true) (unit_end limit)) (unit_lawful limit) u.settings.receive s.receive (turned b) l.far_line l.near_line a l.far_tied l.backward_fits l.forward_fits in
      record {
        near_line = l.near_line;
        far_line = w.line;
        near_tied = subst (λ (p : Party (connection_end limit true)). Tied (Runs true) (connection_end limit true) s.receive u.settings.receive p.state l.near_line) (sym w.far') l.near_tied;
        far_tied = w.tied;
        near_terms = l.near_terms;
        far_terms = acted-terms w ∙ l.far_terms;
        forward_fits = w.backward;
        backward_fits = w.forward;
      }

  -- and ends nothing
  pub later-active : (c : Call) → active_now limit b c ≡ []
  later-active (at near (arrive goes)) = link-quiet limit l.near_tied b.backward l.backward_fits (length b.near.buffer)
  later-active (at near (arrive stays)) = refl
  later-active (at near (arrive lost)) = refl
  later-active (at near (send m)) = refl
  later-active (at near take) = refl
  later-active (at near (time n)) = refl
  later-active (at near due) = refl
  later-active (at far a) = refl

  pub later-unit : (c : Call) → unit_now limit b c ≡ []
  later-unit (at far due) = hand-over-quiet limit l.far_tied (lent b.back)
  later-unit (at far (arrive fate)) = refl
  later-unit (at far (send m)) = refl
  later-unit (at far take) = refl
  later-unit (at far (time n)) = refl
  later-unit (at near a) = refl
