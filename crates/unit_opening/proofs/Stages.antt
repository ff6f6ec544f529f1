-- The stages of an opening, from the C0 due to both ends open or both refused: where the two ends and the links stand, and what each opening has ended with.
use Prim.Native.Nat.{ℕ, ◌+◌, min, ◌<◌}
use mathlib.Core.Bool.{Bool, true, false, ◌&&◌}
use mathlib.Core.List.{List, [], ◌∷◌, ◌++◌}
use mathlib.Core.Path.{◌≡◌}
use lib.Dec.{ltb, eqb}
use Rattle.telegram.specs.Outgoing.{bytes_of}
use Rattle.telegram.specs.Kinds.{setup_of, accept_of}
use Rattle.opening.specs.Opening.{request_id, refusal, request_of, reply_of}
use Rattle.settings.specs.declared.Settings.{Settings}
use Rattle.settings.specs.Agreed.{own_fields, agreed}
use Rattle.connection.specs.declared.Connection.{Connection}
use Rattle.connection.specs.Record.{closed_record, requesting, agreeing}
use Rattle.unit.specs.declared.ControlUnit.{ControlUnit}
use Rattle.unit.specs.Record.{phase_refusing, phase_replying, phase_replied, phase_open, closed_of, accepting, at_phase}
use Rattle.delivery.specs.Line.{Line}
use Rattle.delivery.specs.Laws.{Carried}
use Rattle.delivery.specs.System.{Try, Flying, Call}
use Rattle.delivery.specs.System.Side.{near, far}
use Rattle.delivery.specs.System.Fate.{goes, stays, lost}
use Rattle.delivery.specs.System.Act.{send, take, time, due, arrive}
use Rattle.delivery.specs.System.Call.{at}
use Rattle.delivery.proofs.Directions.{Fits}
use Rattle.connection_delivery.specs.Ends.{connection_end}
use Rattle.connection_delivery.proofs.Opened.{awaiting}
use Rattle.connection_delivery.proofs.Keeps.{Runs}
use Rattle.connection_delivery.proofs.Around.{Tied}
use Rattle.unit_delivery.specs.Ends.{unit_end}
use Rattle.unit_opening.specs.Opening.{Outcome, opened, refused, round_trip}
use Rattle.unit_opening.proofs.Answering.{asked_at}
use Rattle.unit_opening.proofs.Terms.{terms_of}

-- ---- turns

-- the calls of a round trip by their turn in it; no other has one
abbrev pub turn_of : Call → ℕ
turn_of (at near due) = 0
turn_of (at far (arrive goes)) = 1
turn_of (at far due) = 2
turn_of (at near (arrive goes)) = 3
turn_of (at near (arrive stays)) = 4
turn_of (at near (arrive lost)) = 4
turn_of (at near (send m)) = 4
turn_of (at near take) = 4
turn_of (at near (time n)) = 4
turn_of (at far (arrive stays)) = 4
turn_of (at far (arrive lost)) = 4
turn_of (at far (send m)) = 4
turn_of (at far take) = 4
turn_of (at far (time n)) = 4

-- a call is one of a round trip
abbrev pub is_turn : Call → Bool
is_turn c = ltb (turn_of c) 4

-- the first of some calls has this turn
abbrev first_is : List Call → (turn : ℕ) → Bool
first_is [] n = false
first_is (c ∷ cs) n = eqb (turn_of c) n

-- a call is the first of the turns that are left
abbrev pub is_next : (left : List Call) → Call → Bool
is_next left c = is_turn c && first_is left (turn_of c)

-- ---- places

-- where two ends and the links between them stand, and what each opening has ended with
pub record Place : Type 0 where
  pub active : Connection
  pub unit : ControlUnit
  pub forward : List Flying
  pub backward : List Flying
  pub active_has : List Outcome
  pub unit_has : List Outcome

abbrev pub place : Connection → ControlUnit → (forward backward : List Flying) → (active unit : List Outcome) → Place
place c v fw bw a h = record { active = c; unit = v; forward = fw; backward = bw; active_has = a; unit_has = h }

module _ (s : Settings) (u : ControlUnit) where
  -- ---- the frames

  abbrev pub c0 : Try → Flying
  c0 t = record { id = request_id; bytes = bytes_of (request_of s.unit s.receive); try = t }

  abbrev pub reply : (opcode : ℕ) → Try → Flying
  reply opcode t = record { id = request_id + u.settings.unit; bytes = bytes_of (reply_of opcode s.receive u.settings.receive); try = t }

  abbrev pub a0 : Try → Flying
  a0 t = record { id = u.settings.receive; bytes = bytes_of (setup_of (own_fields s)); try = t }

  abbrev pub a1 : Try → Flying
  a1 t = record { id = s.receive; bytes = bytes_of (accept_of (own_fields u.settings)); try = t }

  -- ---- the ends

  -- the active end once it knows the unit's receive ID
  abbrev pub agrees : Connection
  agrees = agreeing (requesting s) u.settings.receive

  -- the unit at a phase before the A0, with its A1 due, and open
  abbrev pub asked : (phase : ℕ) → ControlUnit
  asked = asked_at u s.receive

  abbrev pub accepts : ControlUnit
  accepts = accepting (asked phase_replied) (own_fields s)

  abbrev pub opens : ControlUnit
  opens = at_phase accepts phase_open

  -- ---- the outcomes

  abbrev pub active_opened : Outcome
  active_opened = opened (min s.block u.settings.block) s.receive u.settings.receive

  abbrev pub unit_opened : Outcome
  unit_opened = opened (min u.settings.block s.block) u.settings.receive s.receive

  -- ---- the stages

  -- the unit is set to D0, and a second round trip follows; or to a refusal, and none does
  abbrev pub Positive : Type 0
  Positive = eqb u.reply 0xD0 ≡ true

  pub record Negative : Type 0 where
    pub other : eqb u.reply 0xD0 ≡ false
    pub refuses : refusal u.reply ≡ true

  pub data Set : (behind : List Call) → Type 0 where
    positive : Positive → Set round_trip
    negative : Negative → Set []

  -- neither end is open, and one frame is due or under way; or both have refused
  pub data Before : (left : List Call) → Place → Type 0 where
    c0-due : {behind : List Call} → Set behind → Before (round_trip ++ behind) (place (requesting s) u [] [] [] [])
    c0-out : {behind : List Call} → Set behind → (wait : ℕ) → 0 < wait → (t : Try)
        → Before (at far (arrive goes) ∷ at far due ∷ at near (arrive goes) ∷ behind) (place (awaiting (requesting s) wait) u (c0 t ∷ []) [] [] [])
    refusal-due : Negative → (wait : ℕ) → 0 < wait
        → Before (at far due ∷ at near (arrive goes) ∷ []) (place (awaiting (requesting s) wait) (asked phase_refusing) [] [] [] [])
    refusal-out : Negative → (wait : ℕ) → 0 < wait → (t : Try)
        → Before (at near (arrive goes) ∷ []) (place (awaiting (requesting s) wait) (closed_of u) [] (reply u.reply t ∷ []) [] (refused u.reply ∷ []))
    both-refused : Negative → Before [] (place closed_record (closed_of u) [] [] (refused u.reply ∷ []) (refused u.reply ∷ []))
    d0-due : Positive → (wait : ℕ) → 0 < wait
        → Before (at far due ∷ at near (arrive goes) ∷ round_trip) (place (awaiting (requesting s) wait) (asked phase_replying) [] [] [] [])
    d0-out : Positive → (wait : ℕ) → 0 < wait → (t : Try)
        → Before (at near (arrive goes) ∷ round_trip) (place (awaiting (requesting s) wait) (asked phase_replied) [] (reply 0xD0 t ∷ []) [] [])
    a0-due : Positive → Before round_trip (place agrees (asked phase_replied) [] [] [] [])
    a0-out : Positive → (wait : ℕ) → 0 < wait → (t : Try)
        → Before (at far (arrive goes) ∷ at far due ∷ at near (arrive goes) ∷ []) (place (awaiting agrees wait) (asked phase_replied) (a0 t ∷ []) [] [] [])
    a1-due : Positive → (wait : ℕ) → 0 < wait → Before (at far due ∷ at near (arrive goes) ∷ []) (place (awaiting agrees wait) accepts [] [] [] [])

  -- both ends have been open: their calls are those of two channels on the agreed terms, and no other kind of frame comes
  pub record Later (limit : ℕ) (c : Connection) (v : ControlUnit) (forward backward : List Flying) : Type 0 where
    pub near_line : Line
    pub far_line : Line
    pub near_tied : Tied (Runs true) (connection_end limit true) s.receive u.settings.receive c near_line
    pub far_tied : Tied (Runs true) (unit_end limit) u.settings.receive s.receive v far_line
    pub near_terms : terms_of near_line ≡ (agreed s (own_fields u.settings)).terms
    pub far_terms : terms_of far_line ≡ (agreed u.settings (own_fields s)).terms
    pub forward_fits : Fits Carried u.settings.receive forward
    pub backward_fits : Fits Carried s.receive backward

  -- the unit has been open: tied to a channel on the agreed terms, with frames of that channel behind the A1
  pub record Acting (limit : ℕ) (v : ControlUnit) (behind : List Flying) : Type 0 where
    pub line : Line
    pub tied : Tied (Runs true) (unit_end limit) u.settings.receive s.receive v line
    pub terms : terms_of line ≡ (agreed u.settings (own_fields s)).terms
    pub fits : Fits Carried s.receive behind

  -- or the A1 is first in the link, and the unit, open or closed by 8, may have sent behind it: Free says how it may stand
  pub data Stage (limit : ℕ) (Free : ControlUnit → (behind : List Flying) → Type 0) : (left : List Call) → Place → Type 0 where
    before : {left : List Call} {p : Place} → Before left p → Stage limit Free left p
    a1-out : Positive → (wait : ℕ) → 0 < wait → (t : Try) {v : ControlUnit} {behind : List Flying} → Free v behind
        → Stage limit Free (at near (arrive goes) ∷ []) (place (awaiting agrees wait) v [] (a1 t ∷ behind) [] (unit_opened ∷ []))
    later : Positive → {c : Connection} {v : ControlUnit} {fw bw : List Flying} → Later limit c v fw bw
        → Stage limit Free [] (place c v fw bw (active_opened ∷ []) (unit_opened ∷ []))
