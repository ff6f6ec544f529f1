-- 02, request 5: "Show that an active end and this one .. always end opening with the same block size and each other's IDs, or with the same refusal opcode".
-- The two are a system of `delivery`: near is the active end, a connection record, and far the control unit.
use Rattle.std.specs.Prelude.{ℕ, min, ◌<◌, ◌≤◌, true, false, not, ◌&&◌, List, [], ◌∷◌, ◌++◌, ◌⊎◌, ◌≢◌, ◌≡◌, length, get_or, eqb, if◌then◌else◌}
use Rattle.std.specs.Option.{is_some}
use Rattle.open_end.specs.OpenEnd.{given_frame}
use Rattle.telegram.specs.Outgoing.{bytes_of}
use Rattle.opening.specs.Opening.{refusal}
use Rattle.settings.specs.declared.Settings.{Settings}
use Rattle.channel.specs.Opened.{test_due}
use Rattle.open_end.specs.declared.OpenEnd.{OpenEnd}
use Rattle.connection.specs.declared.Connection.{Connection}
use Rattle.connection.specs.Record.{is_open}
use Rattle.connection.specs.Calls.{opening, arrived, due_of as active_due}
use Rattle.unit.specs.declared.ControlUnit.{ControlUnit}
use Rattle.unit.specs.Record.{phase_closed, settable, is_closed as unit_closed, is_open as unit_open}
use Rattle.unit.specs.Calls.{due_of, sent_by}
use Rattle.delivery.specs.System.{Flying, System, Act, Call, turned, lent, step, run}
use Rattle.delivery.specs.System.Side.{near, far}
use Rattle.delivery.specs.System.Fate.{goes, stays, lost}
use Rattle.delivery.specs.System.Act.{send, take, time, due, arrive}
use Rattle.delivery.specs.System.Call.{at}
use Rattle.delivery.specs.Claim.{Along, FreshEnd, Fresh, no_history, SendsNear, Demand3}
use Rattle.delivery.specs.BothWays.{BothWays}
use Rattle.connection_delivery.specs.Ends.{connection_end}
use Rattle.unit_delivery.specs.Ends.{unit_end}

-- ---- what an opening ends with

-- open with a block size and that side's two IDs, or refused with an opcode
pub data Outcome : Type 0 where
  opened : (block receive transmit : ℕ) → Outcome
  refused : (opcode : ℕ) → Outcome

-- what an end is open with
abbrev pub opened_as : OpenEnd → Outcome
opened_as e = opened e.channel.parameters.terms.block e.receive e.transmit

-- the active opening ends with the first frame of the link, as it arrives: with 11, or with the A1 that opens.
-- One closed by an A8 or by 8 would be noted as nothing: `moves` and `ends` of Agrees rule that out
abbrev pub arrival_ends : (limit : ℕ) → Connection → List Flying → (room : ℕ) → List Outcome
arrival_ends limit c [] room = []
arrival_ends limit c (f ∷ rest) room =
    (let r = arrived limit c f.id f.bytes room in
    if eqb r.told.said.number 11 then refused r.told.said.opcode ∷ []
    else if not (is_open c) && is_open r.left then opened_as r.left.end ∷ []
    else [])

-- the unit's opening ends with a frame that is handed over: with the A1 that opens, or with a closed unit's D6, D7 or D8
abbrev pub hand_over_ends : ControlUnit → (lent : List ℕ) → List Outcome
hand_over_ends u m =
    (let d = due_of u m in
    let opcode = get_or (bytes_of (given_frame d.frame).payload) 1 0 in
    if not (unit_open u) && unit_open d.left then opened_as d.left.end ∷ []
    else if unit_closed u && is_some d.frame && refusal opcode then refused opcode ∷ []
    else [])

-- what is wanted at a side: with D0 set, open with a block size and that side's two IDs, else the opcode of the refusal
abbrev pub wanted : (reply block receive transmit : ℕ) → Outcome
wanted reply block receive transmit = if eqb reply 0xD0 then opened block receive transmit else refused reply

-- ---- calls

-- the links "lose and repeat nothing"; "with no close or second open meanwhile": there is no such call here
abbrev pub NoFault : Act → Type 0
NoFault (arrive goes) = Unit {0}
NoFault (arrive stays) = ⊥
NoFault (arrive lost) = ⊥
NoFault (send m) = Unit {0}
NoFault take = Unit {0}
NoFault (time n) = Unit {0}
NoFault due = Unit {0}

-- "each request answered within T_E": where it runs, less time passes than is left of it
abbrev pub WithinTE : Connection → Act → Type 0
WithinTE c (time n) = 0 < c.attempt.wait → n < c.attempt.wait
WithinTE c (arrive fate) = Unit {0}
WithinTE c (send m) = Unit {0}
WithinTE c take = Unit {0}
WithinTE c due = Unit {0}

-- the unit accepts no message, and has no test due when it is asked for a frame: behind the A1 nothing goes out before it has arrived
abbrev pub Silent : (limit : ℕ) → ControlUnit → Act → Type 0
Silent limit u (send m) = (sent_by limit u (length m)).told.said.number ≢ 0
Silent limit u due = unit_open u ≡ true → test_due u.end.channel ≡ false
Silent limit u take = Unit {0}
Silent limit u (time n) = Unit {0}
Silent limit u (arrive fate) = Unit {0}

-- due and arrive of the two sides in turn: a request and its answer
abbrev pub round_trip : List Call
round_trip = at near due ∷ at far (arrive goes) ∷ at far due ∷ at near (arrive goes) ∷ []

-- C0 and D0, A0 and A1; for a refusal, C0 and the reply
abbrev pub turns : (reply : ℕ) → List Call
turns reply = if eqb reply 0xD0 then round_trip ++ round_trip else round_trip

-- some calls stand in a list, in their order, with any others between
pub data Subsequence : List Call → List Call → Type 0 where
  done : {cs : List Call} → Subsequence [] cs
  these : (c : Call) {ts cs : List Call} → Subsequence ts cs → Subsequence (c ∷ ts) (c ∷ cs)
  other : (c : Call) {ts cs : List Call} → Subsequence ts cs → Subsequence ts (c ∷ cs)

-- ---- an active end and a control unit

module _ (limit : ℕ) where
  -- near the active end, far the unit; only lengths of messages know the limit
  abbrev pub Bench : Type 0
  Bench = System (connection_end limit true) (unit_end limit)

  -- what the active opening ends with in this call
  abbrev pub active_now : Bench → Call → List Outcome
  active_now b (at near (arrive goes)) = arrival_ends limit b.near.state b.backward (length b.near.buffer)
  active_now b (at near (arrive stays)) = []
  active_now b (at near (arrive lost)) = []
  active_now b (at near (send m)) = []
  active_now b (at near take) = []
  active_now b (at near (time n)) = []
  active_now b (at near due) = []
  active_now b (at far a) = []

  -- what the unit's opening ends with in this call
  abbrev pub unit_now : Bench → Call → List Outcome
  unit_now b (at far due) = hand_over_ends b.far.state (lent b.back)
  unit_now b (at far (arrive fate)) = []
  unit_now b (at far (send m)) = []
  unit_now b (at far take) = []
  unit_now b (at far (time n)) = []
  unit_now b (at near a) = []

  -- what an opening has ended with along a list of calls: nothing, one outcome, or more if it ended more than once
  abbrev pub gathered : (Bench → Call → List Outcome) → Bench → List Call → List Outcome
  gathered now b [] = []
  gathered now b (c ∷ cs) = now b c ++ gathered now (step b c) cs

  -- the active one
  abbrev pub active_ended : Bench → List Call → List Outcome
  active_ended = gathered active_now

  -- and the unit's
  abbrev pub unit_ended : Bench → List Call → List Outcome
  unit_ended = gathered unit_now

  -- ---- what is assumed

  -- "both closed with nothing due and set to one unit, over links that start empty": the open of the connection c with the settings s was answered 0,
  -- so that it was closed, and what was due is discarded; the unit is u, with settings and a reply that it takes. Buffers and histories are any
  pub record Begins (c : Connection) (s : Settings) (u : ControlUnit) (b : Bench) : Type 0 where
    pub answered : (opening c s).told.said.number ≡ 0
    pub active : b.near.state ≡ (opening c s).left
    pub unit : b.far.state ≡ u
    pub closed : u.phase ≡ phase_closed
    pub set : settable u.settings u.reply ≡ true
    pub one : s.unit ≡ u.settings.unit
    pub forward : b.forward ≡ []
    pub backward : b.backward ≡ []

  -- the calls of the claim
  abbrev pub Proper : Bench → Call → Type 0
  Proper b (at near a) = NoFault a × WithinTE b.near.state a
  Proper b (at far a) = NoFault a

  -- ---- the claim

  -- a frame is due at an end, or under way in a link
  abbrev pub Moving : Bench → Type 0
  Moving b =
      (is_some (active_due b.near.state (lent b.forth)).frame ≡ true)
      ⊎ ((is_some (due_of b.far.state (lent b.back)).frame ≡ true)
      ⊎ ((b.forward ≢ []) ⊎ (b.backward ≢ [])))

  -- after a list of calls, with what is wanted at either side
  pub record Agrees (for_active for_unit : Outcome) (reply : ℕ) (b : Bench) (cs : List Call) : Type 0 where
    -- each opening has ended with nothing yet, or once, as wanted
    pub active : (active_ended b cs ≡ []) ⊎ (active_ended b cs ≡ for_active ∷ [])
    pub unit : (unit_ended b cs ≡ []) ⊎ (unit_ended b cs ≡ for_unit ∷ [])
    -- the active one has ended only if the other has
    pub follows : unit_ended b cs ≡ [] → active_ended b cs ≡ []
    -- while it has not, a frame is due or under way
    pub moves : active_ended b cs ≡ [] → Moving (run b cs)
    -- "each due frame handed over": with all turns among the calls both have ended
    pub ends : Subsequence (turns reply) cs → (active_ended b cs ≡ for_active ∷ []) × (unit_ended b cs ≡ for_unit ∷ [])

  -- "always end opening with the same block size and each other's IDs, or with the same refusal opcode"; the block size is the smaller one
  abbrev pub OpeningAgrees : Type 0
  OpeningAgrees =
      (c : Connection) (s : Settings) (u : ControlUnit) (b : Bench) → Begins c s u b → (cs : List Call) → Along Proper b cs
      → (let block = min s.block u.settings.block in
      Agrees (wanted u.reply block s.receive u.settings.receive) (wanted u.reply block u.settings.receive s.receive) u.reply b cs)

  -- ---- from there on

  -- the same ends, buffers and links, with nothing noted yet: the history so far speaks of the frames of the opening
  abbrev pub anew : Bench → Bench
  anew b =
      record {
        near = b.near;
        far = b.far;
        forward = b.forward;
        backward = b.backward;
        forth = no_history b.forth.ack_try;
        back = no_history b.back.ack_try;
      }

  -- the unit is silent, the active end does what it likes
  abbrev pub SilentAt : Bench → Call → Type 0
  SilentAt b (at near a) = Unit {0}
  SilentAt b (at far a) = Silent limit b.far.state a

  -- "Demand 3 is wanted from that opening on, once both links are empty": if the unit is silent, they are with the A1 that opens the active end, and the pair is fresh
  abbrev pub OpeningFresh : Type 0
  OpeningFresh =
      (c : Connection) (s : Settings) (u : ControlUnit) (b : Bench) → Begins c s u b → (cs : List Call) → Along Proper b cs → Along SilentAt b cs
      → (block receive transmit : ℕ) → active_now (run b cs) (at near (arrive goes)) ≡ opened block receive transmit ∷ []
      → Fresh (anew (step (run b cs) (at near (arrive goes))))

  -- and whatever the unit has sent: wherever such a run leaves each end fresh and both links empty, the two are a fresh pair: each other's IDs, and one block size of 1 to 15
  abbrev pub OpeningMoments : Type 0
  OpeningMoments =
      (c : Connection) (s : Settings) (u : ControlUnit) (b : Bench) → Begins c s u b → (cs : List Call) → Along Proper b cs
      → FreshEnd (run b cs).near → FreshEnd (run b cs).far → (run b cs).forward ≡ [] → (run b cs).backward ≡ []
      → Fresh (anew (run b cs))

  -- and from every moment at which both are open and fresh and both links are empty: demand 3, either end sending, and request 14's claim
  pub record Delivers (b : Bench) : Type 0 where
    pub forth : (cs : List Call) → SendsNear cs → Demand3 b cs
    pub back : (cs : List Call) → SendsNear cs → Demand3 (turned b) cs
    pub both : (cs : List Call) → BothWays b cs

-- 02, 5, whatever the limit on lengths; for what is delivered, one that twelve bits can say
pub record OpeningHolds : Type 0 where
  pub agrees : (limit : ℕ) → OpeningAgrees limit
  pub fresh : (limit : ℕ) → OpeningFresh limit
  pub moments : (limit : ℕ) → OpeningMoments limit
  pub delivers : (limit : ℕ) → limit ≤ 4095 → (b : Bench limit) → Fresh (anew limit b) → Delivers limit (anew limit b)
