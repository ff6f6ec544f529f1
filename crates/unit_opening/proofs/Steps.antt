-- Every call keeps the stage of an opening or leads to the next one, and each stage's own turn does that.
use Rattle.std.specs.Prelude.{if◌then◌else◌}
use Prim.Native.Nat.{ℕ, ◌+◌, ◌-◌, ◌<◌}
use native.Mathlib.Omega.{arith}
use mathlib.Core.Bool.{Bool, true, false, cond}
use mathlib.Core.List.{List, [], ◌∷◌, ◌++◌, append-nil}
use mathlib.Core.Logic.{◌≢◌, inl}
use mathlib.Core.Path.{◌≡◌, refl, subst}
use lib.ListN.{length, drop}
use borrow.Author.Tests.{ltb-false}
use Rattle.laws.proofs.Branches.{and-off'}
use Rattle.std.specs.Option.{is_some}
use Rattle.open_end.specs.OpenEnd.{given_frame}
use Rattle.telegram.specs.Outgoing.{bytes_of}
use Rattle.opening.specs.Opening.{request_id, reply_of}
use Rattle.settings.specs.Settings.{allowed}
use Rattle.settings.specs.Agreed.{own_fields}
use Rattle.settings.specs.declared.Settings.{Settings}
use Rattle.channel.specs.declared.Answer.TheVariants.{Good}
use Rattle.open_end.specs.declared.answers.Answer.TheVariants.{Refused}
use Rattle.open_end.specs.Answers.{told, gives, marked, hand_nothing, hand_nothing as unit_hands_nothing}
use Rattle.connection.specs.declared.Connection.{Connection}
use Rattle.connection.specs.Record.{is_open, closed_record, requesting, opened}
use Rattle.connection.specs.Calls.{arrived, elapsed, due_of}
use Rattle.connection.proofs.Rules.{due_of-closed, elapsed-closed}
use Rattle.unit.specs.declared.ControlUnit.{ControlUnit}
use Rattle.unit.proofs.Rules.{sent_by-before, taken_by-before, elapsed-before, due_of-closed as unit-hands-nothing}
use Rattle.unit.specs.Record.{phase_closed, asked_by, closed_of, is_closed as unit_closed, is_open as unit_open}
use Rattle.unit.specs.Calls.{due_of as unit_due, sent_by as unit_sent, taken_by as unit_taken, elapsed as unit_elapsed}
use Rattle.delivery.specs.System.{Try, Flying, History, Act, Call, turned, lent, step, sending, taking, timing, asking, arriving, meeting}
use Rattle.delivery.specs.System.Side.{near, far}
use Rattle.delivery.specs.System.Fate.{goes, stays, lost}
use Rattle.delivery.specs.System.Act.{send, take, time, due, arrive}
use Rattle.delivery.specs.System.Call.{at}
use Rattle.profile.specs.Profile.{tp20}
use Rattle.profile.proofs.Opening.{tp20-positive, tp20-requests}
use Rattle.connection_delivery.proofs.Opened.{allowed-parts, eleven-bits, awaiting, hands-c0, d0-arrives, hands-a0, a1-arrives}
use Rattle.connection_delivery.proofs.Around.{open'}
use Rattle.unit_opening.specs.Opening.{Outcome, hand_over_ends, arrival_ends, WithinTE, Bench, Proper, active_now, unit_now}
use Rattle.unit_opening.proofs.Asking.{sent-shut, taken-shut, Asks, for-d0, for-a1, asks-elapsed, awaiting-due, awaiting-elapsed, refusal-arrives}
use Rattle.unit_opening.proofs.Answering.{asked-positive, asked-negative, c0-arrives, hands-refusal, hands-d0, hands_none, a0-arrives, hands-a1}
use Rattle.unit_opening.proofs.Stages.{is_turn, is_next, Place, place, Positive, Negative, Set, positive, negative, agrees, opens, unit_opened, a1, Before, c0-due, c0-out, refusal-due, refusal-out, both-refused, d0-due, d0-out, a0-due, a0-out, a1-due, Acting, Stage, before, a1-out, later}
use Rattle.unit_opening.proofs.Later.{nothing-given, hand-over-quiet, later-step, later-active, later-unit}

-- what is assumed of the two ends
pub record Ready (s : Settings) (u : ControlUnit) : Type 0 where
  pub allowed' : allowed s ≡ true
  pub closed : u.phase ≡ phase_closed
  pub set : allowed u.settings ≡ true
  pub other : u.settings.receive ≢ request_id
  pub one : s.unit ≡ u.settings.unit

-- how the unit may stand while the A1 is under way, with what it sent behind it, under the calls that are permitted: it begins open, its calls keep it so, and it is tied to a channel
pub record Freedom (limit : ℕ) (s : Settings) (u : ControlUnit) (Free : ControlUnit → (behind : List Flying) → Type 0) (Permit : ControlUnit → Act → Type 0) : Type 0 where
  pub begins : Free (opens s u) []
  pub sends : {v : ControlUnit} {behind : List Flying} → Free v behind → (m : List ℕ) → Permit v (send m) → Free (unit_sent limit v (length m)).left behind
  pub takes : {v : ControlUnit} {behind : List Flying} → Free v behind → (room : ℕ) → Free (unit_taken v room).left behind
  pub times : {v : ControlUnit} {behind : List Flying} → Free v behind → (n : ℕ) → Free (unit_elapsed v n).left behind
  pub hands : {v : ControlUnit} {behind : List Flying} → Free v behind → (m : List ℕ) → Permit v due → (t : Try)
      → (let d = unit_due v m in
      Free d.left (if is_some d.frame then behind ++ (record { id = (given_frame d.frame).id; bytes = bytes_of (given_frame d.frame).payload; try = t } ∷ []) else behind))
  pub ties : {v : ControlUnit} {behind : List Flying} → Free v behind → Acting s u limit v behind

module _ (limit : ℕ) (s : Settings) (u : ControlUnit) (ready : Ready s u) where
  -- the reply comes from 0x200 + its unit, which is the one asked
  pub d0-met : (wait room : ℕ) → arrived limit (awaiting (requesting s) wait) (request_id + u.settings.unit) (bytes_of (reply_of 0xD0 s.receive u.settings.receive)) room
      ≡ marked false (gives Good (agrees s u))
  d0-met wait room =
      subst (λ (n : ℕ). arrived limit (awaiting (requesting s) wait) (request_id + n) (bytes_of (reply_of 0xD0 s.receive u.settings.receive)) room ≡ marked false (gives Good (agrees s u)))
      ready.one (d0-arrives limit tp20 s u.settings.receive _ (tp20-positive s.receive u.settings.receive (eleven-bits s ready.allowed') (eleven-bits u.settings ready.set)) wait room)

  pub refusal-met : (wait room : ℕ) → Negative s u
      → arrived limit (awaiting (requesting s) wait) (request_id + u.settings.unit) (bytes_of (reply_of u.reply s.receive u.settings.receive)) room
      ≡ marked false (record { told = told (Refused u.reply); left = closed_record })
  refusal-met wait room n =
      subst (λ (i : ℕ). arrived limit (awaiting (requesting s) wait) (request_id + i) (bytes_of (reply_of u.reply s.receive u.settings.receive)) room ≡ marked false (record { told = told (Refused u.reply); left = closed_record }))
      ready.one (refusal-arrives limit s wait u.reply s.receive u.settings.receive room n.refuses)

-- an element stands before either outcome
before-either {ℓ} : {A : Type ℓ} (g : Bool) (x : A) (l m : List A) → cond g (x ∷ l) (x ∷ m) ≡ x ∷ cond g l m
before-either true x l m = refl
before-either false x l m = refl

-- a bench, and what each opening has ended with
abbrev pub seen : (limit : ℕ) → Bench limit → (active unit : List Outcome) → Place
seen limit b a h = place b.near.state b.far.state b.forward b.backward a h

module _ (limit : ℕ) (s : Settings) (u : ControlUnit) (ready : Ready s u) {Free : ControlUnit → (behind : List Flying) → Type 0} {Permit : ControlUnit → Act → Type 0}
    (freedom : Freedom limit s u Free Permit) where
  -- after a call: the stage is the same, and the call was not its turn; or it is the next one
  pub data Moved (left : List Call) (call : Call) (p : Place) : Type 0 where
    kept : is_next left call ≡ false → Stage s u limit Free left p → Moved left call p
    next : Stage s u limit Free (drop 1 left) p → Moved left call p

  -- a call that is permitted
  abbrev pub Permitted : Bench limit → Call → Type 0
  Permitted b (at near a) = Unit {0}
  Permitted b (at far a) = Permit b.far.state a

  module _ (near_buffer far_buffer : List ℕ) (forth back : History) where
    -- a place with these buffers and histories
    abbrev pub bench : Place → Bench limit
    bench p =
        record {
          near = record { state = p.active; buffer = near_buffer };
          far = record { state = p.unit; buffer = far_buffer };
          forward = p.forward;
          backward = p.backward;
          forth = forth;
          back = back;
        }

    -- what a call leaves of a place, if it ends nothing
    abbrev Left : (left : List Call) → Call → Bench limit → Place → Type 0
    Left left call b p = Moved left call (seen limit b p.active_has p.unit_has)

    -- ---- calls that change nothing

    module _ {left : List Call} {p : Place} (stage : Stage s u limit Free left p) where
      -- at an active end that is not open
      near-send : is_open p.active ≡ false → (m : List ℕ) → Left left (at near (send m)) (sending (bench p) m) p
      unfolding sending
      near-send shut m = rw (sent-shut p.active shut limit (length m)) (kept refl stage)

      near-take : is_open p.active ≡ false → Left left (at near take) (taking (bench p)) p
      unfolding taking
      near-take shut = rw (taken-shut p.active shut (length near_buffer)) (kept refl stage)

      near-still : (n : ℕ) → elapsed p.active n ≡ gives Good p.active → Left left (at near (time n)) (timing (bench p) n) p
      unfolding timing
      near-still n e = rw e (kept refl stage)

      near-idle : is_next left (at near due) ≡ false → due_of p.active (lent forth) ≡ hand_nothing p.active → Left left (at near due) (asking (bench p)) p
      unfolding asking
      near-idle n e = rw e (kept n stage)

      -- at a unit that is not open
      far-send : unit_open p.unit ≡ false → (m : List ℕ) → Left left (at far (send m)) (turned (sending (turned (bench p)) m)) p
      unfolding sending
      far-send shut m = rw (sent_by-before p.unit (ltb-false 5 p.unit.phase shut) limit (length m)) (kept refl stage)

      far-take : unit_open p.unit ≡ false → Left left (at far take) (turned (taking (turned (bench p)))) p
      unfolding taking
      far-take shut = rw (taken_by-before p.unit (ltb-false 5 p.unit.phase shut) (length far_buffer)) (kept refl stage)

      far-time : unit_open p.unit ≡ false → (n : ℕ) → Left left (at far (time n)) (turned (timing (turned (bench p)) n)) p
      unfolding timing
      far-time shut n = rw (elapsed-before p.unit (ltb-false 5 p.unit.phase shut) n) (kept refl stage)

      far-idle : is_next left (at far due) ≡ false → unit_open p.unit ≡ false → unit_due p.unit (lent back) ≡ unit_hands_nothing p.unit
          → Moved left (at far due) (seen limit (turned (asking (turned (bench p)))) p.active_has (p.unit_has ++ hand_over_ends p.unit (lent back)))
      unfolding asking
      far-idle n shut e = rw (e, shut, nothing-given (unit_closed p.unit) false, append-nil p.unit_has) (kept n stage)

    -- while a reply is awaited T_E runs, and some of it is left
    near-waits : {left : List Call} {c : Connection} {v : ControlUnit} {fw bw : List Flying} {a h : List Outcome} → Asks c
        → (wait n : ℕ) → n < wait → ((w : ℕ) → 0 < w → Stage s u limit Free left (place (awaiting c w) v fw bw a h))
        → Moved left (at near (time n)) (seen limit (timing (bench (place (awaiting c wait) v fw bw a h)) n) a h)
    unfolding timing
    near-waits asks wait n l stage = rw (awaiting-elapsed asks wait n l) (kept refl (stage (wait - n) (omega (arith, l))))

    -- ---- before the A1 is out, stage by stage

    pub near-shut : {left : List Call} {p : Place} → Before s u left p → is_open p.active ≡ false
    near-shut (c0-due o) = refl
    near-shut (c0-out o w l t) = refl
    near-shut (refusal-due o w l) = refl
    near-shut (refusal-out o w l t) = refl
    near-shut (both-refused o) = refl
    near-shut (d0-due o w l) = refl
    near-shut (d0-out o w l t) = refl
    near-shut (a0-due o) = refl
    near-shut (a0-out o w l t) = refl
    near-shut (a1-due o w l) = refl

    far-shut : {left : List Call} {p : Place} → Before s u left p → unit_open p.unit ≡ false
    far-shut (c0-due o) = rw ready.closed
    far-shut (c0-out o w l t) = rw ready.closed
    far-shut (refusal-due o w l) = refl
    far-shut (refusal-out o w l t) = refl
    far-shut (both-refused o) = refl
    far-shut (d0-due o w l) = refl
    far-shut (d0-out o w l t) = refl
    far-shut (a0-due o) = refl
    far-shut (a0-out o w l t) = refl
    far-shut (a1-due o w l) = refl

    near-time : {left : List Call} {p : Place} → Before s u left p → (n : ℕ) → WithinTE p.active (time n) → Left left (at near (time n)) (timing (bench p) n) p
    near-time (c0-due o) n i = near-still (before (c0-due o)) n (asks-elapsed (for-d0 s) n)
    near-time (c0-out o w l t) n i = near-waits (for-d0 s) w n (i l) (λ w l. before (c0-out o w l t))
    near-time (refusal-due o w l) n i = near-waits (for-d0 s) w n (i l) (λ w l. before (refusal-due o w l))
    near-time (refusal-out o w l t) n i = near-waits (for-d0 s) w n (i l) (λ w l. before (refusal-out o w l t))
    near-time (both-refused o) n i = near-still (before (both-refused o)) n (elapsed-closed closed_record refl n)
    near-time (d0-due o w l) n i = near-waits (for-d0 s) w n (i l) (λ w l. before (d0-due o w l))
    near-time (d0-out o w l t) n i = near-waits (for-d0 s) w n (i l) (λ w l. before (d0-out o w l t))
    near-time (a0-due o) n i = near-still (before (a0-due o)) n (asks-elapsed (for-a1 s u.settings.receive) n)
    near-time (a0-out o w l t) n i = near-waits (for-a1 s u.settings.receive) w n (i l) (λ w l. before (a0-out o w l t))
    near-time (a1-due o w l) n i = near-waits (for-a1 s u.settings.receive) w n (i l) (λ w l. before (a1-due o w l))

    near-due : {left : List Call} {p : Place} → Before s u left p → Left left (at near due) (asking (bench p)) p
    unfolding asking
    near-due (c0-due o) = rw (hands-c0 limit tp20 s (lent forth), tp20-requests s.unit s.receive) (next (before (c0-out o s.t_e (allowed-parts tp20 s ready.allowed').t_e _)))
    near-due (c0-out o w l t) = near-idle (before (c0-out o w l t)) refl (awaiting-due (for-d0 s) w (lent forth))
    near-due (refusal-due o w l) = near-idle (before (refusal-due o w l)) refl (awaiting-due (for-d0 s) w (lent forth))
    near-due (refusal-out o w l t) = near-idle (before (refusal-out o w l t)) refl (awaiting-due (for-d0 s) w (lent forth))
    near-due (both-refused o) = near-idle (before (both-refused o)) refl (due_of-closed closed_record refl (lent forth) refl)
    near-due (d0-due o w l) = near-idle (before (d0-due o w l)) refl (awaiting-due (for-d0 s) w (lent forth))
    near-due (d0-out o w l t) = near-idle (before (d0-out o w l t)) refl (awaiting-due (for-d0 s) w (lent forth))
    near-due (a0-due o) = rw (hands-a0 limit tp20 s u.settings.receive (lent forth)) (next (before (a0-out o s.t_e (allowed-parts tp20 s ready.allowed').t_e _)))
    near-due (a0-out o w l t) = near-idle (before (a0-out o w l t)) refl (awaiting-due (for-a1 s u.settings.receive) w (lent forth))
    near-due (a1-due o w l) = near-idle (before (a1-due o w l)) refl (awaiting-due (for-a1 s u.settings.receive) w (lent forth))

    near-arrive : {left : List Call} {p : Place} → Before s u left p
        → Moved left (at near (arrive goes)) (seen limit (meeting goes p.backward (bench p)) (p.active_has ++ arrival_ends limit p.active p.backward (length near_buffer)) p.unit_has)
    unfolding arriving
    near-arrive (c0-due o) = kept refl (before (c0-due o))
    near-arrive (c0-out o w l t) = kept refl (before (c0-out o w l t))
    near-arrive (refusal-due o w l) = kept refl (before (refusal-due o w l))
    near-arrive (refusal-out o w l t) = rw (refusal-met limit s u ready w (length near_buffer) o) (next (before (both-refused o)))
    near-arrive (both-refused o) = kept refl (before (both-refused o))
    near-arrive (d0-due o w l) = kept refl (before (d0-due o w l))
    near-arrive (d0-out o w l t) = rw (d0-met limit s u ready w (length near_buffer)) (next (before (a0-due o)))
    near-arrive (a0-due o) = kept refl (before (a0-due o))
    near-arrive (a0-out o w l t) = kept refl (before (a0-out o w l t))
    near-arrive (a1-due o w l) = kept refl (before (a1-due o w l))

    far-due : {left : List Call} {p : Place} → Before s u left p
        → Moved left (at far due) (seen limit (turned (asking (turned (bench p)))) p.active_has (p.unit_has ++ hand_over_ends p.unit (lent back)))
    unfolding asking
    far-due (c0-due o) = far-idle (before (c0-due o)) refl (rw ready.closed) (unit-hands-nothing u (lent back) (inl ready.closed))
    far-due (c0-out o w l t) = far-idle (before (c0-out o w l t)) refl (rw ready.closed) (unit-hands-nothing u (lent back) (inl ready.closed))
    far-due (refusal-due o w l) = rw (hands-refusal u s.receive (lent back), o.refuses) (next (before (refusal-out o w l _)))
    far-due (refusal-out o w l t) = far-idle (before (refusal-out o w l t)) refl refl (unit-hands-nothing (closed_of u) (lent back) (inl refl))
    far-due (both-refused o) = far-idle (before (both-refused o)) refl refl (unit-hands-nothing (closed_of u) (lent back) (inl refl))
    far-due (d0-due o w l) = rw (hands-d0 u s.receive (lent back)) (next (before (d0-out o w l _)))
    far-due (d0-out o w l t) = far-idle (before (d0-out o w l t)) refl refl (hands_none u s.receive (lent back))
    far-due (a0-due o) = far-idle (before (a0-due o)) refl refl (hands_none u s.receive (lent back))
    far-due (a0-out o w l t) = far-idle (before (a0-out o w l t)) refl refl (hands_none u s.receive (lent back))
    far-due (a1-due o w l) = rw (hands-a1 u s.receive (own_fields s) (lent back)) (next (a1-out o w l _ freedom.begins))

    -- the C0 is answered as set
    replies : {behind : List Call} → Set s u behind → (wait : ℕ) → 0 < wait
        → Stage s u limit Free (at far due ∷ at near (arrive goes) ∷ behind) (place (awaiting (requesting s) wait) (asked_by u s.receive) [] [] [] [])
    replies (positive o) w l = rw (asked-positive u s.receive o) (before (d0-due o w l))
    replies (negative o) w l = rw (asked-negative u s.receive o.other) (before (refusal-due o w l))

    far-arrive : {left : List Call} {p : Place} → Before s u left p → Left left (at far (arrive goes)) (turned (meeting goes p.forward (turned (bench p)))) p
    unfolding arriving
    far-arrive (c0-due o) = kept refl (before (c0-due o))
    far-arrive (c0-out o w l t) = rw (c0-arrives u s.receive limit (length far_buffer) ready.closed ready.one (eleven-bits s ready.allowed')) (next (replies o w l))
    far-arrive (refusal-due o w l) = kept refl (before (refusal-due o w l))
    far-arrive (refusal-out o w l t) = kept refl (before (refusal-out o w l t))
    far-arrive (both-refused o) = kept refl (before (both-refused o))
    far-arrive (d0-due o w l) = kept refl (before (d0-due o w l))
    far-arrive (d0-out o w l t) = kept refl (before (d0-out o w l t))
    far-arrive (a0-due o) = kept refl (before (a0-due o))
    far-arrive (a0-out o w l t) =
        let own = allowed-parts tp20 s ready.allowed' in
        rw (a0-arrives u s.receive (own_fields s) limit (length far_buffer) ready.other own.least own.most) (next (before (a1-due o w l)))
    far-arrive (a1-due o w l) = kept refl (before (a1-due o w l))

    -- ---- while the A1 is under way

    module _ (wait : ℕ) (t : Try) (v : ControlUnit) (behind : List Flying) where
      abbrev under-way : Place
      under-way = place (awaiting (agrees s u) wait) v [] (a1 s u t ∷ behind) [] (unit_opened s u ∷ [])

      abbrev left_one : List Call
      left_one = at near (arrive goes) ∷ []

      module _ (o : Positive s u) (l : 0 < wait) (free : Free v behind) where
        free-send : (m : List ℕ) → Permit v (send m) → Left left_one (at far (send m)) (turned (sending (turned (bench under-way)) m)) under-way
        unfolding sending
        free-send m permit = kept refl (a1-out o wait l t (freedom.sends free m permit))

        free-take : Left left_one (at far take) (turned (taking (turned (bench under-way)))) under-way
        unfolding taking
        free-take = kept refl (a1-out o wait l t (freedom.takes free (length far_buffer)))

        free-time : (n : ℕ) → Left left_one (at far (time n)) (turned (timing (turned (bench under-way)) n)) under-way
        unfolding timing
        free-time n = kept refl (a1-out o wait l t (freedom.times free n))

        free-due : Permit v due → Moved left_one (at far due) (seen limit (turned (asking (turned (bench under-way)))) [] (unit_opened s u ∷ hand_over_ends v (lent back)))
        unfolding asking
        free-due permit =
            rw (hand-over-quiet limit (freedom.ties free).tied (lent back), before-either (is_some (unit_due v (lent back)).frame) (a1 s u t) _ behind)
            (kept refl (a1-out o wait l t (freedom.hands free (lent back) permit _)))

        -- it arrives, and both ends have been open
        a1-opens : Moved left_one (at near (arrive goes)) (seen limit (meeting goes (a1 s u t ∷ behind) (bench under-way)) (arrival_ends limit under-way.active (a1 s u t ∷ behind) (length near_buffer)) (unit_opened s u ∷ []))
        unfolding arriving
        a1-opens =
            let own = allowed-parts tp20 u.settings ready.set in
            let acts = freedom.ties free in
            rw (a1-arrives limit tp20 s u.settings.receive (own_fields u.settings) own.least own.most wait (length near_buffer))
            (next (later o (record {
              near_line = _;
              far_line = acts.line;
              near_tied = open' (opened (agrees s u) (own_fields u.settings)) refl tt;
              far_tied = acts.tied;
              near_terms = refl;
              far_terms = acts.terms;
              forward_fits = tt;
              backward_fits = acts.fits;
            })))

    -- ---- any call

    -- one that does not end the unit's opening, the active one, or either
    module _ {left : List Call} {call : Call} {c : Connection} {v : ControlUnit} {fw bw : List Flying} {a h : List Outcome} where
      no-unit-end : Moved left call (place c v fw bw a h) → Moved left call (place c v fw bw a (h ++ []))
      no-unit-end m = rw (append-nil h) m

      no-active-end : Moved left call (place c v fw bw a h) → Moved left call (place c v fw bw (a ++ []) h)
      no-active-end m = rw (append-nil a) m

      no_end : Moved left call (place c v fw bw a h) → Moved left call (place c v fw bw (a ++ []) (h ++ []))
      no_end m = rw (append-nil a, append-nil h) m

    pub stage-step : {left : List Call} {p : Place} → Stage s u limit Free left p → (call : Call) → Proper limit (bench p) call → Permitted (bench p) call
        → Moved left call (seen limit (step (bench p) call) (p.active_has ++ active_now limit (bench p) call) (p.unit_has ++ unit_now limit (bench p) call))
    stage-step (before st) (at near (send m)) i q = no_end (near-send (before st) (near-shut st) m)
    stage-step (before st) (at near take) i q = no_end (near-take (before st) (near-shut st))
    stage-step (before st) (at near (time n)) i q = no_end (near-time st n i.1)
    stage-step (before st) (at near due) i q = no_end (near-due st)
    stage-step (before st) (at near (arrive goes)) i q = no-unit-end (near-arrive st)
    stage-step (before st) (at near (arrive stays)) i q = absurd i.0
    stage-step (before st) (at near (arrive lost)) i q = absurd i.0
    stage-step (before st) (at far (send m)) i q = no_end (far-send (before st) (far-shut st) m)
    stage-step (before st) (at far take) i q = no_end (far-take (before st) (far-shut st))
    stage-step (before st) (at far (time n)) i q = no_end (far-time (before st) (far-shut st) n)
    stage-step (before st) (at far due) i q = no-active-end (far-due st)
    stage-step (before st) (at far (arrive goes)) i q = no_end (far-arrive st)
    stage-step (before st) (at far (arrive stays)) i q = absurd i
    stage-step (before st) (at far (arrive lost)) i q = absurd i
    stage-step (a1-out o w l t f) (at near (send m)) i q = near-send (a1-out o w l t f) refl m
    stage-step (a1-out o w l t f) (at near take) i q = near-take (a1-out o w l t f) refl
    stage-step (a1-out o w l t f) (at near (time n)) i q = near-waits (for-a1 s u.settings.receive) w n (i.1 l) (λ w l. a1-out o w l t f)
    stage-step (a1-out o w l t f) (at near due) i q = near-idle (a1-out o w l t f) refl (awaiting-due (for-a1 s u.settings.receive) w (lent forth))
    stage-step (a1-out o w l t {v} {behind} f) (at near (arrive goes)) i q = a1-opens w t v behind o l f
    stage-step (a1-out o w l t f) (at near (arrive stays)) i q = absurd i.0
    stage-step (a1-out o w l t f) (at near (arrive lost)) i q = absurd i.0
    stage-step (a1-out o w l t {v} {behind} f) (at far (send m)) i q = free-send w t v behind o l f m q
    stage-step (a1-out o w l t {v} {behind} f) (at far take) i q = free-take w t v behind o l f
    stage-step (a1-out o w l t {v} {behind} f) (at far (time n)) i q = free-time w t v behind o l f n
    stage-step (a1-out o w l t {v} {behind} f) (at far due) i q = free-due w t v behind o l f q
    stage-step (a1-out o w l t f) (at far (arrive goes)) i q = kept refl (a1-out o w l t f)
    stage-step (a1-out o w l t f) (at far (arrive stays)) i q = absurd i
    stage-step (a1-out o w l t f) (at far (arrive lost)) i q = absurd i
    stage-step {p = p} (later o l) call i q =
        rw (later-active limit s u (bench p) l call, later-unit limit s u (bench p) l call) (kept (and-off' (is_turn call) false refl) (later o (later-step limit s u (bench p) l call)))
