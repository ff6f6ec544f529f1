-- 02, request 5: after every list of calls the two openings have ended with nothing or with what is wanted.
use Rattle.std.specs.Prelude.{if◌then◌else◌}
use Prim.Native.Nat.{ℕ, min}
use native.Mathlib.Omega.{arith}
use mathlib.Core.Bool.{true, false}
use mathlib.Core.List.{List, [], ◌∷◌, ◌++◌, cons≢nil}
use mathlib.Core.Logic.{◌⊎◌, inl, inr, ◌≢◌}
use mathlib.Core.Path.{◌≡◌, refl, ◌∙◌}
use lib.ListN.{length}
use lib.Dec.{eqb}
use borrow.Author.Tests.{ne_eqb, eqb-false}
use Rattle.laws.proofs.Cases.{by}
use Rattle.std.specs.Option.{is_some}
use Rattle.open_end.specs.OpenEnd.{given_frame}
use Rattle.telegram.specs.Outgoing.{bytes_of}
use Rattle.opening.specs.Opening.{request_id, refusal}
use Rattle.opening.proofs.Rules.{refusal-exactly}
use Rattle.settings.specs.declared.Settings.{Settings}
use Rattle.profile.specs.Profile.{tp20}
use Rattle.settings.proofs.Rules.{allowed-exactly}
use Rattle.connection.specs.declared.Connection.{Connection}
use Rattle.connection.specs.Record.{requesting}
use Rattle.connection.specs.Calls.{due_of, request_due}
use Rattle.unit.specs.declared.ControlUnit.{ControlUnit}
use Rattle.unit.specs.Calls.{due_of as unit_due}
use Rattle.unit.proofs.Rules.{AReply, settable-exactly}
use Rattle.delivery.specs.Laws.{Carried}
use Rattle.delivery.specs.System.{Try, Flying, Act, Call, lent, step, run}
use Rattle.delivery.specs.System.Side.{near, far}
use Rattle.delivery.specs.System.Call.{at}
use Rattle.delivery.specs.Claim.{Along}
use Rattle.delivery.proofs.Directions.{Fits, fits_more}
use Rattle.connection_delivery.proofs.Around.{open'}
use Rattle.unit_delivery.specs.Ends.{unit_end}
use Rattle.unit_delivery.proofs.Lawful.{unit_lawful}
use Rattle.unit_opening.specs.Opening.{Outcome, opened, wanted, turns, Bench, Begins, Proper, OpeningAgrees}
use Rattle.unit_opening.proofs.Asking.{opening-good}
use Rattle.unit_opening.proofs.Terms.{send-terms, take-terms, time-terms, due-terms}
use Rattle.unit_opening.proofs.Stages.{Place, place, opens, positive, negative, c0-due, c0-out, refusal-due, refusal-out, both-refused, d0-due, d0-out, a0-due, a0-out, a1-due, Acting, Stage, before, a1-out, later}
use Rattle.unit_opening.proofs.Steps.{Ready, Freedom, seen}
use Rattle.unit_opening.proofs.Runs.{all, Turns, Reached, Called, stage-run, turns-run}

-- ---- how it begins

-- a reply that the unit takes, other than D0, is a refusal
reply-refuses : (r : ℕ) → AReply r → eqb r 0xD0 ≡ false → refusal r ≡ true
reply-refuses r (inl e) n = absurd (eqb-false r 0xD0 n e)
reply-refuses r (inr h) n = (refusal-exactly r).1 h

module _ (limit : ℕ) {c : Connection} {s : Settings} {u : ControlUnit} {b : Bench limit} (begins : Begins limit c s u b) where
  pub ready : Ready s u
  ready =
      let set = (settable-exactly u.settings u.reply).0 begins.set in
      record { allowed' = (opening-good c s begins.answered).0; closed = begins.closed; set = (allowed-exactly tp20 u.settings).1 set.0; other = set.1; one = begins.one }

  -- the C0 is due, and all turns are left
  begun : (Free : ControlUnit → (behind : List Flying) → Type 0) → Stage s u limit Free (turns u.reply) (seen limit b [] [])
  begun Free =
      rw (begins.active, (opening-good c s begins.answered).1, begins.unit, begins.forward, begins.backward)
      (by (λ (left : List Call). Stage s u limit Free left (place (requesting s) u [] [] [] [])) (eqb u.reply 0xD0)
      (λ e. before (c0-due (positive e)))
      (λ e. before (c0-due (negative (record { other = e; refuses = reply-refuses u.reply ((settable-exactly u.settings u.reply).0 begins.set).2 e })))))

  -- so it is whatever is permitted to the unit
  pub started : {Free : ControlUnit → (behind : List Flying) → Type 0} {Permit : ControlUnit → Act → Type 0} (freedom : Freedom limit s u Free Permit)
      → Reached limit s u ready freedom (turns u.reply) b [] []
  started {Free} freedom = record { left = turns u.reply; behind = all; stage = begun Free }

-- ---- what the stages say

module _ (s : Settings) (u : ControlUnit) where
  abbrev block : ℕ
  block = min s.block u.settings.block

  abbrev active_wanted : Outcome
  active_wanted = wanted u.reply block s.receive u.settings.receive

  abbrev unit_wanted : Outcome
  unit_wanted = wanted u.reply block u.settings.receive s.receive

  -- a frame is due or under way, whatever is lent
  abbrev MovingAt : Place → Type 0
  MovingAt p = (m n : List ℕ) → (is_some (due_of p.active m).frame ≡ true) ⊎ ((is_some (unit_due p.unit n).frame ≡ true) ⊎ ((p.forward ≢ []) ⊎ (p.backward ≢ [])))

  -- with no turn left both have ended
  abbrev Ends : (left : List Call) → Place → Type 0
  Ends [] p = (p.active_has ≡ active_wanted ∷ []) × (p.unit_has ≡ unit_wanted ∷ [])
  Ends (c ∷ cs) p = Unit {0}

  record Tells (left : List Call) (p : Place) : Type 0 where
    active : (p.active_has ≡ []) ⊎ (p.active_has ≡ active_wanted ∷ [])
    unit : (p.unit_has ≡ []) ⊎ (p.unit_has ≡ unit_wanted ∷ [])
    follows : p.unit_has ≡ [] → p.active_has ≡ []
    moves : p.active_has ≡ [] → MovingAt p
    ends : Ends left p

  module _ {c : Connection} {v : ControlUnit} {fw bw : List Flying} where
    none-ended : (turn : Call) {left : List Call} → MovingAt (place c v fw bw [] []) → Tells (turn ∷ left) (place c v fw bw [] [])
    none-ended turn m = record { active = inl refl; unit = inl refl; follows = λ e. refl; moves = λ e. m; ends = tt }

    unit-ended : (turn : Call) {left : List Call} {h : Outcome} → MovingAt (place c v fw bw [] (h ∷ [])) → h ≡ unit_wanted → Tells (turn ∷ left) (place c v fw bw [] (h ∷ []))
    unit-ended turn m e = record { active = inl refl; unit = inr (rw e); follows = λ e. refl; moves = λ e. m; ends = tt }

    both-ended : {a h : Outcome} → a ≡ active_wanted → h ≡ unit_wanted → Tells [] (place c v fw bw (a ∷ []) (h ∷ []))
    both-ended e f =
        record { active = inr (rw e); unit = inr (rw f); follows = λ n. absurd (cons≢nil n); moves = λ n. absurd (cons≢nil n); ends = (rw e, rw f) }

  -- the smaller block size is one number
  unit-opened : eqb u.reply 0xD0 ≡ true → opened (min u.settings.block s.block) u.settings.receive s.receive ≡ unit_wanted
  unit-opened e = let same : min u.settings.block s.block ≡ block = omega arith in rw (e, same)

  stage-tells : {limit : ℕ} {Free : ControlUnit → (behind : List Flying) → Type 0} {left : List Call} {p : Place} → Stage s u limit Free left p → Tells left p
  unfolding due_of request_due unit_due
  stage-tells (before (c0-due o)) = none-ended _ (λ m n. inl refl)
  stage-tells (before (c0-out o w l t)) = none-ended _ (λ m n. inr (inr (inl cons≢nil)))
  stage-tells (before (refusal-due o w l)) = none-ended _ (λ m n. inr (inl refl))
  stage-tells (before (refusal-out o w l t)) = unit-ended _ (λ m n. inr (inr (inr cons≢nil))) (rw o.other)
  stage-tells (before (both-refused o)) = both-ended (rw o.other) (rw o.other)
  stage-tells (before (d0-due o w l)) = none-ended _ (λ m n. inr (inl refl))
  stage-tells (before (d0-out o w l t)) = none-ended _ (λ m n. inr (inr (inr cons≢nil)))
  stage-tells (before (a0-due o)) = none-ended _ (λ m n. inl refl)
  stage-tells (before (a0-out o w l t)) = none-ended _ (λ m n. inr (inr (inl cons≢nil)))
  stage-tells (before (a1-due o w l)) = none-ended _ (λ m n. inr (inl refl))
  stage-tells (a1-out o w l t f) = unit-ended _ (λ m n. inr (inr (inr cons≢nil))) (unit-opened o)
  stage-tells (later o l) = both-ended (rw o) (unit-opened o)

  -- the turns are turns
  turns-turn : Turns (turns u.reply)
  turns-turn = by Turns (eqb u.reply 0xD0) (λ e. (refl, (refl, (refl, (refl, (refl, (refl, (refl, (refl, tt))))))))) (λ e. (refl, (refl, (refl, (refl, tt)))))

-- ---- a unit that does what it likes while the A1 is under way

module _ (limit : ℕ) (s : Settings) (u : ControlUnit) (ready : Ready s u) where
  -- the A1 opens it
  opens-live : (unit_end limit).open' (opens s u) ≡ true
  opens-live = rw (ne_eqb u.settings.receive request_id ready.other)

  -- what it hands over goes behind the A1
  acting-hands : {v : ControlUnit} {behind : List Flying} → Acting s u limit v behind → (m : List ℕ) (t : Try) → (let d = unit_due v m in
      Acting s u limit d.left (if is_some d.frame then behind ++ (record { id = (given_frame d.frame).id; bytes = bytes_of (given_frame d.frame).payload; try = t } ∷ []) else behind))
  acting-hands {v} {behind} f m t =
      let r = (unit_lawful limit).hands f.tied m in
      record {
        line = _;
        tied = r.tied;
        terms = due-terms f.line m ∙ f.terms;
        fits = by (Fits Carried s.receive) (is_some (unit_due v m).frame) (λ e. fits_more Carried s.receive behind _ f.fits (r.id e) (r.kind e)) (λ e. f.fits);
      }

  pub free : Freedom limit s u (Acting s u limit) (λ v a. Unit {0})
  free =
      record {
        begins = record { line = _; tied = open' (opens s u) opens-live tt; terms = refl; fits = tt };
        sends = λ f m p. record { line = _; tied = ((unit_lawful limit).sends f.tied (length m)).tied; terms = send-terms f.line limit (length m) ∙ f.terms; fits = f.fits };
        takes = λ f room. record { line = _; tied = ((unit_lawful limit).takes f.tied room).tied; terms = take-terms f.line room ∙ f.terms; fits = f.fits };
        times = λ f n. record { line = _; tied = ((unit_lawful limit).times f.tied n).tied; terms = time-terms f.line n ∙ f.terms; fits = f.fits };
        hands = λ f m p t. acting-hands f m t;
        ties = λ f. f;
      }

  -- every call is permitted
  pub any-calls : (cs : List Call) (b : Bench limit) → Along (Proper limit) b cs → Along (Called limit s u ready free) b cs
  any-calls [] b p = tt
  any-calls (at near a ∷ cs) b p = ((p.0, tt), any-calls cs (step b (at near a)) p.1)
  any-calls (at far a ∷ cs) b p = ((p.0, tt), any-calls cs (step b (at far a)) p.1)

-- ---- the claim

pub opening-agrees : (limit : ℕ) → OpeningAgrees limit
opening-agrees limit c s u b begins cs proper =
    let r = ready limit begins in
    let f = free limit s u r in
    let start = started limit begins f in
    let calls = any-calls limit s u r cs b proper in
    let told = stage-tells s u (stage-run limit s u r f cs b start calls).stage in
    record {
      active = told.active;
      unit = told.unit;
      follows = told.follows;
      moves = λ e. told.moves e (lent (run b cs).forth) (lent (run b cs).back);
      ends = λ turns. (stage-tells s u (turns-run limit s u r f turns (turns-turn s u) b start calls)).ends;
    }
