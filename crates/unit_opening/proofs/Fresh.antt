-- 02, request 5: a unit that sends nothing before the A1 has arrived is fresh then, as the active end is, and both links are empty.
use Rattle.std.specs.Prelude.{if◌then◌else◌}
use Prim.Native.Nat.{ℕ, ◌-◌}
use native.Mathlib.Nat.{zero-sub}
use native.Mathlib.Omega.{arith}
use mathlib.Core.Bool.{Bool, true, false, false≢true}
use mathlib.Core.List.{List, [], ◌∷◌, ◌++◌}
use mathlib.Core.Logic.{◌≢◌}
use mathlib.Core.Path.{◌≡◌, refl, sym, ap, ◌∙◌}
use lib.ListN.{length}
use lib.Dec.{ltb, eqb}
use borrow.Author.Tests.{ne_eqb}
use Rattle.laws.proofs.Cases.{by}
use Rattle.std.specs.Option.{is_some}
use Rattle.open_end.specs.OpenEnd.{given_frame, course_of, sent_at, taken_at, elapsed_at, frame_on, due_at, with_channel}
use Rattle.telegram.specs.Outgoing.{bytes_of}
use Rattle.opening.specs.Opening.{request_id}
use Rattle.settings.specs.Agreed.{own_fields, agreed}
use Rattle.settings.specs.declared.Settings.{Settings}
use Rattle.sender.specs.Sending.{offered, passed, handed, frame_due}
use Rattle.sender.specs.declared.Offered.{Offered}
use Rattle.receiver.specs.Receiving.{took}
use Rattle.channel.specs.Numbers.{said}
use Rattle.channel.specs.Opened.{fresh, with_tests, with_sender, none_out, offer_answer, sent, wait_ends, elapsed as channel_elapsed, hand_data, due as channel_due}
use Rattle.unit.specs.declared.ControlUnit.{ControlUnit}
use Rattle.unit.specs.Record.{phase_open, with_open_end}
use Rattle.unit.specs.Calls.{settled, open_sent, sent_by, open_taken, taken_by, open_elapsed, elapsed, open_due, due_of}
use Rattle.delivery.specs.System.{Try, Flying, History, Call, step, run, arriving, meeting}
use Rattle.delivery.specs.System.Side.{near, far}
use Rattle.delivery.specs.System.Fate.{goes}
use Rattle.delivery.specs.System.Act.{send, due, arrive}
use Rattle.delivery.specs.System.Call.{at}
use Rattle.delivery.specs.Claim.{Along, Fresh}
use Rattle.profile.specs.Profile.{tp20}
use Rattle.connection_delivery.proofs.Opened.{allowed-parts, a1-arrives}
use Rattle.connection_delivery.proofs.Around.{open'}
use Rattle.unit_delivery.specs.Ends.{unit_end}
use Rattle.unit_opening.specs.Opening.{Outcome, opened, refused, arrival_ends, Silent, Bench, Proper, SilentAt, anew, OpeningFresh}
use Rattle.unit_opening.proofs.Stages.{Place, Before, c0-due, c0-out, refusal-due, refusal-out, both-refused, d0-due, d0-out, a0-due, a0-out, a1-due, Acting, Stage, before, a1-out, later}
use Rattle.unit_opening.proofs.Steps.{Ready, Freedom, d0-met, refusal-met, bench}
use Rattle.unit_opening.proofs.Later.{later-active}
use Rattle.unit_opening.proofs.Runs.{Called, stage-run}
use Rattle.unit_opening.proofs.Agrees.{ready, started}

module _ (s : Settings) (u : ControlUnit) where
  -- as the A1 left it, but for the interval
  abbrev calm_at : (interval : ℕ) → ControlUnit
  calm_at k =
      record {
        phase = phase_open;
        reply = u.reply;
        settings = u.settings;
        end = record { transmit = s.receive; receive = u.settings.receive; channel = with_tests (fresh (agreed u.settings (own_fields s))) (none_out k) };
      }

  -- and nothing is behind the A1
  data Calm : ControlUnit → List Flying → Type 0 where
    calm : (k : ℕ) → Calm (calm_at k) []

module _ (limit : ℕ) (s : Settings) (u : ControlUnit) where
  calm-sends : {v : ControlUnit} {behind : List Flying} → Calm s u v behind → (m : List ℕ) → Silent limit v (send m) → Calm s u (sent_by limit v (length m)).left behind
  unfolding sent_by open_sent sent_at sent offered
  calm-sends (calm k) m =
      by Keeps (eqb (length m) 0) (λ e p. calm k) (λ e. by Keeps (ltb limit (length m)) (λ e p. calm k) (λ e p. absurd (p refl)))
    where
      Keeps : Offered → Type 0
      Keeps o =
          ((said (offer_answer o.note)).number ≢ 0)
          → Calm s u (with_open_end (calm_at s u k) (with_channel (calm_at s u k).end (with_sender (calm_at s u k).end.channel o.sender))) []

  calm-takes : {v : ControlUnit} {behind : List Flying} → Calm s u v behind → (room : ℕ) → Calm s u (taken_by v room).left behind
  unfolding taken_by open_taken taken_at took
  calm-takes (calm k) room = calm k

  calm-times : {v : ControlUnit} {behind : List Flying} → Calm s u v behind → (n : ℕ) → Calm s u (elapsed v n).left behind
  unfolding elapsed open_elapsed elapsed_at channel_elapsed passed wait_ends course_of settled
  calm-times (calm k) n = rw (zero-sub n) (calm (k - n))

  calm-hands : {v : ControlUnit} {behind : List Flying} → Calm s u v behind → (m : List ℕ) → Silent limit v due → (t : Try) → (let d = due_of v m in
      Calm s u d.left (if is_some d.frame then behind ++ (record { id = (given_frame d.frame).id; bytes = bytes_of (given_frame d.frame).payload; try = t } ∷ []) else behind))
  unfolding due_of open_due due_at frame_on channel_due hand_data handed frame_due
  calm-hands (calm k) m permit t = rw (permit refl) (calm k)

  module _ (ready : Ready s u) where
    calm-live : (k : ℕ) → (unit_end limit).open' (calm_at s u k) ≡ true
    calm-live k = rw (ne_eqb u.settings.receive request_id ready.other)

    silent : Freedom limit s u (Calm s u) (Silent limit)
    silent =
        record {
          begins = calm u.settings.t_ct;
          sends = calm-sends;
          takes = calm-takes;
          times = calm-times;
          hands = calm-hands;
          ties = ties;
        }
      where
        ties : {v : ControlUnit} {behind : List Flying} → Calm s u v behind → Acting s u limit v behind
        ties (calm k) = record { line = _; tied = open' (calm_at s u k) (calm-live k) tt; terms = refl; fits = tt }

-- ---- the moment

-- an opening ended with an open end
abbrev is_opened : List Outcome → Bool
is_opened [] = false
is_opened (opened block receive transmit ∷ os) = true
is_opened (refused opcode ∷ os) = false

module _ (limit : ℕ) (s : Settings) (u : ControlUnit) (ready : Ready s u) where
  -- before the A1 is out nothing opens the active end
  not_yet : {left : List Call} {p : Place} → Before s u left p → (room : ℕ) → is_opened (arrival_ends limit p.active p.backward room) ≡ false
  not_yet (c0-due o) room = refl
  not_yet (c0-out o w l t) room = refl
  not_yet (refusal-due o w l) room = refl
  not_yet (refusal-out o w l t) room = rw (refusal-met limit s u ready w room o)
  not_yet (both-refused o) room = refl
  not_yet (d0-due o w l) room = refl
  not_yet (d0-out o w l t) room = rw (d0-met limit s u ready w room)
  not_yet (a0-due o) room = refl
  not_yet (a0-out o w l t) room = refl
  not_yet (a1-due o w l) room = refl

  module _ (near_buffer far_buffer : List ℕ) (forth back : History) where
    abbrev at_place : Place → Bench limit
    at_place = bench limit s u ready (silent limit s u ready) near_buffer far_buffer forth back

    -- the A1 that opens it finds the unit as its hand-over left it
    fresh-now : {left : List Call} {p : Place} → Stage s u limit (Calm s u) left p → is_opened (arrival_ends limit p.active p.backward (length near_buffer)) ≡ true
        → Fresh (anew limit (meeting goes p.backward (at_place p)))
    unfolding arriving
    fresh-now (before st) e = absurd (false≢true (sym (not_yet st (length near_buffer)) ∙ e))
    fresh-now (a1-out o w l t (calm k)) e =
        let p = allowed-parts tp20 s ready.allowed' in
        let q = allowed-parts tp20 u.settings ready.set in
        rw (a1-arrives limit tp20 s u.settings.receive (own_fields u.settings) q.least q.most w (length near_buffer))
        (record {
          near = record { open' = refl; sender = refl; receiver = refl; tests = refl; accept = refl; t1 = p.t1; t_wait = p.t_wait };
          far = record { open' = calm-live limit s u ready k; sender = refl; receiver = refl; tests = refl; accept = refl; t1 = q.t1; t_wait = q.t_wait };
          to-far = refl;
          to-near = refl;
          agreed = omega arith;
          least = omega (arith, p.least, q.least);
          most = omega (arith, p.most);
          forward = refl;
          backward = refl;
          forth = refl;
          back = refl;
        })
    fresh-now {p = p} (later o l) e = absurd (false≢true (sym (ap is_opened (later-active limit s u (at_place p) l (at near (arrive goes)))) ∙ e))

  -- a call that is proper, and silent at the unit
  silent-call : (b : Bench limit) (c : Call) → Proper limit b c → SilentAt limit b c → Called limit s u ready (silent limit s u ready) b c
  silent-call b (at near a) p q = (p, tt)
  silent-call b (at far a) p q = (p, q)

-- what two things that hold along a list make of each call
module _ (limit : ℕ) (P Q R : Bench limit → Call → Type 0) (make : (b : Bench limit) (c : Call) → P b c → Q b c → R b c) where
  along-both : (cs : List Call) (b : Bench limit) → Along P b cs → Along Q b cs → Along R b cs
  along-both [] b p q = tt
  along-both (c ∷ cs) b p q = (make b c p.0 q.0, along-both cs (step b c) p.1 q.1)

pub opening-fresh : (limit : ℕ) → OpeningFresh limit
opening-fresh limit c s u b begins cs proper quiet block receive transmit e =
    let r = ready limit begins in
    let f = silent limit s u r in
    let calls = along-both limit (Proper limit) (SilentAt limit) (Called limit s u r f) (silent-call limit s u r) cs b proper quiet in
    let y = run b cs in
    fresh-now limit s u r y.near.buffer y.far.buffer y.forth y.back (stage-run limit s u r f cs b (started limit begins f) calls).stage (ap is_opened e)
