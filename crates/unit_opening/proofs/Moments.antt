-- 02, request 5: at every moment of a run at which both ends are fresh and both links empty they are a fresh pair.
use Prim.Native.Nat.{ℕ}
use native.Mathlib.Omega.{arith}
use mathlib.Core.Bool.{true, false≢true}
use Rattle.laws.proofs.Cases.{both}
use Rattle.connection.specs.Record.{is_open}
use mathlib.Core.List.{List, []}
use mathlib.Core.Path.{◌≡◌, refl, sym, ap, ◌∙◌}
use Rattle.settings.specs.declared.Settings.{Settings}
use Rattle.sender.specs.declared.Terms.{Terms}
use Rattle.channel.specs.declared.Channel.{Channel}
use Rattle.unit.specs.declared.ControlUnit.{ControlUnit}
use Rattle.delivery.specs.End.{End}
use Rattle.delivery.specs.Line.{Line}
use Rattle.delivery.specs.System.{History, Call, run}
use Rattle.delivery.specs.Claim.{FreshEnd, Fresh}
use Rattle.profile.specs.Profile.{tp20}
use Rattle.connection_delivery.proofs.Opened.{allowed-parts}
use Rattle.connection_delivery.proofs.Around.{Tied, open', closed}
use Rattle.unit_opening.specs.Opening.{Bench, anew, OpeningMoments}
use Rattle.unit_opening.proofs.Stages.{Place, Acting, Stage, before, a1-out, later}
use Rattle.unit_opening.proofs.Steps.{Ready, bench, near-shut}
use Rattle.unit_opening.proofs.Runs.{stage-run}
use Rattle.unit_opening.proofs.Agrees.{ready, started, free, any-calls}

-- the block size of a channel
abbrev block_of : Channel → ℕ
block_of c = c.parameters.terms.block

-- an end that is open has the IDs and the channel that it is tied to
record OpenAs (E : End) (r t : ℕ) (x : E.State) (l : Line) : Type 0 where
  receives : E.receives x ≡ r
  transmits : E.transmits x ≡ t
  channel : E.channel x ≡ l.channel

open-as : {Kept : Channel → Type 0} {E : End} {r t : ℕ} {x : E.State} {l : Line} → Tied Kept E r t x l → E.open' x ≡ true → OpenAs E r t x l
open-as (open' x o k) e = record { receives = refl; transmits = refl; channel = refl }
open-as (closed f) e = absurd (false≢true (sym f.shut ∙ e))

module _ (limit : ℕ) (s : Settings) (u : ControlUnit) (r : Ready s u) (near_buffer far_buffer : List ℕ) (forth back : History) where
  abbrev at_place : Place → Bench limit
  at_place = bench limit s u r (free limit s u r) near_buffer far_buffer forth back

  -- the active end is open in the last stage alone; there the IDs and terms are those of the two channels
  fresh_at : {left : List Call} {p : Place} → Stage s u limit (Acting s u limit) left p → FreshEnd (at_place p).near → FreshEnd (at_place p).far
      → p.forward ≡ [] → p.backward ≡ [] → Fresh (anew limit (at_place p))
  fresh_at {p = p} (before st) near far fw bw =
      absurd (false≢true (sym (near-shut limit s u r (free limit s u r) near_buffer far_buffer forth back st) ∙ (both (is_open p.active) _ near.open').0))
  fresh_at (a1-out o w l t f) near far fw bw = absurd (false≢true near.open')
  fresh_at (later o l) near far fw bw =
      let n = open-as l.near_tied near.open' in
      let f = open-as l.far_tied far.open' in
      let near_block = ap block_of n.channel ∙ ap (λ (x : Terms). x.block) l.near_terms in
      let far_block = ap block_of f.channel ∙ ap (λ (x : Terms). x.block) l.far_terms in
      let p = allowed-parts tp20 s r.allowed' in
      let q = allowed-parts tp20 u.settings r.set in
      record {
        near = near;
        far = far;
        to-far = n.transmits ∙ sym f.receives;
        to-near = f.transmits ∙ sym n.receives;
        agreed = omega arith;
        least = omega (arith, p.least, q.least);
        most = omega (arith, p.most);
        forward = fw;
        backward = bw;
        forth = refl;
        back = refl;
      }

pub opening-moments : (limit : ℕ) → OpeningMoments limit
opening-moments limit c s u b begins cs proper =
    let r = ready limit begins in
    let f = free limit s u r in
    let y = run b cs in
    fresh_at limit s u r y.near.buffer y.far.buffer y.forth y.back (stage-run limit s u r f cs b (started limit begins f) (any-calls limit s u r cs b proper)).stage
