-- 02, 14, for any two lawful ends: after every list of calls, for each direction.
use Prim.Native.Nat.{ℕ, zero, suc, ◌+◌, ◌≤◌, ◌<◌}
use native.Mathlib.Omega.{arith}
use mathlib.Core.Bool.{Bool, true, false, not, false≢true}
use mathlib.Core.List.{List, [], ◌∷◌, ◌++◌, append-nil, map}
use mathlib.Core.Logic.{◌⊎◌, inl, inr}
use mathlib.Core.Path.{◌≡◌, refl, sym, ap, subst, ◌∙◌}
use lib.ListN.{length, get_or, take, length-append}
use borrow.Author.Tests.{ltb-true, lt-ltb}
use Rattle.laws.proofs.Cases.{either}
use Rattle.receiver.specs.Receiving.{waiting}
use Rattle.delivery.specs.End.{End}
use Rattle.delivery.specs.Line.{Line}
use Rattle.delivery.specs.System.{ShownMessage, plain, System, Call, turned, shown_at, taking, step, run}
use Rattle.delivery.specs.System.Side.{near, far}
use Rattle.delivery.specs.System.Act.{take as takes}
use Rattle.delivery.specs.System.Call.{at}
use Rattle.delivery.specs.Claim.{Within, Roomy, Fresh, WholeOrNone}
use Rattle.delivery.specs.BothWays.{OneWay, BothWaysHolds}
use Rattle.delivery.specs.Laws.{TwoEnds}
use Rattle.delivery.proofs.Core.{Direction}
use Rattle.delivery.proofs.ReceivingKeeps.{one_more}
use Rattle.delivery.proofs.Delivers.{Ready, Delivers, delivers}
use Rattle.delivery.proofs.Directions.{held_in}
use Rattle.delivery.proofs.Completes.{shown_in, shown-held}
use Rattle.delivery.proofs.Arrivals.{shown-line}
use Rattle.delivery.proofs.Runs.{SystemOf, forth_of, Good, run-moves, run-good, waits-fit}
use Rattle.delivery.proofs.Beginning.{turned-fresh, fresh-good, line_of}

module _ (two : TwoEnds) (r t : ℕ)
    (room : ℕ) (n f : Line) (s : SystemOf two) (g : Good two r t room n f s) (roomy : Within room s.forth.accepted) where
  -- what the core says of the direction
  abbrev promised : Delivers two.limit (forth_of n f s)
  promised = delivers two.limit room two.small (forth_of n f s) g.kept roomy

  -- while the far end is open, a take hands out what waits
  pub take-hands : two.far.open' s.far.state ≡ true → (step s (at far takes)).forth.handed_out ≡ s.forth.handed_out ++ held_in f.channel.receiver s.far.buffer
  unfolding taking
  take-hands o = ap (λ (l : List ShownMessage). s.forth.handed_out ++ l) (shows f.live g.seen.far' (sym (two.far_laws.opens g.seen.far') ∙ o))
    where
      fits : shown_in f.channel.receiver s.far.buffer ≡ held_in f.channel.receiver s.far.buffer
      fits = shown-held f.channel.receiver s.far.buffer (waits-fit two r t room n f s g.kept roomy)

      shows : (live : Bool) → two.FarTied t r s.far.state (record { channel = f.channel; live = live }) → live ≡ true
          → shown_at s.far ≡ held_in f.channel.receiver s.far.buffer
      shows true tied e = shown-line f.channel true s.far.buffer (two.far.take s.far.state (length s.far.buffer)) (two.far_laws.takes tied (length s.far.buffer)) ∙ fits
      shows false tied e = absurd (false≢true e)

  -- a message given up
  pub whole-or-none : s.forth.eight ≡ true → length s.forth.accepted ≡ s.forth.done + 1 → (cs : List Call) → WholeOrNone s cs
  whole-or-none e one cs =
      let a = run-moves two r t cs n f s g.seen in
      subst (λ (x : Direction). (length x.history.handed_out ≤ s.forth.done) ⊎ (x.history.handed_out ≡ map plain s.forth.accepted))
      (sym a.forth) (promised.whole_or_never (promised.closed ∙ ap not e) one a.moves)

  -- one message waits
  one-waits : waiting f.channel.receiver ≡ true → (s.forth.complete ≡ map plain (take (length s.forth.handed_out + 1) s.forth.accepted)) × (length s.forth.complete ≡ length s.forth.handed_out + 1)
  one-waits w =
      let x = promised.waits (ltb-true 0 f.channel.receiver.complete.length w) in
      let c = rw w at g.counts in
      let out = s.forth.handed_out in
      let all = s.forth.accepted in
      let last = ap (λ (m : ShownMessage). out ++ (m ∷ [])) x.0.front ∙ ap (λ (l : List ShownMessage). l ++ (plain (get_or all (length out) []) ∷ [])) promised.in_order in (
        c ∙ last ∙ one_more all (length out) x.1,
        omega (arith, simp length-append at (ap length c)),
      )

  none-waits : waiting f.channel.receiver ≡ false → s.forth.complete ≡ s.forth.handed_out
  none-waits w = (rw w at g.counts) ∙ append-nil s.forth.handed_out

  -- each message done was complete
  done-complete : (d : ℕ) → s.forth.done ≡ d → d ≤ length s.forth.complete
  done-complete zero e = omega arith
  done-complete (suc d) e = go (promised.done d (omega (arith, e)))
    where
      c : length s.forth.complete ≡ length (s.forth.handed_out ++ held_in f.channel.receiver s.far.buffer)
      c = ap length g.counts

      go : (d < length s.forth.handed_out) ⊎ ((length s.forth.handed_out ≡ d) × Ready (forth_of n f s) (get_or s.forth.accepted d []))
          → suc d ≤ length s.forth.complete
      go (inl h) = omega (arith, simp length-append at c)
      go (inr p) = omega (arith, p.0, (one-waits (lt-ltb 0 f.channel.receiver.complete.length p.1.some)).1)

  pub one-way-holds : OneWay s
  one-way-holds =
      record {
        in_order = promised.in_order;
        complete = either (waiting f.channel.receiver) (λ w. let o = one-waits w in o.0 ∙ ap (λ (i : ℕ). map plain (take i s.forth.accepted)) (sym o.1)) (λ w. rw (none-waits w) promised.in_order);
        next = either (waiting f.channel.receiver) (λ w. inr (record { one = (one-waits w).1; shows = λ o. take-hands o ∙ sym g.counts })) (λ w. inl (none-waits w));
        done = done-complete s.forth.done refl;
        last = promised.last;
        given_up = whole-or-none;
        closed = two.near_laws.opens g.seen.near' ∙ promised.closed;
      }

-- ---- any two lawful ends

one_way : (two : TwoEnds) (s : SystemOf two) → Fresh s → (cs : List Call) → Roomy s (run s cs) → OneWay (run s cs)
one_way two s f cs roomy =
    let room = length s.far.buffer in
    let r = two.near.receives s.near.state in
    let t = two.near.transmits s.near.state in
    let g = run-good two r t room cs (line_of s.near) (line_of s.far) s (fresh-good two s f) roomy in
    one-way-holds two r t room _ _ (run s cs) g roomy

-- the same two ends, and a list of calls, seen from the other side
abbrev swapped : TwoEnds → TwoEnds
swapped two =
    record {
      limit = two.limit;
      small = two.small;
      carried = two.carried;
      near = two.far;
      far = two.near;
      NearTied = two.FarTied;
      FarTied = two.NearTied;
      near_laws = two.far_laws;
      far_laws = two.near_laws;
    }

abbrev from-there : List Call → List Call
from-there [] = []
from-there (at near a ∷ cs) = at far a ∷ from-there cs
from-there (at far a ∷ cs) = at near a ∷ from-there cs

run-turned : {N F : End} (cs : List Call) (s : System N F) → run (turned s) (from-there cs) ≡ turned (run s cs)
run-turned [] s = refl
run-turned (at near a ∷ cs) s = run-turned cs (step s (at near a))
run-turned (at far a ∷ cs) s = run-turned cs (step s (at far a))

pub both_ways : (two : TwoEnds) → BothWaysHolds two.near two.far
both_ways two s f cs =
    record {
      forth = one_way two s f cs;
      back = λ roomy.
          subst OneWay (run-turned cs s)
          (one_way (swapped two) (turned s) (turned-fresh s f) (from-there cs) (subst (Roomy (turned s)) (sym (run-turned cs s)) roomy));
    }
