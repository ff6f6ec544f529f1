-- Demand 3, the first half, for any two lawful ends: what is handed out is what was accepted, after every list of calls in which the near end alone sends and no test falls due.
use Prim.Native.Nat.{ℕ, ◌+◌, ◌<◌}
use native.Mathlib.Omega.{arith}
use mathlib.Core.Bool.{Bool, true, false, false≢true}
use mathlib.Core.List.{List, [], ◌∷◌, ◌++◌, map}
use mathlib.Core.Logic.{◌⊎◌, inl, inr}
use mathlib.Core.Path.{◌≡◌, refl, sym, ap, subst, ◌∙◌}
use lib.ListN.{length, get_or, take}
use lib.Seq.{take-nil}
use borrow.Author.Tests.{lt-ltb}
use Rattle.laws.proofs.Cases.{by}
use Rattle.sender.specs.declared.Sender.{Sender}
use Rattle.sender.specs.declared.Heard.{Heard}
use Rattle.sender.proofs.Time.{passed-used_up, passed-quiet}
use Rattle.sender.proofs.Frames.{handed-idle}
use Rattle.sender.proofs.Acks.{AckCase, no-message, in-hold, repeated, beyond, ack-used-up, held_back, all-acked, part-acked, ack_case, on_ack-used_up}
use Rattle.channel.specs.declared.Tests.{Tests}
use Rattle.channel.specs.Opened.{test_due}
use Rattle.delivery.specs.End.{End}
use Rattle.delivery.specs.Line.{Line}
use Rattle.delivery.specs.System.{Flying, ShownMessage, plain, History, System, Act, Call, Fate, turned, sending, taking, timing, asking, arriving, missing, meeting, act, step, run, lent}
use Rattle.delivery.specs.System.Side.{near, far}
use Rattle.delivery.specs.System.Fate.{goes, stays, lost}
use Rattle.delivery.specs.System.Act.{send, take as takes, time, due, arrive}
use Rattle.delivery.specs.System.Call.{at}
use Rattle.delivery.specs.Claim.{Always, Fresh, SendsNear, NoTest, Within, Roomy, Delivered}
use Rattle.delivery.specs.Laws.{TwoEnds}
use Rattle.delivery.proofs.Core.{AckFrame, Direction, Move, hearing, move}
use Rattle.delivery.proofs.SendingKeeps.{in-sending}
use Rattle.delivery.proofs.Moves.{Unforced, GaveUp}
use Rattle.delivery.proofs.Delivers.{AllUnforced, Ready, Delivers, delivers, moved-gave-up}
use Rattle.delivery.proofs.Directions.{Moves, held_in}
use Rattle.delivery.proofs.Directions.Moves.{nothing, offers, takes_one, passes, hands, acks, data-came, ack-came, repeats-out, acks-out, tests-out}
use Rattle.delivery.proofs.Acts.{act-moves}
use Rattle.delivery.proofs.Runs.{SystemOf, forth_of, Seen, Ran, Good, near-steps, far-steps, step-moves, run-moves, run-good}
use Rattle.delivery.proofs.Beginning.{line_of, fresh-good}
use Rattle.delivery.proofs.BothWays.{take-hands, whole-or-none, both_ways}

-- ---- an end that does not send

abbrev pub NotSend : Act → Type 0
NotSend (send m) = ⊥
NotSend takes = Unit {0}
NotSend (time n) = Unit {0}
NotSend due = Unit {0}
NotSend (arrive fate) = Unit {0}

-- no message in sending, and no Ack awaited
pub record Silent (s : Sender) : Type 0 where
  pub none : s.length ≡ 0
  pub wait' : s.wait ≡ 0

-- it stays so, and open, if no test is out
record StaysOpen (n : Line) (d : Direction) (live : Bool) : Type 0 where
  silent : Silent d.sender
  open' : live ≡ n.live

silent-hears : (d : Direction) → Silent d.sender → (fate : Fate) (l : List AckFrame) → (hearing fate l d).sender ≡ d.sender
silent-hears d s = go
  where
    P : Direction → Type 0
    P x = x.sender ≡ d.sender

    ignores : (ready : Bool) (number : ℕ) {h : Heard} → AckCase d.terms d.sender ready number h → h.sender ≡ d.sender
    ignores ready number (no-message a) = refl
    ignores ready number (in-hold a u) = refl
    ignores ready number (repeated a u w) = refl
    ignores ready number (beyond a u w) = refl
    ignores ready number (ack-used-up a u) = refl
    ignores ready number (held_back a u) = absurd (omega (arith, s.none, a.counts.sending))
    ignores ready number (all-acked a u) = absurd (omega (arith, s.none, a.counts.sending))
    ignores ready number (part-acked a u) = absurd (omega (arith, s.none, a.counts.sending))

    go : (fate : Fate) (l : List AckFrame) → P (hearing fate l d)
    go fate [] = refl
    go goes (f ∷ l) = by P d.live (λ _. ignores f.ready f.number (ack_case d.terms d.sender f.ready f.number)) λ _. refl
    go stays (f ∷ l) = by P d.live (λ _. ignores f.ready f.number (ack_case d.terms d.sender f.ready f.number)) λ _. refl
    go lost (f ∷ l) = refl

-- each of its calls
silent-moves : (limit : ℕ) (d : Direction) (n : Line) (link : List Flying) → n.channel.sender ≡ d.sender → Silent d.sender → n.channel.tests.wait ≡ 0
    → {a : Act} {out incoming : Move} {live : Bool} → NotSend a → Moves n link a out incoming live → StaysOpen n (move limit d out) live
silent-moves limit d n link same s untested q m = go m q
  where
    P : Direction → Type 0
    P x = Silent x.sender

    go : {a : Act} {out incoming : Move} {live : Bool} → Moves n link a out incoming live → NotSend a → StaysOpen n (move limit d out) live
    go nothing q = record { silent = s; open' = refl }
    go offers q = absurd q
    go takes_one q = record { silent = s; open' = refl }
    go (passes {k}) q =
        record {
          silent =
              by P d.live
              (λ _. rw (passed-quiet d.terms d.sender k (λ r. omega (arith, r.runs, s.wait'))) (record { none = s.none; wait' = omega (arith, s.wait') }))
              λ _. s;
          open' = refl;
        }
    go hands q = record { silent = by P d.live (λ _. rw (handed-idle d.terms d.sender (lent d.history) s.none) s) λ _. s; open' = refl }
    go acks q = record { silent = s; open' = refl }
    go (data-came f l e k) q = record { silent = s; open' = refl }
    go (ack-came {fate}) q = record { silent = rw (silent-hears d s fate d.acks) s; open' = refl }
    go (repeats-out {k} e) q = absurd (omega (arith, ap (λ (x : Sender). x.wait) same, s.wait', ((passed-used_up n.channel.parameters.terms n.channel.sender k).0 e).0.runs))
    go (acks-out ready number e) q =
        absurd (omega (arith, ap (λ (x : Sender). x.length) same, s.none, ((on_ack-used_up n.channel.parameters.terms n.channel.sender ready number).0 e).0.counts.sending))
    go (tests-out e) q = absurd (omega (arith, untested, e))

-- ---- the near end alone sends, and no test is out

pub record Alone (n f : Line) : Type 0 where
  pub near' : n.channel.tests.wait ≡ 0
  pub far' : f.channel.tests.wait ≡ 0
  pub open' : f.live ≡ true
  pub silent : Silent f.channel.sender

-- without a test out an end closes for its own repeats alone
sends-unforced : {n : Line} {link : List Flying} {a : Act} {out incoming : Move} {live : Bool} → n.channel.tests.wait ≡ 0 → Moves n link a out incoming live → Unforced out
sends-unforced w nothing = tt
sends-unforced w offers = tt
sends-unforced w takes_one = tt
sends-unforced w passes = tt
sends-unforced w hands = tt
sends-unforced w acks = tt
sends-unforced w (data-came f l q k) = tt
sends-unforced w ack-came = tt
sends-unforced w (repeats-out q) = tt
sends-unforced w (acks-out ready number q) = tt
sends-unforced w (tests-out q) = absurd (omega (arith, w, q))

-- what comes in forces nothing
comes-unforced : {n : Line} {link : List Flying} {a : Act} {out incoming : Move} {live : Bool} → Moves n link a out incoming live → Unforced incoming
comes-unforced nothing = tt
comes-unforced offers = tt
comes-unforced takes_one = tt
comes-unforced passes = tt
comes-unforced hands = tt
comes-unforced acks = tt
comes-unforced (data-came f l q k) = tt
comes-unforced ack-came = tt
comes-unforced (repeats-out q) = tt
comes-unforced (acks-out ready number q) = tt
comes-unforced (tests-out q) = tt

-- the calls behind the first
pub sends-behind : (c : Call) (cs : List Call) → SendsNear (c ∷ cs) → SendsNear cs
sends-behind (at near a) cs q = q
sends-behind (at far (send m)) cs q = absurd q
sends-behind (at far takes) cs q = q
sends-behind (at far (time n)) cs q = q
sends-behind (at far due) cs q = q
sends-behind (at far (arrive fate)) cs q = q

far-not-send : (a : Act) (cs : List Call) → SendsNear (at far a ∷ cs) → NotSend a
far-not-send (send m) cs q = q
far-not-send takes cs q = tt
far-not-send (time n) cs q = tt
far-not-send due cs q = tt
far-not-send (arrive fate) cs q = tt

-- a call accepts at its own end alone, and there only by a send
accepts-back : {N F : End} (s : System N F) (a : Act) → (act s a).back.accepted ≡ s.back.accepted
unfolding sending taking timing asking arriving missing
accepts-back s (send m) = refl
accepts-back s takes = refl
accepts-back s (time n) = refl
accepts-back s due = refl
accepts-back s (arrive fate) = met fate s.backward
  where
    met : (fate : Fate) (l : List Flying) → (meeting fate l s).back.accepted ≡ s.back.accepted
    met fate [] = refl
    met goes (f ∷ l) = refl
    met stays (f ∷ l) = refl
    met lost (f ∷ l) = refl

accepts-none : {N F : End} (s : System N F) (a : Act) → NotSend a → (act s a).forth.accepted ≡ s.forth.accepted
unfolding sending taking timing asking arriving missing
accepts-none s (send m) q = absurd q
accepts-none s takes q = refl
accepts-none s (time n) q = refl
accepts-none s due q = refl
accepts-none s (arrive fate) q = met fate s.backward
  where
    met : (fate : Fate) (l : List Flying) → (meeting fate l s).forth.accepted ≡ s.forth.accepted
    met fate [] = refl
    met goes (f ∷ l) = refl
    met stays (f ∷ l) = refl
    met lost (f ∷ l) = refl

-- where the near end alone sends, the far one accepts nothing
far-accepts : {N F : End} (cs : List Call) (s : System N F) → SendsNear cs → (run s cs).back.accepted ≡ s.back.accepted
far-accepts [] s q = refl
far-accepts (at near a ∷ cs) s q = far-accepts cs (step s (at near a)) (sends-behind (at near a) cs q) ∙ accepts-back s a
far-accepts (at far a ∷ cs) s q = far-accepts cs (step s (at far a)) (sends-behind (at far a) cs q) ∙ accepts-none (turned s) a (far-not-send a cs q)

module _ (two : TwoEnds) (r t : ℕ) where
  -- no test falls due in the channels that the ends are tied to
  near-quiet : (n f : Line) (s : SystemOf two) → Seen two r t n f s → NoTest s → n.live ≡ true → test_due n.channel ≡ false
  near-quiet n f s v q e = rw (two.near_laws.views v.near' e) at q.0

  far-quiet : (n f : Line) (s : SystemOf two) → Seen two r t n f s → NoTest s → f.live ≡ true → test_due f.channel ≡ false
  far-quiet n f s v q e = rw (two.far_laws.views v.far' e) at q.1

  pub step-alone : (n f : Line) (c : Call) (cs : List Call) (s : SystemOf two) (v : Seen two r t n f s) → Alone n f → SendsNear (c ∷ cs) → NoTest s
      → (let a = step-moves two r t n f c s v in Alone a.near' a.far' × Unforced a.moves)
  unfolding step-moves near-steps far-steps
  step-alone n f (at near a) cs s v w q no_test =
      let m = act-moves two.limit two.carried two.near two.far two.NearTied two.near_laws r t s n f a v.near' v.forward v.backward in (
        record { near' = m.untested (near-quiet n f s v no_test) w.near'; far' = w.far'; open' = w.open'; silent = w.silent },
        sends-unforced w.near' m.moves,
      )
  step-alone n f (at far a) cs s v w q no_test =
      let m = act-moves two.limit two.carried two.far two.near two.FarTied two.far_laws t r (turned s) f n a v.far' v.backward v.forward in
      let o = silent-moves two.limit (forth_of f n (turned s)) f s.forward refl w.silent w.far' (far-not-send a cs q) m.moves in (
        record {
          near' = w.near';
          far' = m.untested (far-quiet n f s v no_test) w.far';
          open' = o.open' ∙ w.open';
          silent = subst Silent (sym (ap (λ (d : Direction). d.sender) m.forth)) o.silent;
        },
        comes-unforced m.moves,
      )

  pub run_alone : (cs : List Call) (n f : Line) (s : SystemOf two) (v : Seen two r t n f s) → Alone n f → SendsNear cs → Always NoTest s cs
      → (let a = run-moves two r t cs n f s v in Alone a.near' a.far' × AllUnforced a.moves)
  unfolding run-moves
  run_alone [] n f s v w q no_test = (w, tt)
  run_alone (c ∷ cs) n f s v w q no_test =
      let a = step-moves two r t n f c s v in
      let one = step-alone n f c cs s v w q no_test.0 in
      let all = run_alone cs a.near' a.far' (step s c) a.seen one.0 (sends-behind c cs q) no_test.1 in
      (all.0, (one.1, all.1))

-- two fresh ends
pub fresh-alone : {N F : End} (s : System N F) → Fresh s → Alone (line_of s.near) (line_of s.far)
fresh-alone s f =
    record {
      near' = ap (λ (x : Tests). x.wait) f.near.tests;
      far' = ap (λ (x : Tests). x.wait) f.far.tests;
      open' = refl;
      silent = record { none = ap (λ (x : Sender). x.length) f.far.sender; wait' = ap (λ (x : Sender). x.wait) f.far.sender };
    }

-- ---- the first half

module _ (two : TwoEnds) (s : SystemOf two) (fresh : Fresh s) (cs : List Call) (q : SendsNear cs)
    (no_test : Always NoTest s cs) where
  abbrev r : ℕ
  r = two.near.receives s.near.state

  abbrev t : ℕ
  t = two.near.transmits s.near.state

  abbrev begun : Good two r t (length s.far.buffer) (line_of s.near) (line_of s.far) s
  begun = fresh-good two s fresh

  abbrev pub ran : Ran two r t (line_of s.near) (line_of s.far) s (run s cs)
  ran = run-moves two r t cs (line_of s.near) (line_of s.far) s begun.seen

  pub alone : Alone ran.near' ran.far' × AllUnforced ran.moves
  alone = run_alone two r t cs (line_of s.near) (line_of s.far) s begun.seen (fresh-alone s fresh) q no_test

  -- the receiving end stays open
  far-open : two.far.open' (run s cs).far.state ≡ true
  far-open = two.far_laws.opens ran.seen.far' ∙ alone.0.open'

  pub first-half : Roomy s (run s cs) → Delivered (run s cs)
  first-half roomy =
      record {
        in_order = promised.in_order;
        done = λ i h. shown (promised.done i h);
        given_up = λ e. let one = counted e in (one, λ more _ _. whole-or-none two r t room ran.near' ran.far' (run s cs) good roomy e one more);
        open' = far-open;
        none-back = none;
      }
    where
      room : ℕ
      room = length s.far.buffer

      good : Good two r t (length s.far.buffer) ran.near' ran.far' (run s cs)
      good = run-good two r t (length s.far.buffer) cs (line_of s.near) (line_of s.far) s begun roomy

      promised : Delivers two.limit (forth_of ran.near' ran.far' (run s cs))
      promised = delivers two.limit (length s.far.buffer) two.small (forth_of ran.near' ran.far' (run s cs)) good.kept roomy

      -- what the near end hands out is what the far one accepted: nothing
      none : (run s cs).back.handed_out ≡ []
      none =
          let accepted : (run s cs).back.accepted ≡ [] = far-accepts cs s q ∙ ap (λ (h : History). h.accepted) fresh.back in
          ((both_ways two s fresh cs).back (subst (Within (length s.near.buffer)) (sym accepted) tt)).in_order
          ∙ ap (map plain) (ap (take (length (run s cs).back.handed_out)) accepted ∙ take-nil (length (run s cs).back.handed_out))

      -- 8 was answered for a message in sending
      counted : (run s cs).forth.eight ≡ true → length (run s cs).forth.accepted ≡ (run s cs).forth.done + 1
      counted e =
          let start = forth_of (line_of s.near) (line_of s.far) s in
          let not_yet = ap (λ (h : History). h.eight) fresh.forth in
          let gave = subst GaveUp (sym ran.forth)
          (moved-gave-up two.limit (length s.far.buffer) two.small ran.moves start begun.kept
          (subst (λ (x : Direction). Within (length s.far.buffer) x.history.accepted) ran.forth roomy)
          (λ w. absurd (false≢true (sym not_yet ∙ w))) alone.1) in
          (in-sending good.kept.4 (gave e)).counted

      shown : {i : ℕ}
          → (i < length (run s cs).forth.handed_out) ⊎ ((length (run s cs).forth.handed_out ≡ i) × Ready (forth_of ran.near' ran.far' (run s cs)) (get_or (run s cs).forth.accepted i []))
          → (i < length (run s cs).forth.handed_out) ⊎ ((length (run s cs).forth.handed_out ≡ i) × ((step (run s cs) (at far takes)).forth.handed_out ≡ (run s cs).forth.handed_out ++ (plain (get_or (run s cs).forth.accepted i []) ∷ [])))
      shown (inl h) = inl h
      shown {i} (inr p) =
          let held : held_in ran.far'.channel.receiver (run s cs).far.buffer ≡ plain (get_or (run s cs).forth.accepted i []) ∷ [] =
          rw (lt-ltb 0 ran.far'.channel.receiver.complete.length p.1.some) (ap (λ (m : ShownMessage). m ∷ []) p.1.front) in
          inr (
            p.0,
            take-hands two r t (length s.far.buffer) ran.near' ran.far' (run s cs) good roomy far-open
                ∙ ap (λ (l : List ShownMessage). (run s cs).forth.handed_out ++ l) held,
          )
