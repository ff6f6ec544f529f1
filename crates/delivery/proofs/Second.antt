-- Demand 3, the second half, for any two lawful ends: if waits are in time, messages are taken first and in no block too many tries lose a frame, every message accepted is done, within its bound of frames.
use Prim.Native.Nat.{ℕ}
use native.Mathlib.Omega.{arith}
use mathlib.Core.Bool.{Bool, true, false, true≢false, false≢true}
use mathlib.Core.List.{List, [], ◌∷◌}
use mathlib.Core.Path.{◌≡◌, refl, sym, ap, subst, ◌∙◌}
use lib.ListN.{length}
use Rattle.std.specs.Option.{is_some}
use Rattle.telegram.specs.declared.payload.Payload.{Payload}
use Rattle.sender.specs.Sending.{frame_due}
use Rattle.sender.specs.declared.Sender.{Sender}
use Rattle.sender.specs.declared.Handing.TheVariants.{Frame}
use Rattle.sender.proofs.Frames.{frame_due-shows, handed-frame}
use Rattle.receiver.specs.Receiving.{waiting}
use Rattle.receiver.specs.declared.Receiver.{Receiver}
use Rattle.channel.specs.declared.Channel.{Channel}
use Rattle.channel.specs.declared.Due.{Due}
use Rattle.channel.specs.Opened.{due as due_of}
use Rattle.channel.proofs.Handing.{DueOutcome, due-outcome}
use Rattle.channel.proofs.Handing.DueOutcome.{accept-goes, test-goes, ack-goes, frame-goes}
use Rattle.delivery.specs.End.{End}
use Rattle.delivery.specs.Line.{Line}
use Rattle.delivery.specs.System.{System, Act, Call, Fate, turned, step, run, lent}
use Rattle.delivery.specs.System.Fate.{goes, stays, lost}
use Rattle.delivery.specs.System.Act.{time, arrive}
use Rattle.delivery.specs.Claim.{channel_of, Always, Along, Fresh, SendsNear, NoTest, NearInTime, InTime, NoneWaits, NearTakenFirst, TakenFirst, AtRest, FewLosses, frames_for, AllDone, repeats_of}
use Rattle.delivery.specs.Laws.{TwoEnds}
use Rattle.delivery.proofs.Core.{DataFrame, Direction, Move}
use Rattle.delivery.proofs.Core.Move.{pass}
use Rattle.delivery.proofs.Tries.{Leftover, Each, Says, Tried}
use Rattle.delivery.proofs.Tries.Leftover.{none}
use Rattle.delivery.proofs.Tries.Each.{none as no_acks}
use Rattle.delivery.proofs.Tries.Stage.{vacant}
use Rattle.delivery.proofs.TriesReceiving.{Clear, TakenBefore}
use Rattle.delivery.proofs.Finishes.{Calm, Calms, moved_tried, all_done}
use Rattle.delivery.proofs.Directions.{data_of, acks_of, Moves}
use Rattle.delivery.proofs.Directions.Moves.{nothing, offers, takes_one, passes, hands, acks, data-came, ack-came, repeats-out, acks-out, tests-out}
use Rattle.delivery.proofs.Runs.{SystemOf, Caused, forth_of, Seen, Ran, step-moves, run-moves}
use Rattle.delivery.proofs.Runs.Caused.{here, there}
use Rattle.delivery.proofs.Beginning.{line_of, fresh-good}
use Rattle.delivery.proofs.First.{Alone, sends-behind, step-alone, fresh-alone, ran}

-- ---- two fresh ends

fresh-tried : {N F : End} (s : System N F) → Fresh s → Tried (channel_of s.near).parameters.terms (forth_of (line_of s.near) (line_of s.far) s)
fresh-tried s f =
    let sent = f.near.sender in
    let got = f.far.receiver in
    let done = ap (λ h. h.done) f.forth in
    let expected = ap (λ x. x.at.expected) got in
    let frames : (i : ℕ) → frames_for i s.forth.frames ≡ 0 = λ i. ap (λ h. frames_for i h.frames) f.forth in
    record {
      steady =
          record {
            same = refl;
            fair = record { least = f.least; most = f.most; t1 = f.near.t1 };
            live' = refl;
            listens' = refl;
            hold' = ap (λ x. x.hold) sent;
          };
      room = omega (arith, ap (λ x. x.at.begun.length) got);
      bounded = record { before = λ i h. absurd (omega (arith, done)); after = λ i _. frames i };
      stage =
          vacant s.forth.ack_try
          (record {
            nothing =
                record {
                  counted = ap (λ h. length h.accepted) f.forth ∙ sym done;
                  none' = ap (λ x. x.length) sent;
                  wait' = ap (λ x. x.wait) sent;
                  oldest' = ap (λ x. x.oldest) sent ∙ sym expected;
                  small = omega (arith, expected);
                  frames' = frames s.forth.done;
                };
            link' = subst (λ l. Leftover (channel_of s.far).receiver.at.expected s.forth.ack_try (data_of l)) (sym f.forward) none;
            acks' = subst (λ l. Each (Says (channel_of s.far).receiver.at.expected) (acks_of l)) (sym f.backward) no_acks;
            due = λ e. absurd (false≢true (sym (ap (λ x. x.ack.due) got) ∙ e));
          });
    }

-- ---- along a list of calls

clear_of : (r : Receiver) → waiting r ≡ false → (l : List DataFrame) → Clear r l
clear_of r w [] = tt
clear_of r w (f ∷ l) = w

module _ (two : TwoEnds) (r t : ℕ) where
  module _ (n f : Line) (s : SystemOf two) (v : Seen two r t n f s) (w : Alone n f) where
    -- the channels of the ends
    near-is : n.live ≡ true → channel_of s.near ≡ n.channel
    near-is e = two.near_laws.views v.near' e

    far-is : channel_of s.far ≡ f.channel
    far-is = two.far_laws.views v.far' w.open'

    -- at the near end, a wait that runs out is in time
    pass-calm : (k : ℕ) → NearInTime s (time k) → Calm (forth_of n f s) (pass k)
    pass-calm k i live some over =
        let c = near-is live in
        let m = i (two.near_laws.opens v.near' ∙ live, rw c some, rw c over) in
        (ap data_of m.0, ap acks_of m.1, rw far-is at m.2)

    near-calm : {a : Act} {out incoming : Move} {live : Bool} → Moves n s.backward a out incoming live → NearInTime s a → Calm (forth_of n f s) out
    near-calm nothing i = tt
    near-calm offers i = tt
    near-calm takes_one i = tt
    near-calm (passes {k}) i = pass-calm k i
    near-calm hands i = tt
    near-calm acks i = tt
    near-calm (data-came g l e k) i = tt
    near-calm ack-came i = tt
    near-calm (repeats-out {k} e) i = pass-calm k i
    near-calm (acks-out ready number e) i = tt
    near-calm (tests-out e) i = absurd (omega (arith, e, w.near'))

    -- at the far end, which stays open
    far-calm : {a : Act} {out incoming : Move} {live : Bool} → live ≡ true → Moves f s.forward a out incoming live → NearTakenFirst (turned s) a → Calm (forth_of n f s) incoming
    far-calm o nothing i = tt
    far-calm o offers i = tt
    far-calm o takes_one i = tt
    far-calm o passes i = tt
    far-calm o hands i = tt
    far-calm o acks i = tt
    far-calm o (data-came {fate} g l e k) i = taken-before fate i
      where
        none-waits : NoneWaits s.far s.forward → Clear f.channel.receiver (data_of s.forward)
        none-waits c = clear_of f.channel.receiver (rw far-is at (subst (NoneWaits s.far) e c k)) (data_of s.forward)

        taken-before : (fate : Fate) → NearTakenFirst (turned s) (arrive fate) → TakenBefore f.channel.receiver (data_of s.forward) fate
        taken-before goes c = none-waits c
        taken-before stays c = none-waits c
        taken-before lost c = tt
    far-calm o ack-came i = tt
    far-calm o (repeats-out e) i = absurd (false≢true o)
    far-calm o (acks-out ready number e) i = absurd (false≢true o)
    far-calm o (tests-out e) i = absurd (false≢true o)

    call-calm : {c : Call} {m : Move} {near_live far_live : Bool} → Caused n f s.forward s.backward c m near_live far_live → far_live ≡ true → InTime s c → TakenFirst s c
        → Calm (forth_of n f s) m
    call-calm (here m) o i k = near-calm m i
    call-calm (there m) o i k = far-calm o m k

  run-calms : (cs : List Call) (n f : Line) (s : SystemOf two) (v : Seen two r t n f s) → Alone n f → SendsNear cs → Always NoTest s cs → Along InTime s cs → Along TakenFirst s cs
      → Calms two.limit (forth_of n f s) (run-moves two r t cs n f s v).moves
  unfolding run-moves
  run-calms [] n f s v w q no_test i k = tt
  run-calms (c ∷ cs) n f s v w q no_test i k =
      let a = step-moves two r t n f c s v in
      let one = step-alone two r t n f c cs s v w q no_test.0 in
      let behind = (run-moves two r t cs a.near' a.far' (step s c) a.seen).moves in (
        call-calm n f s v w a.caused one.0.open' i.0 k.0,
        subst (λ (d : Direction). Calms two.limit d behind) a.forth
            (run-calms cs a.near' a.far' (step s c) a.seen one.0 (sends-behind c cs q) no_test.1 i.1 k.1),
      )

-- ---- at rest

-- nothing is handed over, so no frame of the message lent is due
nothing-due : (c : Channel) (m : List ℕ) → is_some (due_of c m).payload ≡ false → frame_due c.sender ≡ true → length m ≡ c.sender.length → ⊥
nothing-due c m g due' same = go (rw (handed-frame c.parameters.terms c.sender m (frame_due-shows c.sender due') same) at (due-outcome c m)) g
  where
    go : {s : Sender} {p : Payload} {x : Due} → DueOutcome c (record { note = Frame p; sender = s }) x → is_some x.payload ≡ false → ⊥
    go (accept-goes a) = true≢false
    go (test-goes a t) = true≢false
    go (ack-goes a t k) = true≢false
    go (frame-goes t) = true≢false

-- ---- the second half

module _ (two : TwoEnds) (s : SystemOf two) (fresh : Fresh s) (cs : List Call) (q : SendsNear cs)
    (no_test : Always NoTest s cs) (i : Along InTime s cs) (k : Along TakenFirst s cs) (few : FewLosses (repeats_of s) (run s cs).forth.losses) where
  abbrev end : Ran two (two.near.receives s.near.state) (two.near.transmits s.near.state) (line_of s.near) (line_of s.far) s (run s cs)
  end = ran two s fresh cs q no_test

  run-tried : Tried (channel_of s.near).parameters.terms (forth_of end.near' end.far' (run s cs))
  run-tried =
      let r = two.near.receives s.near.state in
      let t = two.near.transmits s.near.state in
      let terms = (channel_of s.near).parameters.terms in
      subst (Tried terms) (sym end.forth)
      (moved_tried two.limit terms end.moves (forth_of (line_of s.near) (line_of s.far) s) (fresh-tried s fresh)
      (run-calms two r t cs (line_of s.near) (line_of s.far) s (fresh-good two s fresh).seen (fresh-alone s fresh) q no_test i k)
      (subst (λ (d : Direction). FewLosses terms.repeats d.history.losses) end.forth few))

  -- 8 is never answered: the sending end stays open
  pub stays_open : two.near.open' (run s cs).near.state ≡ true
  stays_open = two.near_laws.opens end.seen.near' ∙ run-tried.steady.live'

  pub second-half : AtRest (run s cs) → AllDone (repeats_of s) (run s cs).forth
  second-half rest =
      let c = two.near_laws.views end.seen.near' run-tried.steady.live' in
      let near' = rw c at rest.near in
      let d = all_done run-tried (record { wait = near'.wait; gap = near'.gap; nothing = nothing-due end.near'.channel (lent (run s cs).forth) near'.nothing }) in
      record { done = d.done; bound = d.bound }
