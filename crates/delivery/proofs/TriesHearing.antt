-- What an Ack that is heard, or lost, keeps of the tries.
use Prim.Native.Nat.{ℕ, suc, ◌+◌, ◌*◌, min, ◌%◌, ◌≤◌, ◌<◌}
use native.Mathlib.Nat.{mod-lt}
use native.Mathlib.Omega.{arith}
use mathlib.Core.Bool.{Bool, true, false, true≢false}
use mathlib.Core.List.{List, [], ◌∷◌}
use mathlib.Core.Logic.{◌⊎◌, inl, inr}
use mathlib.Core.Path.{◌≡◌, refl, sym, ap, subst, ◌∙◌}
use lib.ListN.{length, get_or}
use Rattle.laws.proofs.Cases.{by, by-lt, by-eq}
use Rattle.telegram.specs.Cutting.{frames_of}
use Rattle.sender.specs.Sending.{distance, acknowledged, finished, on_ack, held_for}
use Rattle.sender.specs.declared.Terms.{Terms}
use Rattle.sender.proofs.Numbers.{distance-oldest, distance-reaches, oldest-ahead}
use Rattle.sender.proofs.Acks.{Acknowledges, on_ack-ignored, on_ack-last, on_ack-part}
use Rattle.channel.specs.declared.Answer.TheVariants.{Good, Done, NoChange}
use Rattle.delivery.specs.System.{Try, Fate, losing}
use Rattle.delivery.specs.System.Fate.{goes, stays, lost}
use Rattle.delivery.specs.Claim.{FewLosses, frames_for}
use Rattle.delivery.proofs.Core.{AckFrame, Direction, with_sending, with_acks, heard_to, hearing, answer_noted}
use Rattle.delivery.proofs.Count.{Spared, not_spared, losers-few, block-frames}
use Rattle.delivery.proofs.Tries.{Says, Answers, Each, Rises, Due, Ghosts, BlockOf, OnItsWayOf, AnsweredOf, Stage, stage-as, Tried}
use Rattle.delivery.proofs.Tries.Each.{each}
use Rattle.delivery.proofs.Tries.Rises.{risen, rising}
use Rattle.delivery.proofs.Tries.Pace.{sending}
use Rattle.delivery.proofs.Tries.Stage.{vacant, on_its_way, answered}
use Rattle.delivery.proofs.TriesLinks.{left-line, each-says, block-lost, stage-lost}
use Rattle.delivery.proofs.TriesSending.{tally-again, again_tried, steady-with}

module _ {terms : Terms} {d : Direction} (v : Tried terms d) where
  -- the direction with the Acks that are left when one has gone or stayed
  abbrev resting : List AckFrame → Direction
  resting rest = with_acks d rest d.history

  -- ---- an Ack that shows what is acknowledged already

  unmoved : (rest : List AckFrame) → Stage (resting rest) → Tried terms (with_sending (resting rest) d.sender true (answer_noted d.history NoChange))
  unmoved rest stage =
      record {
        steady = steady-with v d.sender.hold v.steady.hold';
        room = v.room;
        bounded = v.bounded;
        stage = stage-as (λ _ q. q) (λ _ b. b) (λ _ _ o. o) (λ _ _ a. a) stage;
      }

  -- a ready Ack that acknowledges nothing changes nothing
  ignored-tried : (rest : List AckFrame) → Stage (resting rest) → (ready : Bool) (number : ℕ) → ready ≡ true → (Acknowledges d.sender number → ⊥)
      → Tried terms (heard_to (resting rest) (on_ack d.terms d.sender ready number))
  ignored-tried rest stage ready number r none = rw (on_ack-ignored d.terms d.sender ready number none (λ a. true≢false (sym r ∙ a.busy))) (unmoved rest stage)

  heard-old : (rest : List AckFrame) → Stage (resting rest) → (ready : Bool) (number : ℕ) → ready ≡ true → number ≡ d.sender.oldest
      → Tried terms (heard_to (resting rest) (on_ack d.terms d.sender ready number))
  heard-old rest stage ready number r e = let far = ap (distance d.sender) e ∙ distance-oldest d.sender in ignored-tried rest stage ready number r (λ a. omega arith)

  -- ---- an Ack that shows what is used

  -- it reaches what is used
  used-reached : (g : Ghosts) → BlockOf g d → (number : ℕ) → number ≡ d.receiver.at.expected → d.sender.acked + distance d.sender number ≡ g.used
  used-reached g b number e =
      let w = b.window in
      let f = v.steady.fair in
      distance-reaches d.sender g.start b.oldest' number g.used (e ∙ b.expected') (omega arith) (omega arith)

  module _ (few : FewLosses d.terms.repeats d.history.losses) (g : Ghosts) (old : ℕ) (b : BlockOf g d) (a : AnsweredOf g old d)
      (rest : List AckFrame) (all : Each (Answers d.receiver.at.expected g.t) rest)
      (x pause : ℕ) (none : pause ≡ 0) (reaches : d.sender.acked + x ≡ g.used) where
    -- so many frames were handed over for the message i in all, if it has so many
    abbrev Within : (i n : ℕ) → Type 0
    Within i n = frames_for i d.history.frames ≤ (d.terms.repeats + 1) * n

    -- the number of the oldest frame that is not acknowledged then
    oldest-then : (d.sender.oldest + x) % 16 ≡ d.receiver.at.expected
    oldest-then = oldest-ahead d.sender g.start b.oldest' x ∙ ap (λ n. n % 16) (omega arith) ∙ sym b.expected'

    -- the frames handed over for the message, up to the end of this block
    block_within : Within g.t.message g.end
    block_within =
        let w = b.window in
        let y = b.tally in
        block-frames d.terms.repeats g.repeats (g.t.block * d.terms.block) g.end (frames_for g.t.message d.history.frames) (omega arith)
        (omega (arith, losers-few d.terms.repeats g.t d.history.losses few, y.losing)) (omega (arith, y.handed, a.over.next'))

    -- the last block: the message is done
    finished-tried : g.used ≡ frames_of d.sender.length → Tried terms (with_sending (resting rest) (finished d.sender x pause) true (answer_noted d.history Done))
    finished-tried whole =
        record {
          steady = steady-with v pause none;
          room = v.room;
          bounded = record { before = λ i h. up_to i (omega arith); after = λ i h. v.bounded.after i (omega arith) };
          stage =
              vacant g.t
              (record {
                nothing =
                    record {
                      counted = b.current.counted;
                      none' = refl;
                      wait' = refl;
                      oldest' = oldest-then;
                      small = rw b.expected' (mod-lt (g.start + g.used) (omega arith));
                      frames' = v.bounded.after (d.history.done + 1) (omega arith);
                    };
                link' = a.link';
                acks' = each-says all;
                due = a.due;
              });
        }
      where
        done : ℕ
        done = d.history.done

        frames : ℕ → ℕ
        frames i = frames_of (length (get_or d.history.accepted i []))

        last : Within done (frames done)
        last =
            let w = b.window in
            let e : g.end ≡ frames_of d.sender.length = omega arith in
            subst (λ i. Within i (frames done)) b.current.message' (subst (Within g.t.message) (e ∙ ap frames_of b.current.same) block_within)

        up_to : (i : ℕ) → i ≤ done → Within i (frames i)
        up_to i h = by-lt (λ (_ : ℕ). Within i (frames i)) i done {x = 0} {y = 0} (v.bounded.before i) λ k. subst (λ j. Within j (frames j)) (omega arith) last

    -- the message goes on: in the block, or with the next one
    abbrev onward : Direction
    onward = with_sending (resting rest) (acknowledged d.sender x pause) true (answer_noted d.history Good)

    resumed : (end : ℕ) (repeats : ℕ) (t : Try) → d.sender.acked + x < end → t.turn ≡ d.history.turns
        → OnItsWayOf (record { start = g.start; used = g.used; end = end; repeats = repeats; t = t }) (d.sender.acked + x) onward
    resumed end repeats t h e =
        record {
          least = omega arith;
          reached = omega arith;
          pace = sending (record { wait' = refl; next' = h; turn = e });
          link' = left-line (sym reaches) a.link';
          acks' = subst (λ n. Each (Says n) rest) (sym oldest-then) (each-says all);
          due = subst (λ n. Due n d.receiver.ack) (sym oldest-then) a.due;
        }

    oldest-onward : (d.sender.oldest + x) % 16 ≡ (g.start + (d.sender.acked + x)) % 16
    oldest-onward = oldest-then ∙ b.expected' ∙ ap (λ n. (g.start + n) % 16) (sym reaches)

    -- short of the block's end: the try lost a frame
    short : g.used < g.end → 1 ≤ x → Stage onward
    short h some =
        let w = b.window in
        on_its_way (again_tried g) (d.sender.acked + x)
        (record {
          current = b.current;
          window = omega arith;
          oldest' = oldest-onward;
          expected' = b.expected';
          tally = tally-again b.tally (λ s. let e = (a.whole s).0 in omega arith) (omega arith) (omega arith) (omega arith);
        })
        (resumed g.end (g.repeats + 1) (again_tried g).t (omega arith) a.over.turn)

    -- the block is finished: the next one begins
    long : g.end ≤ g.used → (g.used ≡ frames_of d.sender.length → ⊥) → 1 ≤ x → Stage onward
    long h more some =
        let w = b.window in
        let f = v.steady.fair in
        let size = d.terms.block in
        let t : Try = record { message = g.t.message; block = g.t.block + 1; turn = d.history.turns } in
        let end : ℕ = min ((g.t.block + 1) * size + size) (frames_of d.sender.length) in
        let e : g.end ≡ (g.t.block + 1) * size = omega arith in
        let n = subst (Within g.t.message) e block_within in
        on_its_way (record { start = g.start; used = g.used; end = end; repeats = 0; t = t }) (d.sender.acked + x)
        (record { current = b.current; window = omega arith; oldest' = oldest-onward; expected' = b.expected'; tally = omega arith })
        (resumed end 0 t (omega arith) refl)

    acknowledged-tried : 1 ≤ x → (g.used ≡ frames_of d.sender.length → ⊥) → Tried terms onward
    acknowledged-tried some more =
        record {
          steady = steady-with v pause none;
          room = v.room;
          bounded = v.bounded;
          stage = by-lt (λ (_ : ℕ). Stage onward) g.used g.end {x = 0} {y = 0} (λ h. short h some) λ h. long h more some;
        }

  heard-new : FewLosses d.terms.repeats d.history.losses → (g : Ghosts) (old : ℕ) → BlockOf g d → AnsweredOf g old d
      → (rest : List AckFrame) → Each (Answers d.receiver.at.expected g.t) rest
      → (ready : Bool) (number : ℕ) → ready ≡ true → number ≡ d.receiver.at.expected
      → Tried terms (heard_to (resting rest) (on_ack d.terms d.sender ready number))
  heard-new few g old b a rest all ready number r e =
      by-eq P x 0 {x = 0} {y = 0} (λ none. ignored-tried rest (same none) ready number r (λ k. omega arith)) λ far.
      by-eq P (d.sender.acked + x) (frames_of d.sender.length) {x = 0} {y = 0}
      (λ y. rw (on_ack-last d.terms d.sender ready number (acks far) y) (finished-tried few g old b a rest all x (held_for d.terms ready) (rw r) reached (sym reached ∙ y)))
      λ y. rw (on_ack-part d.terms d.sender ready number (acks far) y) (acknowledged-tried few g old b a rest all x (held_for d.terms ready) (rw r) reached (acks far).some (λ z. y (reached ∙ z)))
    where
      P : ℕ → Type 0
      P _ = Tried terms (heard_to (resting rest) (on_ack d.terms d.sender ready number))

      x : ℕ
      x = distance d.sender number

      reached : d.sender.acked + x ≡ g.used
      reached = used-reached g b number e

      -- nothing more is used: the try lost a frame
      same : x ≡ 0 → Stage (resting rest)
      same none =
          let w = b.window in
          let y = reached in
          answered g 0 b (record { over = a.over; link' = a.link'; acks' = risen all; due = a.due; asker = a.asker; whole = λ s. let u = (a.whole s).0 in absurd (omega arith) })

      -- more is used: it acknowledges that
      acks : (x ≡ 0 → ⊥) → Acknowledges d.sender number
      acks far =
          let w = b.window in
          let y = reached in
          record { counts = record { sending = b.current.some; free = v.steady.hold' }; some = omega arith; within = omega arith }

  -- ---- the first Ack of the link

  -- it shows what is acknowledged already, or what is used
  data First (f : AckFrame) (l : List AckFrame) : Type 0 where
    shows-old : Stage (resting l) → Says d.sender.oldest f → First f l
    shows-new : (g : Ghosts) → BlockOf g d → AnsweredOf g 0 d → Each (Answers d.receiver.at.expected g.t) (f ∷ l) → First f l

  first : {f : AckFrame} {l : List AckFrame} → d.acks ≡ f ∷ l → Stage d → First f l
  first {f} {l} e (vacant t q) = go (subst (Each (Says d.receiver.at.expected)) e q.acks')
    where
      go : Each (Says d.receiver.at.expected) (f ∷ l) → First f l
      go (each p r) =
          shows-old (vacant t (record { nothing = q.nothing; link' = q.link'; acks' = r; due = q.due }))
          (record { ready = p.ready; number' = p.number' ∙ sym q.nothing.oldest' })
  first {f} {l} e (on_its_way g from b o) = go (subst (Each (Says d.sender.oldest)) e o.acks')
    where
      go : Each (Says d.sender.oldest) (f ∷ l) → First f l
      go (each p r) = shows-old (on_its_way g from b (record { least = o.least; reached = o.reached; pace = o.pace; link' = o.link'; acks' = r; due = o.due })) p
  first {f} {l} e (answered g old b a) = go (subst (Rises d.sender.oldest d.receiver.at.expected g.t old) e a.acks') a
    where
      fewer : {n : ℕ} → (d.receiver.ack.due ≡ true) ⊎ (suc n < length d.acks) → (d.receiver.ack.due ≡ true) ⊎ (n < length l)
      fewer (inl u) = inl u
      fewer (inr h) = inr (omega (arith, ap length e))

      go : {n : ℕ} → Rises d.sender.oldest d.receiver.at.expected g.t n (f ∷ l) → AnsweredOf g n d → First f l
      go (risen r) a = shows-new g b a r
      go (rising {n = n} p r) a =
          shows-old
          (answered g n b (record { over = a.over; link' = a.link'; acks' = r; due = a.due; asker = a.asker; whole = λ s. let w = a.whole s in (w.0, fewer w.1) })) p

  module _ (few : FewLosses d.terms.repeats d.history.losses) {f : AckFrame} {l : List AckFrame} where
    ack-goes : First f l → Tried terms (heard_to (resting l) (on_ack d.terms d.sender f.ready f.number))
    ack-goes (shows-old s p) = heard-old l s f.ready f.number p.ready p.number'
    ack-goes (shows-new g b a (each p r)) = heard-new few g 0 b a l r f.ready f.number p.says.ready p.says.number'

    ack-stays : d.acks ≡ f ∷ l → First f l → Tried terms (heard_to d (on_ack d.terms d.sender f.ready f.number))
    ack-stays e (shows-old s p) = heard-old d.acks v.stage f.ready f.number p.ready p.number'
    ack-stays e (shows-new g b a (each p r)) =
        heard-new few g 0 b a d.acks (subst (Each (Answers d.receiver.at.expected g.t)) (sym e) (each p r)) f.ready f.number p.says.ready p.says.number'

  ack-lost : {f : AckFrame} {l : List AckFrame} → First f l → Stage (with_acks d l (losing d.history true f.try))
  ack-lost {f} (shows-old s p) = stage-lost f.try s
  ack-lost {f} (shows-new g b a (each p r)) =
      answered g 0 (block-lost f.try b)
      (record {
        over = a.over;
        link' = a.link';
        acks' = risen r;
        due = a.due;
        asker = a.asker;
        whole = λ s. absurd (not_spared g.t d.history.losses (subst (λ x. Spared g.t (x ∷ d.history.losses)) p.try s));
      })

  pub hear-tried : FewLosses d.terms.repeats d.history.losses → (fate : Fate) → Tried terms (hearing fate d.acks d)
  hear-tried few fate = go fate d.acks refl
    where
      closed : {x : Direction} → d.live ≡ false → Tried terms x
      closed e = absurd (true≢false (sym v.steady.live' ∙ e))

      go : (fate : Fate) (l : List AckFrame) → d.acks ≡ l → Tried terms (hearing fate l d)
      go fate [] e = v
      go goes (f ∷ l) e = by (Tried terms) d.live (λ _. ack-goes few (first e v.stage)) closed
      go stays (f ∷ l) e = by (Tried terms) d.live (λ _. ack-stays few e (first e v.stage)) closed
      go lost (f ∷ l) e = record { steady = v.steady; room = v.room; bounded = v.bounded; stage = ack-lost (first e v.stage) }
