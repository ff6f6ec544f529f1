-- One direction, after every list of moves in which waits are in time, messages are taken first and no end is closed: the second half of demand 3.
-- Whatever makes of its calls a list of such moves has all of this of that direction.
use Rattle.std.specs.Prelude.{if◌then◌else◌}
use Prim.Native.Nat.{ℕ, ◌+◌, ◌*◌, ◌≤◌, ◌<◌}
use native.Mathlib.Omega.{arith}
use mathlib.Core.Bool.{true, false}
use mathlib.Core.List.{List, [], ◌∷◌}
use mathlib.Core.Path.{◌≡◌, sym, ap, subst, ◌∙◌}
use lib.ListN.{length, get_or}
use Rattle.laws.proofs.Cases.{by}
use Rattle.telegram.specs.Cutting.{frames_of}
use Rattle.sender.specs.Sending.{frame_due}
use Rattle.sender.specs.declared.Terms.{Terms}
use Rattle.sender.proofs.Frames.{frame_due-due}
use Rattle.delivery.specs.System.{lent}
use Rattle.delivery.specs.Claim.{FewLosses, frames_for, AllDone}
use Rattle.delivery.proofs.Core.{Direction, Move, move, moved}
use Rattle.delivery.proofs.Core.Move.{offer, hear, pass, hand, receive, taken, acknowledge, close_sending, close_receiving, rest}
use Rattle.delivery.proofs.Moves.{moved-held}
use Rattle.delivery.proofs.Count.{few-more}
use Rattle.delivery.proofs.Tries.{PaceOf, Stage, Tried}
use Rattle.delivery.proofs.Tries.Pace.{sending, awaiting}
use Rattle.delivery.proofs.Tries.Stage.{vacant, on_its_way, answered}
use Rattle.delivery.proofs.TriesSending.{offer-tried, pass-tried, hand-tried}
use Rattle.delivery.proofs.TriesHearing.{hear-tried}
use Rattle.delivery.proofs.TriesReceiving.{TakenBefore, receive-tried, take-tried, acknowledge-tried}

-- ---- one move

-- what the second half assumes of a move: a wait that runs out finds the links empty and no Ack due, no data frame meets a message, and no end is closed
abbrev pub Calm : (d : Direction) → Move → Type 0
Calm d (pass n) = d.live ≡ true → 1 ≤ d.sender.wait → d.sender.wait ≤ n → (d.frames ≡ []) × (d.acks ≡ []) × (d.receiver.ack.due ≡ false)
Calm d (receive fate) = TakenBefore d.receiver d.frames fate
Calm d close_sending = ⊥
Calm d close_receiving = ⊥
Calm d (offer m) = Unit {0}
Calm d (hear fate) = Unit {0}
Calm d hand = Unit {0}
Calm d taken = Unit {0}
Calm d acknowledge = Unit {0}
Calm d rest = Unit {0}

module _ {terms : Terms} {d : Direction} (limit : ℕ) (v : Tried terms d) where
  move-tried : FewLosses terms.repeats d.history.losses → (m : Move) → Calm d m → Tried terms (move limit d m)
  move-tried few m = go m
    where
      few' : FewLosses d.terms.repeats d.history.losses
      few' = subst (λ t. FewLosses t.repeats d.history.losses) (sym v.steady.same) few

      open' : {x : Direction} → Tried terms x → Tried terms (if d.live then x else d)
      open' t = by (Tried terms) d.live (λ _. t) λ _. v

      listening : {x : Direction} → Tried terms x → Tried terms (if d.listens then x else d)
      listening t = by (Tried terms) d.listens (λ _. t) λ _. v

      go : (m : Move) → Calm d m → Tried terms (move limit d m)
      go (offer m) c = open' (offer-tried v limit m)
      go (hear fate) c = hear-tried v few' fate
      go (pass n) c = open' (pass-tried v few' n (c v.steady.live'))
      go hand c = open' (hand-tried v)
      go (receive fate) c = receive-tried v limit fate c
      go taken c = listening (take-tried v)
      go acknowledge c = listening (by (Tried terms) d.receiver.ack.due (λ u. acknowledge-tried v u) λ _. v)
      go close_sending c = absurd c
      go close_receiving c = absurd c
      go rest c = v

-- ---- lists of moves

abbrev pub Calms : (limit : ℕ) → Direction → List Move → Type 0
Calms limit d [] = Unit {0}
Calms limit d (m ∷ ms) = Calm d m × Calms limit (move limit d m) ms

moved-few : (limit repeats : ℕ) (ms : List Move) (d : Direction) → FewLosses repeats (moved limit d ms).history.losses → FewLosses repeats d.history.losses
moved-few limit repeats = moved-held limit (λ _ l. FewLosses repeats l) (λ _ _ _ f. f) (λ _ t l. few-more repeats t l)

pub moved_tried : (limit : ℕ) (terms : Terms) (ms : List Move) (d : Direction) → Tried terms d → Calms limit d ms
    → FewLosses terms.repeats (moved limit d ms).history.losses → Tried terms (moved limit d ms)
moved_tried limit terms [] d v c f = v
moved_tried limit terms (m ∷ ms) d v c f =
    moved_tried limit terms ms (move limit d m) (move-tried limit v (moved-few limit terms.repeats (m ∷ ms) d f) m c.0) c.1 f

-- ---- at rest

-- no wait or T3 running, and no frame due of the message lent
pub record Still (d : Direction) : Type 0 where
  pub wait : d.sender.wait ≡ 0
  pub gap : d.sender.gap ≡ 0
  pub nothing : frame_due d.sender ≡ true → length (lent d.history) ≡ d.sender.length → ⊥

-- then no message is in sending
pub all_done : {terms : Terms} {d : Direction} → Tried terms d → Still d → AllDone terms.repeats d.history
all_done {terms} {d} v r = go v.stage
  where
    go : Stage d → AllDone terms.repeats d.history
    go (vacant t q) =
        record {
          done = sym q.nothing.counted;
          bound = λ i h.
              subst (λ x. frames_for i d.history.frames ≤ (x.repeats + 1) * frames_of (length (get_or d.history.accepted i []))) v.steady.same
              (v.bounded.before i (omega (arith, q.nothing.counted)));
        }
    go (answered g old b a) = absurd (omega (arith, a.over.wait', r.wait))
    go (on_its_way g from b o) = absurd (pace o.pace)
      where
        pace : PaceOf g from d → ⊥
        pace (sending p) =
            let w = b.window in
            let n = p.next' in
            let more : d.sender.next < frames_of d.sender.length = omega arith in
            r.nothing
            (frame_due-due d.sender (record { sending = b.current.some; waited = r.wait; free = v.steady.hold'; apart = r.gap; more = more }))
            (ap (λ n. length (get_or d.history.accepted n [])) (omega (arith, b.current.counted)) ∙ sym b.current.same)
        pace (awaiting p h) = omega (arith, p.wait', r.wait)
