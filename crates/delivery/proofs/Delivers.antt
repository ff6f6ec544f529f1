-- One direction, after every list of moves: what is handed out is what was accepted; done means complete there; given up means whole or never.
-- Whatever makes of its calls a list of moves of a direction (`moved`) has all of this of that direction.
use Prim.Native.Nat.{ℕ, ◌+◌, ◌≤◌, ◌<◌}
use native.Mathlib.Omega.{arith}
use mathlib.Core.Bool.{false, not}
use mathlib.Core.List.{List, [], ◌∷◌, map}
use mathlib.Core.Logic.{◌⊎◌, inl, inr}
use mathlib.Core.Path.{◌≡◌, refl, ap, subst, sym, ◌∙◌}
use lib.ListN.{length, get_or, take}
use lib.Seq.{take_all}
use Rattle.laws.proofs.Cases.{by-lt}
use Rattle.sender.specs.declared.Sender.{Sender}
use Rattle.delivery.specs.System.{shown_of, plain}
use Rattle.delivery.specs.Claim.{Within}
use Rattle.delivery.proofs.Core.{Direction, Move, move, moved}
use Rattle.delivery.proofs.Invariant.{Half, Sending, Complete, Content, Kept}
use Rattle.delivery.proofs.ReceivingKeeps.{done-complete}
use Rattle.delivery.proofs.Moves.{Closed, Unforced, GaveUp, within_first, move-keeps, move-closed, move-gave-up, moved-held}

-- ---- lists of moves

pub moved-within : (limit room : ℕ) (ms : List Move) (d : Direction) → Within room (moved limit d ms).history.accepted → Within room d.history.accepted
moved-within limit room = moved-held limit (λ a _. Within room a) (λ a m _. within_first room a (m ∷ [])) (λ _ _ _ w. w)

pub moved_keeps : (limit room : ℕ) → limit ≤ 4095 → (ms : List Move) (d : Direction) → Kept limit room d
    → Within room (moved limit d ms).history.accepted → Kept limit room (moved limit d ms)
moved_keeps limit room small [] d k w = k
moved_keeps limit room small (m ∷ ms) d k w =
    moved_keeps limit room small ms (move limit d m) (move-keeps small (moved-within limit room (m ∷ ms) d w) k m) w

pub moved-closed : (limit : ℕ) (ms : List Move) (d : Direction) → d.live ≡ false → Closed d (moved limit d ms)
moved-closed limit [] d c = record { live' = c; accepted = refl; done = refl }
moved-closed limit (m ∷ ms) d c =
    let a = move-closed limit d c m in
    let b = moved-closed limit ms (move limit d m) a.live' in
    record { live' = b.live'; accepted = b.accepted ∙ a.accepted; done = b.done ∙ a.done }

-- no move of the list closes the sending end for another cause than its own repeats
abbrev pub AllUnforced : List Move → Type 0
AllUnforced [] = Unit {0}
AllUnforced (m ∷ ms) = Unforced m × AllUnforced ms

pub moved-gave-up : (limit room : ℕ) → limit ≤ 4095 → (ms : List Move) (d : Direction) → Kept limit room d → Within room (moved limit d ms).history.accepted
    → GaveUp d → AllUnforced ms → GaveUp (moved limit d ms)
moved-gave-up limit room small [] d k w b u = b
moved-gave-up limit room small (m ∷ ms) d k w b u =
    moved-gave-up limit room small ms (move limit d m) (move-keeps small (moved-within limit room (m ∷ ms) d w) k m) w (move-gave-up k b m u.0) u.1

-- ---- what the direction promises

-- the message waits complete in the buffer: a take shows exactly it
pub record Ready (d : Direction) (m : List ℕ) : Type 0 where
  pub some : 1 ≤ d.receiver.complete.length
  pub fits : d.receiver.complete.length ≤ length d.buffer
  pub front : shown_of d.receiver.complete d.buffer ≡ plain m

pub record Delivers (limit : ℕ) (d : Direction) : Type 0 where
  pub in_order : d.history.handed_out ≡ map plain (take (length d.history.handed_out) d.history.accepted)
  -- each message done is handed out, or the next to be and waits complete
  pub done : (i : ℕ) → i < d.history.done
      → (i < length d.history.handed_out) ⊎ ((length d.history.handed_out ≡ i) × Ready d (get_or d.history.accepted i []))
  -- a message that waits is the next to be handed out
  pub waits : 1 ≤ d.receiver.complete.length → Ready d (get_or d.history.accepted (length d.history.handed_out) []) × (length d.history.handed_out < length d.history.accepted)
  -- at most the last message accepted is not done
  pub last : length d.history.accepted ≤ d.history.done + 1
  -- the sending end is open exactly as long as it did not answer 8
  pub closed : d.live ≡ not d.history.eight
  -- a message not done when the sending end has answered 8 is handed out whole or no part of it ever is
  pub whole_or_never : d.live ≡ false → length d.history.accepted ≡ d.history.done + 1 → (ms : List Move)
      → (length (moved limit d ms).history.handed_out ≤ d.history.done) ⊎ ((moved limit d ms).history.handed_out ≡ map plain d.history.accepted)

-- at most one message accepted is not done
last-undone : {limit done size used block : ℕ} {accepted : List (List ℕ)} {m : List ℕ} {s : Sender} → Half limit accepted done size used block m s
    → length accepted ≤ done + 1
last-undone (inl i) = omega (arith, i.counted)
last-undone (inr b) = omega (arith, b.counted)

done-most : {limit done size used block : ℕ} {accepted : List (List ℕ)} {m : List ℕ} {s : Sender} → Half limit accepted done size used block m s
    → done ≤ length accepted
done-most (inl i) = omega (arith, i.counted)
done-most (inr b) = omega (arith, b.counted)

-- what waits in the buffer is the message behind those handed out
waits-next : {limit size used block : ℕ} {d : Direction} → Sending limit d.history size used block d.sender → Content used d.history d.receiver d.buffer
    → 1 ≤ d.receiver.complete.length
    → Ready d (get_or d.history.accepted (length d.history.handed_out) []) × (length d.history.handed_out < length d.history.accepted)
waits-next {used = used} {d = d} half held some = go held
  where
    found : (count : ℕ) → count ≤ length d.history.accepted
        → Complete count d.history.accepted d.history.handed_out d.receiver.complete d.buffer
        → Ready d (get_or d.history.accepted (length d.history.handed_out) []) × (length d.history.handed_out < length d.history.accepted)
    found count most (inl o) = absurd (omega (arith, o.none))
    found count most (inr w) = (record { some = w.some; fits = w.fits; front = w.front }, omega (arith, w.all))

    go : Content used d.history d.receiver d.buffer
        → Ready d (get_or d.history.accepted (length d.history.handed_out) []) × (length d.history.handed_out < length d.history.accepted)
    go (inl b) = found d.history.done (done-most half) b.complete
    go (inr (inl p)) = absurd (omega (arith, p.complete.none))
    go (inr (inr w)) = found (d.history.done + 1) (omega (arith, w.counted)) w.complete

whole-or-never : (limit room : ℕ) → limit ≤ 4095 → (d : Direction) → Kept limit room d → Within room d.history.accepted
    → d.live ≡ false → length d.history.accepted ≡ d.history.done + 1 → (ms : List Move)
    → (length (moved limit d ms).history.handed_out ≤ d.history.done) ⊎ ((moved limit d ms).history.handed_out ≡ map plain d.history.accepted)
whole-or-never limit room small d k w shut one ms =
    let c = moved-closed limit ms d shut in
    let k' = moved_keeps limit room small ms d k (subst (Within room) (sym c.accepted) w) in
    let h = (moved limit d ms).history.handed_out in
    let o : h ≡ map plain (take (length h) d.history.accepted) = k'.4.in_order ∙ ap (λ (ms : List (List ℕ)). map plain (take (length h) ms)) c.accepted in
    by-lt (λ (_ : ℕ). (length h ≤ d.history.done) ⊎ (h ≡ map plain d.history.accepted)) d.history.done (length h) {x = 0} {y = 0}
    (λ l. inr (o ∙ ap (map plain) (take_all (length h) d.history.accepted (omega arith))))
    λ l. inl l

pub delivers : (limit room : ℕ) → limit ≤ 4095 → (d : Direction) → Kept limit room d → Within room d.history.accepted → Delivers limit d
delivers limit room small d k w =
    let v = k.4 in
    record {
      in_order = v.in_order;
      done = λ i h. ready (done-complete v i h);
      waits = λ h. waits-next v.sending v.content h;
      last = last-undone v.sending;
      closed = v.eight;
      whole_or_never = whole-or-never limit room small d k w;
    }
  where
    ready : {i : ℕ}
        → (i < length d.history.handed_out)
        ⊎ ((length d.history.handed_out ≡ i) × (1 ≤ d.receiver.complete.length) × (d.receiver.complete.length ≤ length d.buffer)
        × (shown_of d.receiver.complete d.buffer ≡ plain (get_or d.history.accepted i [])))
        → (i < length d.history.handed_out) ⊎ ((length d.history.handed_out ≡ i) × Ready d (get_or d.history.accepted i []))
    ready (inl h) = inl h
    ready (inr p) = inr (p.0, record { some = p.1; fits = p.2; front = p.3 })
