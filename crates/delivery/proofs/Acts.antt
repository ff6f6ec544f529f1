-- Every call at the near end of a system whose end is lawful, and so, with the system turned round, every call: one move of the core in each direction.
use Prim.Native.Nat.{ℕ}
use mathlib.Core.Bool.{Bool, true, false}
use mathlib.Core.List.{List, [], ◌∷◌}
use mathlib.Core.Path.{◌≡◌, refl, sym, subst}
use lib.ListN.{length}
use Rattle.telegram.specs.Kinds.{sorted}
use Rattle.telegram.specs.declared.kinds.Telegram.{Telegram}
use Rattle.channel.specs.declared.Channel.{Channel}
use Rattle.delivery.specs.End.{End}
use Rattle.delivery.specs.Line.{Line, line_arrive, line_buffered}
use Rattle.delivery.specs.System.{Party, Flying, History, System, Act, Fate, lent, sending, taking, timing, asking, arriving, missing, meeting, act}
use Rattle.delivery.specs.System.Act.{send, take as takes, time, due, arrive}
use Rattle.delivery.specs.System.Fate.{goes, stays, lost}
use Rattle.delivery.specs.Laws.{Tells, Lawful}
use Rattle.delivery.proofs.Directions.{Fits, Acted}
use Rattle.delivery.proofs.Steps.{line, idles, send-told, take-told, time-told, with-given, due-none, due-told}
use Rattle.delivery.proofs.Arrivals.{Left, open-arrives, closed-arrives, lost-arrives}
use Rattle.delivery.proofs.Arrivals.Left.{went, stayed}

module _ (limit : ℕ) (carried : Telegram → Type 0) (N F : End) (Tied : (receive transmit : ℕ) → N.State → Line → Type 0) (laws : Lawful limit carried N Tied)
    (receive transmit : ℕ) where
  abbrev ActedBy : Line → Line → Act → System N F → System N F → Type 0
  ActedBy n f a s t = Acted limit carried (Tied receive transmit) receive transmit n f a s t

  module _ (x : N.State) (b : List ℕ) (far : Party F) (nc : Channel) (f : Line) (fw : List Flying) (h k : History) (forward : Fits carried transmit fw) where
    abbrev with-link : List Flying → System N F
    with-link bw = record { near = record { state = x; buffer = b }; far = far; forward = fw; backward = bw; forth = h; back = k }

    due-moves : (bw : List Flying) → Fits carried receive bw → (live : Bool) → Tied receive transmit x (line nc live) → ActedBy (line nc live) f due (with-link bw) (asking (with-link bw))
    unfolding asking
    due-moves bw backward false t =
        due-none limit carried N F (Tied receive transmit) receive transmit x b far nc f fw bw h k forward backward (N.channel x) (N.due x (lent h)) (laws.hands t (lent h))
    due-moves bw backward true t =
        subst (λ (c : Channel). ActedBy (line nc true) f due (with-link bw) (with-given limit carried N F (Tied receive transmit) receive transmit x b far nc f fw bw h k forward backward c (N.due x (lent h))))
        (sym (laws.views t refl))
        (due-told limit carried N F (Tied receive transmit) receive transmit x b far nc f fw bw h k forward backward (N.due x (lent h)) (laws.hands t (lent h)))

    module _ (g : Flying) (behind : List Flying) (id : g.id ≡ receive) (kind : carried (sorted g.bytes).kind) where
      told : (live : Bool) → Tied receive transmit x (line nc live)
          → Tells (Tied receive transmit) (N.arrive x g.id g.bytes (length b)) (line_arrive limit (line nc live) g.bytes (length b))
      told live t =
          subst (λ (i : ℕ). Tells (Tied receive transmit) (N.arrive x i g.bytes (length b)) (line_arrive limit (line nc live) g.bytes (length b))) (sym id)
          (laws.arrives t g.bytes kind (length b))

      written : (live : Bool) → Tied receive transmit x (line nc live) → N.buffered x g.id g.bytes b ≡ line_buffered limit (line nc live) g.bytes b
      written live t = subst (λ (i : ℕ). N.buffered x i g.bytes b ≡ line_buffered limit (line nc live) g.bytes b) (sym id) (laws.buffers t g.bytes kind b)

      arrive-moves : (fate : Fate) (left : List Flying) → Left g behind fate left
          → Fits carried receive left → (live : Bool) → Tied receive transmit x (line nc live)
          → ActedBy (line nc live) f (arrive fate) (with-link (g ∷ behind)) (arriving (with-link (g ∷ behind)) g left)
      unfolding arriving
      arrive-moves fate left w fits false t =
          rw (laws.opens t, written false t)
          (closed-arrives limit carried N F (Tied receive transmit) receive transmit (λ y l t. laws.takes t) x b far nc f fw behind g h k forward w fits t
          (N.arrive x g.id g.bytes (length b)) (told false t) (sorted g.bytes).kind refl (laws.kinds kind))
      arrive-moves fate left w fits true t =
          rw (laws.opens t, written true t)
          (open-arrives limit carried N F (Tied receive transmit) receive transmit (λ y l t. laws.takes t) x b far nc f fw behind g h k forward w fits t
          (N.arrive x g.id g.bytes (length b)) (told true t) (sorted g.bytes).kind refl (laws.kinds kind))

      lost-moves : Fits carried receive behind → (n : Line) → Tied receive transmit x n → ActedBy n f (arrive lost) (with-link (g ∷ behind)) (missing (with-link (g ∷ behind)) g behind)
      unfolding missing
      lost-moves fits n t =
          lost-arrives limit carried N F (Tied receive transmit) receive transmit (λ y l t. laws.takes t) x b far nc f fw behind g h k forward t fits (sorted g.bytes).kind refl (laws.kinds kind)

    -- the first frame of the link
    meeting-moves : (fate : Fate) (bw : List Flying) → Fits carried receive bw → (live : Bool) → Tied receive transmit x (line nc live)
        → ActedBy (line nc live) f (arrive fate) (with-link bw) (meeting fate bw (with-link bw))
    meeting-moves fate [] fits live t = idles limit carried N F (Tied receive transmit) receive transmit x b far nc f fw [] h k forward fits t
    meeting-moves goes (g ∷ behind) fits live t = arrive-moves g behind fits.0 fits.1 goes behind went fits.2 live t
    meeting-moves stays (g ∷ behind) fits live t = arrive-moves g behind fits.0 fits.1 stays (g ∷ behind) stayed fits live t
    meeting-moves lost (g ∷ behind) fits live t = lost-moves g behind fits.0 fits.1 fits.2 (line nc live) t

  -- a call at the near end
  pub act-moves : (s : System N F) (n f : Line) (a : Act) → Tied receive transmit s.near.state n → Fits carried transmit s.forward → Fits carried receive s.backward
      → ActedBy n f a s (act s a)
  unfolding sending taking timing
  act-moves s n f (send m) t forward backward =
      send-told limit carried N F (Tied receive transmit) receive transmit s.near.state s.near.buffer s.far n.channel f s.forward s.backward s.forth s.back
      forward backward m n.live (N.send s.near.state (length m)) (laws.sends t (length m))
  act-moves s n f takes t forward backward =
      take-told limit carried N F (Tied receive transmit) receive transmit s.near.state s.near.buffer s.far n.channel f s.forward s.backward s.forth s.back
      forward backward n.live (N.take s.near.state (length s.near.buffer)) (laws.takes t (length s.near.buffer))
  act-moves s n f (time k) t forward backward =
      time-told limit carried N F (Tied receive transmit) receive transmit s.near.state s.near.buffer s.far n.channel f s.forward s.backward s.forth s.back
      forward backward k n.live (N.time s.near.state k) (laws.times t k)
  act-moves s n f due t forward backward =
      due-moves s.near.state s.near.buffer s.far n.channel f s.forward s.forth s.back forward s.backward backward n.live t
  act-moves s n f (arrive fate) t forward backward =
      meeting-moves s.near.state s.near.buffer s.far n.channel f s.forward s.forth s.back forward fate s.backward backward n.live t
