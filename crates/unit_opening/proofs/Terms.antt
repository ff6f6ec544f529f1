-- 01, "Opening": what was agreed stays. No call of an open channel alters its terms, and so not its block size.
use Prim.Native.Nat.{ℕ}
use mathlib.Core.List.{List, [], ◌∷◌}
use mathlib.Core.Path.{◌≡◌, refl, ap, ◌∙◌}
use Rattle.laws.proofs.Cases.{by}
use Rattle.telegram.specs.declared.kinds.Telegram.{Telegram}
use Rattle.sender.specs.Sending.{handed}
use Rattle.sender.specs.declared.Terms.{Terms}
use Rattle.sender.specs.declared.Sender.{Sender}
use Rattle.sender.specs.declared.Handed.{Handed}
use Rattle.sender.specs.declared.Handing.{Handing}
use Rattle.sender.specs.declared.Handing.TheVariants.{Frame, Nothing, OtherLength}
use Rattle.sender.specs.declared.Passed.{Passed}
use Rattle.channel.specs.declared.Channel.{Channel}
use Rattle.channel.specs.declared.Answered.{Answered}
use Rattle.channel.specs.declared.Due.{Due}
use Rattle.channel.specs.Opened.{elapsed, due as channel_due, sent}
use Rattle.channel.proofs.Passing.{TimeOutcome, repeats-used-up, runs_on, tests-used-up, test-again, time-outcome}
use Rattle.channel.proofs.Handing.{DueOutcome, accept-goes, test-goes, ack-goes, frame-goes, none-goes, other_length, due-outcome}
use Rattle.delivery.specs.End.{Told, Taken, Given, End}
use Rattle.delivery.specs.Line.{Line, line_send, line_take, line_time, line_due}
use Rattle.delivery.specs.System.{System, Act, Fate, lent}
use Rattle.delivery.specs.System.Fate.{goes, stays, lost}
use Rattle.delivery.proofs.Core.{DataFrame, AckFrame, Direction, Move, move, hearing, receiving, handed_by}
use Rattle.delivery.proofs.Core.Move.{offer, hear, pass, hand, receive, taken, acknowledge, close_sending, close_receiving, rest}
use Rattle.delivery.proofs.Directions.{Acted}

-- what a line's channel was opened on
abbrev pub terms_of : Line → Terms
terms_of l = l.channel.parameters.terms

-- ---- a channel's calls

-- time passes
elapsed-terms : (c : Channel) (n : ℕ) → (elapsed c n).channel.parameters.terms ≡ c.parameters.terms
elapsed-terms c n = go (time-outcome c n)
  where
    go : {g : Passed} {x : Answered} → TimeOutcome c n g x → x.channel.parameters.terms ≡ c.parameters.terms
    go repeats-used-up = refl
    go (runs_on e w) = refl
    go (tests-used-up e w u) = refl
    go (test-again e w u) = refl

-- a frame is asked for
handed-terms : (c : Channel) (m : List ℕ) → (channel_due c m).channel.parameters.terms ≡ c.parameters.terms
handed-terms c m = go (due-outcome c m)
  where
    go : {h : Handed} {x : Due} → DueOutcome c h x → x.channel.parameters.terms ≡ c.parameters.terms
    go (accept-goes a) = refl
    go (test-goes a t) = refl
    go (ack-goes a t k) = refl
    go (frame-goes t) = refl
    go (none-goes t) = refl
    go (other_length t) = refl

-- the calls of a line to which no frame comes
module _ (l : Line) where
  pub send-terms : (limit n : ℕ) → terms_of (line_send limit l n).state ≡ terms_of l
  unfolding sent
  send-terms limit n = by (λ (x : Told Line). terms_of x.state ≡ terms_of l) l.live (λ e. refl) (λ e. refl)

  pub take-terms : (room : ℕ) → terms_of (line_take l room).state ≡ terms_of l
  take-terms room = by (λ (x : Taken Line). terms_of x.state ≡ terms_of l) l.live (λ e. refl) (λ e. refl)

  pub time-terms : (n : ℕ) → terms_of (line_time l n).state ≡ terms_of l
  time-terms n = by (λ (x : Told Line). terms_of x.state ≡ terms_of l) l.live (λ e. elapsed-terms l.channel n) (λ e. refl)

  pub due-terms : (m : List ℕ) → terms_of (line_due l m).state ≡ terms_of l
  due-terms m = by (λ (x : Given Line). terms_of x.state ≡ terms_of l) l.live (λ e. handed-terms l.channel m) (λ e. refl)

-- ---- a call at an end, by its moves

module _ (limit : ℕ) (d : Direction) where
  -- on the same terms
  abbrev Same : Direction → Type 0
  Same x = x.terms ≡ d.terms

  -- an Ack comes, or data; a frame goes
  heard-terms : (fate : Fate) (l : List AckFrame) → Same (hearing fate l d)
  heard-terms fate [] = refl
  heard-terms goes (f ∷ l) = by Same d.live (λ e. refl) (λ e. refl)
  heard-terms stays (f ∷ l) = by Same d.live (λ e. refl) (λ e. refl)
  heard-terms lost (f ∷ l) = refl

  received-terms : (fate : Fate) (l : List DataFrame) → Same (receiving limit fate l d)
  received-terms fate [] = refl
  received-terms goes (f ∷ l) = by Same d.listens (λ e. refl) (λ e. refl)
  received-terms stays (f ∷ l) = by Same d.listens (λ e. refl) (λ e. refl)
  received-terms lost (f ∷ l) = refl

  frame-terms : (note : Handing) (s : Sender) → Same (handed_by d note s)
  frame-terms (Frame p) s = refl
  frame-terms Nothing s = refl
  frame-terms OtherLength s = refl

  -- any move
  move-terms : (m : Move) → Same (move limit d m)
  move-terms (offer m) = by Same d.live (λ e. refl) (λ e. refl)
  move-terms (hear fate) = heard-terms fate d.acks
  move-terms (pass n) = by Same d.live (λ e. refl) (λ e. refl)
  move-terms hand = let h = handed d.terms d.sender (lent d.history) in by Same d.live (λ e. frame-terms h.note h.sender) (λ e. refl)
  move-terms (receive fate) = received-terms fate d.frames
  move-terms taken = by Same d.listens (λ e. refl) (λ e. refl)
  move-terms acknowledge = by Same d.listens (λ e. by Same d.receiver.ack.due (λ e. refl) (λ e. refl)) (λ e. refl)
  move-terms close_sending = refl
  move-terms close_receiving = refl
  move-terms rest = refl

-- any call, a frame that comes too
pub acted-terms : {limit : ℕ} {carried : Telegram → Type 0} {N F : End} {R : N.State → Line → Type 0} {r t : ℕ} {n f : Line} {a : Act} {s s' : System N F}
    (w : Acted limit carried R r t n f a s s') → terms_of w.line ≡ terms_of n
acted-terms {limit} w = ap (λ (d : Direction). d.terms) w.forth ∙ move-terms limit _ w.out
