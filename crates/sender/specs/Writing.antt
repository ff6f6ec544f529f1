-- A message written to a peer that answers at once: offered, then each frame called for, answered, and T3 let pass.
use Rattle.std.specs.Prelude.{ℕ, zero, suc, ◌+◌, ◌%◌, true, List, [], ◌∷◌, length, if◌then◌else◌}
use Rattle.telegram.specs.Outgoing.{bytes_of}
use Rattle.telegram.specs.Cutting.{frames_of, asks_at}
use Rattle.sender.specs.declared.Terms.{Terms}
use Rattle.sender.specs.declared.Sender.{Sender}
use Rattle.sender.specs.declared.Heard.{Heard}
use Rattle.sender.specs.declared.Hearing.{Hearing}
use Rattle.sender.specs.declared.Hearing.TheVariants.{Nothing}
use Rattle.sender.specs.Sending.{offered, handed, handed_payload, on_ack, ignored, passed}

-- the frames that went out, what the last Ack did, and the sender that is left
pub record Written : Type 0 where
  pub frames : List (List ℕ)
  pub note : Hearing
  pub sender : Sender

-- a frame, and then the rest
abbrev pub before : List ℕ → Written → Written
before f w = record { frames = f ∷ w.frames; note = w.note; sender = w.sender }

-- the peer's answer to frame k of a message whose first frame has the given number: to one with AR, a ready Ack with the number of the frame after it
abbrev pub answered : Terms → List ℕ → (first k : ℕ) → Sender → Heard
answered t m first k s = if asks_at t.block (length m) k then on_ack t s true ((first + k + 1) % 16) else ignored s

-- n turns, from frame k on
unfoldable pub turns : Terms → List ℕ → (first n k : ℕ) → Sender → Hearing → Written
turns t m first zero k s note = record { frames = []; note = note; sender = s }
turns t m first (suc n) k s note =
    let h = handed t s m in
    let a = answered t m first k h.sender in
    before (bytes_of (handed_payload h.note)) (turns t m first n (k + 1) (passed t a.sender t.t3).sender a.note)

-- a message offered, then as many turns as it has frames
abbrev pub written : (limit : ℕ) → Terms → Sender → List ℕ → Written
written limit t s m = turns t m s.oldest (frames_of (length m)) 0 (offered limit s (length m)).sender Nothing
