-- What an open channel hands over is an A1, a test, an Ack or data, and is sorted as one.
use Prim.Native.Nat.{ℕ, ◌%◌}
use native.Mathlib.Omega.{arith}
use native.Mathlib.Nat.{mod-mod, mod-lt}
use mathlib.Core.Bool.{Bool, true, false, false≢true}
use mathlib.Core.List.{List}
use mathlib.Core.Path.{◌≡◌, refl, sym, subst}
use Rattle.std.specs.Option.{is_some}
use Rattle.telegram.specs.Outgoing.{bytes_of}
use Rattle.telegram.specs.Kinds.{sorted, ack_of}
use Rattle.telegram.specs.declared.kinds.Sorted.{Sorted}
use Rattle.telegram.specs.declared.kinds.Telegram.{Telegram}
use Rattle.telegram.specs.declared.kinds.Telegram.TheVariants.{Data, Ack, Test, Accept}
use Rattle.telegram.specs.declared.payload.Payload.{Payload}
use Rattle.telegram.proofs.RoundTrip.{accept-sorted, test-sorted, ack-sorted, frame-sorted}
use Rattle.sender.specs.Sending.{handed, first_number, is_frame, handed_payload}
use Rattle.sender.specs.declared.Terms.{Terms}
use Rattle.sender.specs.declared.Sender.{Sender}
use Rattle.sender.specs.declared.Handed.{Handed}
use Rattle.sender.proofs.Frames.{handed-exactly, handed-frame}
use Rattle.channel.specs.declared.Channel.{Channel}
use Rattle.channel.specs.declared.Due.{Due}
use Rattle.channel.specs.Opened.{test_due, given_payload, due}
use Rattle.channel.proofs.Handing.{DueOutcome, accept-goes, test-goes, ack-goes, frame-goes, none-goes, other_length, due-outcome}
use Rattle.delivery.specs.Laws.{Carried}

-- an Ack is sorted as one with its number modulo 16
pub ack-any : (ready : Bool) (n : ℕ) → sorted (bytes_of (ack_of ready n)) ≡ record { kind = Ack ready (n % 16); padded = false }
ack-any ready n = rw (mod-mod n 16) at (ack-sorted ready (n % 16) (mod-lt n (omega arith)))

-- what holds of data and Acks, and of our A1 and a test where these are due, holds of what is due
module _ (P : Telegram → Type 0) (is-data : (asks last : Bool) (n : ℕ) → P (Data asks last n)) (is-ack : (ready : Bool) (n : ℕ) → P (Ack ready n)) where
  -- a telegram, as it is sorted
  abbrev Is : Payload → Type 0
  Is p = P (sorted (bytes_of p)).kind

  sorted-as : {x y : Sorted} → x ≡ y → P y.kind → P x.kind
  sorted-as e k = subst (λ (x : Sorted). P x.kind) (sym e) k

  -- a frame of the sending half is sorted as data
  frame_is : (t : Terms) (s : Sender) (m : List ℕ) → is_frame (handed t s m).note ≡ true → Is (handed_payload (handed t s m).note)
  frame_is t s m e =
      let h = (handed-exactly t s m).0 e in
      rw (handed-frame t s m h.0 h.1) (sorted-as (frame-sorted m t.block (first_number s) s.next (rw h.1 h.0.more)) (is-data _ _ _))

  module _ (c : Channel) (is-accept : c.accept ≡ true → P (Accept c.parameters.own)) (is-test : test_due c ≡ true → P Test) where
    pub due-is : (m : List ℕ) → is_some (due c m).payload ≡ true → P (sorted (bytes_of (given_payload (due c m).payload))).kind
    due-is m = go (frame_is c.parameters.terms c.sender m) (due-outcome c m)
      where
        go : {h : Handed} {x : Due} → (is_frame h.note ≡ true → Is (handed_payload h.note)) → DueOutcome c h x → is_some x.payload ≡ true → Is (given_payload x.payload)
        go f (accept-goes a) e = sorted-as (accept-sorted c.parameters.own) (is-accept a)
        go f (test-goes a t) e = sorted-as test-sorted (is-test t)
        go f (ack-goes a t k) e = sorted-as (ack-any c.receiver.ack.ready c.receiver.ack.number) (is-ack _ _)
        go f (frame-goes t) e = f refl
        go f (none-goes t) e = absurd (false≢true e)
        go f (other_length t) e = absurd (false≢true e)

-- so it is of a kind that the links carry
pub due-carried : (c : Channel) (m : List ℕ) → is_some (due c m).payload ≡ true → Carried (sorted (bytes_of (given_payload (due c m).payload))).kind
due-carried c = due-is Carried (λ _ _ _. tt) (λ _ _. tt) c (λ _. tt) (λ _. tt)
