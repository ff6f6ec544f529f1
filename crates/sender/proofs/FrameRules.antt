-- 01, "Sending" and "Cutting", rule by rule in numbers and bytes: when a frame is due, which it is, and what its hand-over leaves.
use Prim.Native.Nat.{ℕ, ◌+◌, ◌*◌, ◌/◌, ◌%◌, ◌≤◌, ◌<◌, max, ◌∣◌}
use native.Mathlib.Nat.{zero-add, dvd_iff_mod-eq-zero, mod-eq_of_lt, mod-add-mod}
use native.Mathlib.Omega.{arith}
use mathlib.Core.Bool.{true, false, or-true}
use mathlib.Core.List.{List, ◌∷◌}
use mathlib.Core.Logic.{◌↔◌, ◌≢◌}
use mathlib.Core.Path.{◌≡◌, sym, ap, ◌∙◌}
use lib.ListN.{length, take, drop}
use borrow.Author.Tests.{eq-eqb, ne_eqb}
use Rattle.laws.proofs.Cases.{either}
use Rattle.telegram.specs.Outgoing.{payload_of}
use Rattle.telegram.specs.Cutting.{frames_of, stream_of, header_of, frame_at}
use Rattle.sender.specs.declared.Terms.{Terms}
use Rattle.sender.specs.declared.Sender.{Sender}
use Rattle.sender.specs.declared.Handing.TheVariants.{Frame, Nothing as NoFrame, OtherLength}
use Rattle.sender.specs.Sending.{passed, frame_due, first_number, is_frame, handed_payload, handed}
use Rattle.sender.specs.declared.Passed.{Passed}
use Rattle.sender.proofs.Time.{TimeCase, no-wait, runs_on, wait-used-up, sends-again, time_case}
use Rattle.sender.proofs.Frames.{Due, frame_due-shows, frame_due-due, handed-frame, handed-exactly}
use Rattle.sender.proofs.Rules.{frames-more, frames-all}

-- ---- when a frame is due, and which

-- "with it over, and no wait for an Ack or hold running, the next frame of the message in sending is due"
pub record Ready (s : Sender) : Type 0 where
  pub sending : 0 < s.length
  pub waited : s.wait ≡ 0
  pub free : s.hold ≡ 0
  pub apart : s.gap ≡ 0
  pub more : 7 * s.next < s.length + 2

ready-due : (s : Sender) → Ready s → Due s
ready-due s r = record { sending = r.sending; waited = r.waited; free = r.free; apart = r.apart; more = (frames-more s.length s.next).1 r.more }

due-ready : (s : Sender) → Due s → Ready s
due-ready s d = record { sending = d.sending; waited = d.waited; free = d.free; apart = d.apart; more = (frames-more s.length s.next).0 d.more }

-- a frame is due exactly then
pub frame_due-exactly : (s : Sender) → frame_due s ≡ true ↔ Ready s
frame_due-exactly s = (λ e. due-ready s (frame_due-shows s e), λ r. frame_due-due s (ready-due s r))

-- the next frame's number: as far from the oldest unacknowledged frame's, modulo 16, as the frame itself lies from that frame
pub record Numbered (s : Sender) (number : ℕ) : Type 0 where
  pub small : number < 16
  pub apart : (number + s.acked) % 16 ≡ (s.oldest + s.next) % 16

-- x frames on, it is x more
pub numbered-ahead : (s : Sender) (x : ℕ) → s.next ≡ s.acked + x → Numbered s ((s.oldest + x) % 16)
numbered-ahead s x e = omega arith

cancel : (x y z : ℕ) → (x + z) % 16 ≡ (y + z) % 16 → x % 16 ≡ y % 16
cancel x y z e = omega arith

-- the first frame's number leads to the oldest unacknowledged one's
first-leads : (s : Sender) → (first_number s + s.acked) % 16 ≡ s.oldest % 16
unfolding first_number
first-leads s = omega arith

shift : (f a o b : ℕ) → (f + a) % 16 ≡ o % 16 → (f + b + a) % 16 ≡ (o + b) % 16
shift f a o b e = ap (λ (x : ℕ). x % 16) (omega arith) ∙ sym (mod-add-mod (f + a) 16 b) ∙ ap (λ (x : ℕ). (x + b) % 16) e ∙ mod-add-mod o 16 b

number_is : (s : Sender) (number : ℕ) → Numbered s number → (first_number s + s.next) % 16 ≡ number
number_is s number n =
    cancel (first_number s + s.next) number s.acked (shift (first_number s) s.acked s.oldest s.next (first-leads s) ∙ sym n.apart) ∙ mod-eq_of_lt n.small

module _ (t : Terms) (s : Sender) (m : List ℕ) (ready : Ready s) (lent : length m ≡ s.length) (number : ℕ) (numbered : Numbered s number) where
  -- a frame inside a block, without AR and EOM: T3 starts, no wait does, and one frame more was handed over unless this is a repeat
  pub frame-middle : (t.block ∣ s.next + 1 → ⊥) → 7 * (s.next + 1) < s.length + 2 → handed t s m
      ≡ record {
        note = Frame (payload_of ((0x20 + number) ∷ take 7 (drop (7 * s.next) (length m / 256 % 16 ∷ length m % 256 ∷ m))));
        sender = record { length = s.length; acked = s.acked; high = max s.high (s.next + 1); next = s.next + 1; oldest = s.oldest; count = s.count; wait = 0; hold = s.hold; gap = t.t3 };
      }
  unfolding frame_at header_of stream_of
  frame-middle inside more =
      let p = ne_eqb ((s.next + 1) % t.block) 0 λ e. inside ((dvd_iff_mod-eq-zero t.block).1 e) in
      let q = ne_eqb (s.next + 1) (frames_of s.length) λ e. let f = (frames-all s.length (s.next + 1)).0 e in omega arith in
      rw (handed-frame t s m (ready-due s ready) lent, number_is s number numbered, lent, p, q)

  -- the last of a block, "whose place in the message (from 1) is a multiple of the block size": AR, and "After the frame with AR the sender waits its own T1"
  pub frame-block-end : t.block ∣ s.next + 1 → 7 * (s.next + 1) < s.length + 2 → handed t s m
      ≡ record {
        note = Frame (payload_of (number ∷ take 7 (drop (7 * s.next) (length m / 256 % 16 ∷ length m % 256 ∷ m))));
        sender = record { length = s.length; acked = s.acked; high = max s.high (s.next + 1); next = s.next + 1; oldest = s.oldest; count = s.count; wait = t.t1; hold = s.hold; gap = t.t3 };
      }
  unfolding frame_at header_of stream_of
  frame-block-end end more =
      let p = eq-eqb ((s.next + 1) % t.block) 0 ((dvd_iff_mod-eq-zero t.block).0 end) in
      let q = ne_eqb (s.next + 1) (frames_of s.length) λ e. let f = (frames-all s.length (s.next + 1)).0 e in omega arith in
      rw (handed-frame t s m (ready-due s ready) lent, number_is s number numbered, lent, p, q, zero-add number)

  -- "EOM on the last", and AR with the wait too
  pub frame-last : s.length + 2 ≤ 7 * (s.next + 1) → handed t s m
      ≡ record {
        note = Frame (payload_of ((0x10 + number) ∷ take 7 (drop (7 * s.next) (length m / 256 % 16 ∷ length m % 256 ∷ m))));
        sender = record { length = s.length; acked = s.acked; high = max s.high (s.next + 1); next = s.next + 1; oldest = s.oldest; count = s.count; wait = t.t1; hold = s.hold; gap = t.t3 };
      }
  unfolding frame_at header_of stream_of
  frame-last all =
      let q = eq-eqb (s.next + 1) (frames_of s.length) ((frames-all s.length (s.next + 1)).1 (all, omega arith)) in
      rw (handed-frame t s m (ready-due s ready) lent, number_is s number numbered, lent, q, or-true)

module _ (t : Terms) (s : Sender) (m : List ℕ) where
  -- a frame is handed over exactly where one is due and its message is lent
  pub frame-exactly : (is_frame (handed t s m).note ≡ true) ↔ (Ready s × length m ≡ s.length)
  frame-exactly =
      (λ e. let h = (handed-exactly t s m).0 e in (due-ready s h.0, h.1), λ h. (handed-exactly t s m).1 (ready-due s h.0, h.1))

  -- row 7, "lent message not of the accepted length": nothing changes
  pub frame-other-length : Ready s → length m ≢ s.length → handed t s m ≡ record { note = OtherLength; sender = s }
  unfolding handed
  frame-other-length r other = rw (frame_due-due s (ready-due s r), ne_eqb (length m) s.length other)

  -- no frame is due: none is handed over, and nothing changes
  pub frame-none : (Ready s → ⊥) → handed t s m ≡ record { note = NoFrame; sender = s }
  unfolding handed
  frame-none none = either (frame_due s) (λ e. absurd (none (due-ready s (frame_due-shows s e)))) (λ e. rw e)

-- ---- frame after frame

-- while T3 runs no frame is due
gap_runs : (t : Terms) (s : Sender) (n : ℕ) → n < s.gap → frame_due (passed t s n).sender ≡ false
gap_runs t s n h =
    let runs = go (time_case t s n) in
    either (frame_due (passed t s n).sender) (λ e. let d = frame_due-shows (passed t s n).sender e in absurd (omega arith)) (λ e. e)
  where
    go : {x : Passed} → TimeCase t s n x → 0 < x.sender.gap
    go (no-wait _) = omega arith
    go (runs_on _) = omega arith
    go (wait-used-up _ _) = omega arith
    go (sends-again _ _) = omega arith

first_small : (s : Sender) → first_number s < 16
unfolding first_number
first_small s = omega arith

only : (f g a b : ℕ) → f < 16 → g < 16 → (f + b + a) % 16 ≡ (g + a + b) % 16 → f ≡ g
only f g a b p q e = omega arith

-- the first frame of a message has one number, wherever its sending stands
first-same : (s x : Sender) → (s.oldest + x.acked) % 16 ≡ (x.oldest + s.acked) % 16 → first_number s ≡ first_number x
first-same s x e =
    let same : (first_number s + x.acked + s.acked) % 16 ≡ (first_number x + s.acked + x.acked) % 16 =
    shift (first_number s) s.acked s.oldest x.acked (first-leads s) ∙ e ∙ sym (shift (first_number x) x.acked x.oldest s.acked (first-leads x)) in
    only (first_number s) (first_number x) s.acked x.acked (first_small s) (first_small x) same

-- "At least the peer's T3 lies between data frames": after a hand-over no other is due until T3 has passed
pub frame_apart : (t : Terms) (s : Sender) (m : List ℕ) (n : ℕ) → is_frame (handed t s m).note ≡ true → n < t.t3 → frame_due (passed t (handed t s m).sender n).sender ≡ false
frame_apart t s m n e h =
    let f = (handed-exactly t s m).0 e in
    let starts : (handed t s m).sender.gap ≡ t.t3 = rw (handed-frame t s m f.0 f.1) in
    gap_runs t (handed t s m).sender n (omega arith)

-- "A repeated frame has the same bytes as at first": they hang on its place, the message, the block size and the number of the message's first frame
pub frame-repeated : (t : Terms) (s x : Sender) (m : List ℕ) → Ready s → Ready x → length m ≡ s.length → length m ≡ x.length → s.next ≡ x.next
    → (s.oldest + x.acked) % 16 ≡ (x.oldest + s.acked) % 16 → handed_payload (handed t s m).note ≡ handed_payload (handed t x m).note
frame-repeated t s x m r q lent same place number =
    rw (handed-frame t s m (ready-due s r) lent, handed-frame t x m (ready-due x q) same, first-same s x number, place)
