-- What is told of the sending half in numbers: how far it goes, and when its next frame is due.
use Prim.Native.Nat.{ℕ, ◌+◌, ◌*◌, ◌/◌, ◌%◌, ◌<◌, ◌≤◌}
use native.Mathlib.Nat.{div-eq_of_lt-le}
use native.Mathlib.Omega.{arith}
use mathlib.Core.Logic.{◌⊎◌, inl, inr}
use mathlib.Core.Path.{◌≡◌}
use Rattle.telegram.specs.Cutting.{frames_of}
use Rattle.sender.specs.declared.Terms.{Terms}
use Rattle.sender.specs.declared.Sender.{Sender}
use Rattle.sender.proofs.Frames.{Due}
use Rattle.reachable.specs.Reachable.{Sends}
use Rattle.reachable.proofs.Sending.{Half, Kept, busy-of}

-- the block of the frame behind k others
block_of : (size blocks k : ℕ) → blocks * size ≤ k → k < blocks * size + size → blocks * size + size ≡ size * (k / size + 1)
block_of size blocks k low high =
    let e : k / size ≡ blocks = div-eq_of_lt-le size low (omega arith) in
    rw e (omega arith)

frames-within : (n k : ℕ) → k ≤ frames_of n → 7 * k < n + 9
unfolding frames_of
frames-within n k h = omega arith

frames-more : (n k : ℕ) → k < frames_of n → 7 * k < n + 2
unfolding frames_of
frames-more n k h = omega arith

frames-all : (n k : ℕ) → k ≡ frames_of n → n + 2 ≤ 7 * k
unfolding frames_of
frames-all n k h = omega arith

pub kept-sends : {limit : ℕ} {t : Terms} {s : Sender} → Kept limit t s → Sends limit t s
kept-sends {limit} {t} {s} k = go k.half
  where
    go : Half t.block s → Sends limit t s
    go (inl i) =
        record {
          acked-next = omega (arith, i.acked, i.next);
          next-high = omega (arith, i.high, i.next);
          within = omega (arith, i.high, i.length');
          window = omega (arith, i.high);
          block-end = omega (arith, i.high);
          message = k.message;
          count = k.count;
          number = k.number;
          idle = λ _. (i.high, i.wait);
          inside = λ some. absurd (omega (arith, i.length'));
          asked = λ h. absurd (omega (arith, i.wait));
        }
    go (inr (q, b)) =
        let w = b.window in
        let e = block_of t.block q s.acked w.block-acked w.acked-block in
        record {
          acked-next = w.acked-next;
          next-high = w.next-high;
          within = frames-within s.length s.high w.high-all;
          window = omega (arith, w.high-block, w.block-acked);
          block-end = rw (← e) w.high-block;
          message = k.message;
          count = k.count;
          number = k.number;
          idle = λ z. absurd (omega (arith, w.some));
          inside = λ _ z. (frames-more s.length s.next (b.more z), rw (← e) (b.inside z));
          asked = λ h. told (b.asked h);
        }
      where
        told : (s.next % t.block ≡ 0) ⊎ (s.next ≡ frames_of s.length) → (s.next % t.block ≡ 0) ⊎ (s.length + 2 ≤ 7 * s.next)
        told (inl h) = inl h
        told (inr h) = inr (frames-all s.length s.next h)

-- with no wait, hold or T3 running, a message in sending has a frame due
pub kept-due : {limit : ℕ} {t : Terms} {s : Sender} → Kept limit t s → 0 < s.length → s.gap ≡ 0 → s.wait ≡ 0 → s.hold ≡ 0 → Due s
kept-due k some gap wait hold = record { sending = some; waited = wait; free = hold; apart = gap; more = (busy-of some k.half).1.more wait }
