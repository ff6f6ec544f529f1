-- What every call keeps of the sending half.
use Prim.Native.Nat.{ℕ, suc, ◌+◌, ◌*◌, ◌%◌, ◌<◌, ◌≤◌, max, zero-le}
use native.Mathlib.Nat.{mod-lt, mul-mod_left}
use native.Mathlib.Omega.{arith}
use mathlib.Core.Bool.{Bool, true, false}
use mathlib.Core.List.{List}
use mathlib.Core.Logic.{◌≢◌, ◌⊎◌, inl, inr}
use mathlib.Core.Path.{◌≡◌, refl, ap, ◌∙◌}
use lib.Dec.{eqb}
use borrow.Author.Tests.{eqb-true, eqb-false}
use Rattle.laws.proofs.Cases.{by, by-lt, either, or-first, or-second}
use Rattle.telegram.specs.Cutting.{frames_of, asks_at, last_at}
use Rattle.telegram.specs.declared.kinds.Telegram.{Telegram}
use Rattle.telegram.specs.declared.kinds.Telegram.TheVariants.{Data, Ack, Test, Break, Disconnect, Setup, Accept, Malformed}
use Rattle.sender.specs.declared.Terms.{Terms}
use Rattle.sender.specs.declared.Sender.{Sender}
use Rattle.sender.specs.declared.Offered.{Offered}
use Rattle.sender.specs.declared.Heard.{Heard}
use Rattle.sender.specs.declared.Passed.{Passed}
use Rattle.sender.specs.declared.Handed.{Handed}
use Rattle.sender.specs.Sending.{fresh, accepted, offered, distance, from, acknowledged, again, later, onward, advanced, on_ack, heard, passed, handed}
use Rattle.sender.proofs.Offers.{OfferCase, unfinished, no_bytes, too_long, accepts, offer_case}
use Rattle.sender.proofs.Acks.{AckCase, no-message, in-hold, repeated, beyond, ack-used-up, held_back, all-acked, part-acked, ack_case}
use Rattle.sender.proofs.Time.{TimeCase, no-wait, runs_on, wait-used-up, sends-again, time_case}
use Rattle.sender.proofs.Frames.{Due, FrameCase, none-due, other_length, frame-out, frame_case}
use Rattle.reachable.specs.Reachable.{Agreed}

-- no message in sending
pub record Idle (s : Sender) : Type 0 where
  pub length' : s.length ≡ 0
  pub acked : s.acked ≡ 0
  pub high : s.high ≡ 0
  pub next : s.next ≡ 0
  pub wait : s.wait ≡ 0

-- how far a message is, with so many blocks of it acknowledged
pub record Window (size blocks length acked next high : ℕ) : Type 0 where
  pub some : 1 ≤ length
  pub acked-next : acked ≤ next
  pub next-high : next ≤ high
  pub high-all : high ≤ frames_of length
  pub acked-all : acked < frames_of length
  pub block-acked : blocks * size ≤ acked
  pub acked-block : acked < blocks * size + size
  pub high-block : high ≤ blocks * size + size

-- a message in sending
pub record Busy (size blocks : ℕ) (s : Sender) : Type 0 where
  pub window : Window size blocks s.length s.acked s.next s.high
  -- while no Ack is awaited, the next frame lies in the block and in the message
  pub inside : s.wait ≡ 0 → s.next < blocks * size + size
  pub more : s.wait ≡ 0 → s.next < frames_of s.length
  -- an Ack is awaited behind the last frame of a block or of the message
  pub asked : 0 < s.wait → (s.next % size ≡ 0) ⊎ (s.next ≡ frames_of s.length)

abbrev pub Half : (size : ℕ) → Sender → Type 0
Half size s = Idle s ⊎ ((blocks : ℕ) × Busy size blocks s)

pub record Kept (limit : ℕ) (t : Terms) (s : Sender) : Type 0 where
  pub message : s.length ≤ limit
  pub count : s.count ≤ t.repeats
  pub number : s.oldest < 16
  pub half : Half t.block s

pub busy-of : {size : ℕ} {s : Sender} → 0 < s.length → Half size s → (blocks : ℕ) × Busy size blocks s
busy-of h (inl i) = absurd (omega (arith, i.length'))
busy-of h (inr b) = b

-- an Ack is awaited only for a message in sending
waits-busy : {size : ℕ} {s : Sender} → 0 < s.wait → Half size s → (blocks : ℕ) × Busy size blocks s
waits-busy h (inl i) = absurd (omega (arith, i.wait))
waits-busy h (inr b) = b

pub fresh_kept : (limit : ℕ) (t : Terms) → Kept limit t fresh
fresh_kept limit t = record { message = zero-le; count = omega arith; number = omega arith; half = inl (record { length' = refl; acked = refl; high = refl; next = refl; wait = refl }) }

-- ---- over bare numbers

-- the block that goes on from what is acknowledged, or the next one
next-block : (size blocks acked high : ℕ) → 1 ≤ size → blocks * size ≤ acked → acked ≤ high → high ≤ blocks * size + size
    → (q : ℕ) × (q * size ≤ acked) × (acked < q * size + size) × (high ≤ q * size + size)
next-block size blocks acked high a b c d =
    by-lt (λ (q : ℕ). (q : ℕ) × (q * size ≤ acked) × (acked < q * size + size) × (high ≤ q * size + size)) acked (blocks * size + size)
    {x = blocks} {y = blocks}
    (λ h. (blocks, b, h, d))
    (λ h. (blocks + 1, omega arith, omega arith, omega arith))

-- behind a frame without AR the next one lies in the block still
block-goes-on : (size blocks next : ℕ) → next < blocks * size + size → (next + 1) % size ≢ 0 → next + 1 < blocks * size + size
block-goes-on size blocks next b other =
    by-lt (λ (_ : ℕ). next + 1 < blocks * size + size) (next + 1) (blocks * size + size) {x = 0} {y = 0} (λ h. h) λ h.
    absurd (other (ap (λ (n : ℕ). n % size) (let e : next + 1 ≡ suc blocks * size = omega arith in e) ∙ mul-mod_left (suc blocks) size))

-- a frame with AR is the last of a block or of the message
asks-told : (size n k : ℕ) → asks_at size n k ≡ true → ((k + 1) % size ≡ 0) ⊎ (k + 1 ≡ frames_of n)
asks-told size n k e =
    either (eqb ((k + 1) % size) 0) (λ f. inl (eqb-true _ _ f))
    (λ f. inr (eqb-true _ _ (rw f at e)))

frames-some : (n : ℕ) → 1 ≤ n → 1 ≤ frames_of n
unfolding frames_of
frames-some n h = omega arith

-- ---- the calls

module _ {limit : ℕ} {t : Terms} {s : Sender} (fair : Agreed t) (k : Kept limit t s) where
  -- on from frame i of the message, the oldest unacknowledged one, with no wait
  from-kept : {blocks : ℕ} (i o n pause gap : ℕ) → Window t.block blocks s.length i i s.high → o < 16 → n ≤ t.repeats → Kept limit t (from s i o n pause gap)
  from-kept {blocks} i o n pause gap w number count =
      record {
        message = k.message;
        count = count;
        number = number;
        half = inr (blocks, record { window = w; inside = λ _. w.acked-block; more = λ _. w.acked-all; asked = λ h. absurd (omega arith) });
      }

  -- one more repeat, from the oldest unacknowledged frame
  again_kept : {blocks : ℕ} → Busy t.block blocks s → s.count < t.repeats → (pause gap : ℕ) → Kept limit t (again s pause gap)
  again_kept {blocks} b few pause gap = let w = b.window in from-kept {blocks = blocks} s.acked s.oldest (s.count + 1) pause gap (omega arith) k.number (omega arith)

  -- d more frames acknowledged, and more to come
  part-kept : {blocks : ℕ} → Busy t.block blocks s → (d pause : ℕ) → s.acked + d ≤ s.high → s.acked + d ≢ frames_of s.length → Kept limit t (acknowledged s d pause)
  part-kept {blocks} b d pause within other =
      let w = b.window in
      let g = next-block t.block blocks (s.acked + d) s.high fair.least (omega arith) within w.high-block in
      from-kept {blocks = g.0} (s.acked + d) ((s.oldest + d) % 16) 0 pause s.gap (omega arith) (mod-lt (s.oldest + d) (omega arith)) zero-le

  pub ack-kept : (ready : Bool) (number : ℕ) → Kept limit t (on_ack t s ready number).sender
  ack-kept ready number = go (ack_case t s ready number)
    where
      go : {x : Heard} → AckCase t s ready number x → Kept limit t x.sender
      go (no-message _) = k
      go (in-hold _ _) = k
      go (repeated _ _ _) = k
      go (beyond _ _ _) = k
      go (ack-used-up _ _) = k
      go (held_back a few) = again_kept (busy-of a.counts.sending k.half).1 few _ _
      go (all-acked a _) =
          record {
            message = zero-le;
            count = omega arith;
            number = mod-lt (s.oldest + distance s number) (omega arith);
            half = inl (record { length' = refl; acked = refl; high = refl; next = refl; wait = refl });
          }
      go (part-acked a other) = part-kept (busy-of a.counts.sending k.half).1 (distance s number) _ a.within other

  pub heard-kept : (x : Telegram) → Kept limit t (heard t s x).sender
  unfolding heard
  heard-kept (Ack ready number) = ack-kept ready number
  heard-kept (Data asks last number) = k
  heard-kept Test = k
  heard-kept Break = k
  heard-kept Disconnect = k
  heard-kept (Setup p) = k
  heard-kept (Accept p) = k
  heard-kept Malformed = k

  -- the timers ran on, and no wait ended
  later-kept : (n : ℕ) → (s.wait ≡ 0) ⊎ (n < s.wait) → Kept limit t (later s n)
  later-kept n w = record { message = k.message; count = k.count; number = k.number; half = go w k.half }
    where
      go : (s.wait ≡ 0) ⊎ (n < s.wait) → Half t.block s → Half t.block (later s n)
      go w (inl i) = inl (record { length' = i.length'; acked = i.acked; high = i.high; next = i.next; wait = let e = i.wait in omega arith })
      go (inl z) (inr (q, b)) = inr (q, record { window = b.window; inside = λ _. b.inside z; more = λ _. b.more z; asked = λ h. absurd (omega arith) })
      go (inr l) (inr (q, b)) =
          inr (q, record { window = b.window; inside = λ h. absurd (omega arith); more = λ h. absurd (omega arith); asked = λ _. b.asked (omega arith) })

  pub pass_kept : (n : ℕ) → Kept limit t (passed t s n).sender
  pass_kept n = go (time_case t s n)
    where
      go : {x : Passed} → TimeCase t s n x → Kept limit t x.sender
      go (no-wait z) = later-kept n (inl z)
      go (runs_on l) = later-kept n (inr l)
      go (wait-used-up _ _) = k
      go (sends-again r few) = again_kept (waits-busy r.runs k.half).1 few _ _

  -- the next frame handed over: the wait starts behind a frame with AR
  handed-kept : Due s → Kept limit t (advanced t s)
  handed-kept d = record { message = k.message; count = k.count; number = k.number; half = inr (q, by Out (asks_at t.block s.length s.next) with-ar without) }
    where
      q : ℕ
      q = (busy-of d.sending k.half).0

      b : Busy t.block q s
      b = (busy-of d.sending k.half).1

      Out : ℕ → Type 0
      Out w = Busy t.block q (onward s (max s.high (s.next + 1)) (s.next + 1) w s.hold t.t3)

      out : Window t.block q s.length s.acked (s.next + 1) (max s.high (s.next + 1))
      out = let w = b.window in let i = b.inside d.waited in let m = d.more in omega arith

      with-ar : asks_at t.block s.length s.next ≡ true → Out t.t1
      with-ar e =
          let some = fair.t1 in
          record { window = out; inside = λ z. absurd (omega arith); more = λ z. absurd (omega arith); asked = λ _. asks-told t.block s.length s.next e }

      without : asks_at t.block s.length s.next ≡ false → Out 0
      without e =
          let inner : (s.next + 1) % t.block ≢ 0 = eqb-false _ _ (or-first (eqb ((s.next + 1) % t.block) 0) (last_at s.length s.next) e) in
          let last : s.next + 1 ≢ frames_of s.length = eqb-false _ _ (or-second (eqb ((s.next + 1) % t.block) 0) (last_at s.length s.next) e) in
          let m = d.more in
          record {
            window = out;
            inside = λ _. block-goes-on t.block q s.next (b.inside d.waited) inner;
            more = λ _. omega (arith, last);
            asked = λ h. absurd (omega arith);
          }

  pub hand-kept : (m : List ℕ) → Kept limit t (handed t s m).sender
  hand-kept m = go (frame_case t s m)
    where
      go : {x : Handed} → FrameCase t s m x → Kept limit t x.sender
      go (none-due _) = k
      go (other_length _ _) = k
      go (frame-out d _) = handed-kept d

  -- a message accepted is in sending from its first frame on
  accepted-kept : (n : ℕ) → 1 ≤ n → n ≤ limit → Kept limit t (accepted s n)
  accepted-kept n some within =
      let f = frames-some n some in
      let l = fair.least in
      let w : Window t.block 0 n 0 0 0 = omega arith in
      record {
        message = within;
        count = zero-le;
        number = k.number;
        half = inr (0, record { window = w; inside = λ _. w.acked-block; more = λ _. f; asked = λ h. absurd (omega arith) });
      }

  pub offer-kept : (n : ℕ) → Kept limit t (offered limit s n).sender
  offer-kept n = go (offer_case limit s n)
    where
      go : {x : Offered} → OfferCase limit s n x → Kept limit t x.sender
      go (unfinished _) = k
      go (no_bytes _ _) = k
      go (too_long _ _) = k
      go (accepts w) = accepted-kept n w.some w.within
