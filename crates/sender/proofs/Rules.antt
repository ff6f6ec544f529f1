-- 01, "Sending", rule by rule in numbers: each law says what an offer, an Ack or passing time leaves, field by field, or exactly when. FrameRules has those on frames.
use Prim.Native.Nat.{ℕ, ◌+◌, ◌-◌, ◌*◌, ◌%◌, ◌≤◌, ◌<◌}
use native.Mathlib.Omega.{arith}
use mathlib.Core.Bool.{Bool, true, false, true≢false}
use mathlib.Core.List.{[], ◌∷◌}
use mathlib.Core.Logic.{◌↔◌, ◌≢◌, ◌⊎◌, inl, inr}
use mathlib.Core.Path.{◌≡◌, refl, ◌∙◌}
use lib.ListN.{replicate}
use borrow.Author.Tests.{ltb-true, lt-ltb, le-ltb, ne_eqb}
use Rattle.telegram.specs.Cutting.{longest, frames_of}
use Rattle.telegram.specs.declared.kinds.Parameters.{Parameters}
use Rattle.telegram.specs.declared.kinds.Telegram.TheVariants.{Data, Test, Break, Disconnect, Setup, Accept, Malformed}
use Rattle.sender.specs.declared.Terms.{Terms}
use Rattle.sender.specs.declared.Sender.{Sender}
use Rattle.sender.specs.declared.Hearing.TheVariants.{Part, Done, Held, Nothing, UsedUp, NoAck}
use Rattle.sender.specs.declared.Passing.TheVariants.{Quiet, Again, UsedUp as RanOut}
use Rattle.sender.specs.Sending.{fresh, unacknowledged, offered, distance, on_ack, heard, passed, Accepted, Busy, BadLength}
use Rattle.sender.specs.declared.Offered.{Offered}
use Rattle.sender.specs.declared.Heard.{Heard}
use Rattle.sender.proofs.Offers.{OfferCase, unfinished, no_bytes, too_long, accepts, offer_case}
use Rattle.sender.proofs.Acks.{AckCase, no-message, in-hold, repeated, beyond, ack-used-up, held_back, all-acked, part-acked, ack_case, Acknowledges, Stalls, on_ack-ignored, on_ack-idle, on_ack-hold, on_ack-last, on_ack-part, on_ack-held, on_ack-gives-up, on_ack-done}
use Rattle.sender.proofs.Time.{passed-quiet, passed-again, passed-gives-up}

-- ---- numbers of frames

-- "Two length bytes, high first, then the message, cut in sevens; the last frame may be shorter": k frames are not all of them while seven times k is below the bytes
pub frames-more : (n k : ℕ) → k < frames_of n ↔ 7 * k < n + 2
unfolding frames_of
frames-more n k = omega arith

-- they are all once it is not, and the last is not empty
pub frames-all : (n k : ℕ) → k ≡ frames_of n ↔ ((n + 2 ≤ 7 * k) × (7 * k < n + 9))
unfolding frames_of
frames-all n k = omega arith

-- ---- at the start

-- "After the A1 all numbers start at 0, and no message received or in sending, due frame, wait or hold remains from before it"
pub fresh-fields : fresh ≡ record { length = 0; acked = 0; high = 0; next = 0; oldest = 0; count = 0; wait = 0; hold = 0; gap = 0 }
fresh-fields = refl

-- data is unacknowledged exactly while more frames were handed over than acknowledged
pub unacknowledged-exactly : (s : Sender) → unacknowledged s ≡ true ↔ s.acked < s.high
unacknowledged-exactly s = (ltb-true s.acked s.high, lt-ltb s.acked s.high)

-- ---- a message is offered

module _ (limit : ℕ) (s : Sender) (n : ℕ) where
  -- one of 1 to limit bytes, with none in sending, starts at its first frame; no number, hold or T3 changes by it
  pub offered-leaves : s.length ≡ 0 → 1 ≤ n → n ≤ limit → offered limit s n
      ≡ record {
        note = Accepted;
        sender = record { length = n; acked = 0; high = 0; next = 0; oldest = s.oldest; count = 0; wait = 0; hold = s.hold; gap = s.gap };
      }
  unfolding offered
  offered-leaves free some within = rw (free, ne_eqb n 0 (omega arith), le-ltb limit n within)

  -- row 5, "send while a message is unfinished", before any other refusal
  pub offered-busy : 0 < s.length → offered limit s n ≡ record { note = Busy; sender = s }
  unfolding offered
  offered-busy some = rw (ne_eqb s.length 0 (omega arith))

  -- row 6, "message to send empty"
  pub offered-empty : s.length ≡ 0 → n ≡ 0 → offered limit s n ≡ record { note = BadLength; sender = s }
  unfolding offered
  offered-empty free none = rw (free, none)

  -- or over the limit
  pub offered-over : s.length ≡ 0 → limit < n → offered limit s n ≡ record { note = BadLength; sender = s }
  unfolding offered
  offered-over free over = rw (free, ne_eqb n 0 (omega arith), lt-ltb limit n over)

-- "Lengths 1 and 1,024 pass; 0 and 1,025 don't"
pub offered-limits : (s : Sender) → s.length ≡ 0
    → ((offered longest s 1).note ≡ Accepted) × ((offered longest s 1024).note ≡ Accepted) × ((offered longest s 0).note ≡ BadLength) × ((offered longest s 1025).note ≡ BadLength)
unfolding offered
offered-limits s free = rw free (refl, refl, refl, refl)

-- ---- an Ack arrives

-- a number lies d frames ahead, modulo 16, of the oldest unacknowledged frame
pub record Ahead (s : Sender) (number d : ℕ) : Type 0 where
  pub small : d < 16
  pub leads : (s.oldest + d) % 16 ≡ number % 16

-- so every number does by its distance
pub distance-ahead : (s : Sender) (number : ℕ) → Ahead s number (distance s number)
unfolding distance
distance-ahead s number = omega arith

-- and by no other
pub distance-only : (s : Sender) (number d : ℕ) → Ahead s number d → distance s number ≡ d
unfolding distance
distance-only s number d a = omega arith

-- an Ack of distance d acknowledges frames: a message is in sending, no hold runs, and d lies "from 1 up to the number of unacknowledged frames of this block ever handed over"
pub record InRange (s : Sender) (d : ℕ) : Type 0 where
  pub sending : 0 < s.length
  pub free : s.hold ≡ 0
  pub some : 1 ≤ d
  pub within : s.acked + d ≤ s.high

-- these are the last of the message: seven times so many frames reach its bytes, and one frame less does not
pub record Ends (s : Sender) (d : ℕ) : Type 0 where
  pub all : s.length + 2 ≤ 7 * (s.acked + d)
  pub last : 7 * (s.acked + d) < s.length + 9

module _ (t : Terms) (s : Sender) (number d : ℕ) (ahead : Ahead s number d) where
  in-range : InRange s d → Acknowledges s number
  in-range r = let e = distance-only s number d ahead in omega arith

  no-range : (InRange s d → ⊥) → Acknowledges s number → ⊥
  no-range h a = let e = distance-only s number d ahead in h (omega arith)

  reaches : Ends s d → s.acked + distance s number ≡ frames_of s.length
  reaches e = rw (distance-only s number d ahead) ((frames-all s.length (s.acked + d)).1 (e.all, e.last))

  short : (Ends s d → ⊥) → s.acked + distance s number ≢ frames_of s.length
  short h = rw (distance-only s number d ahead) λ e. let f = (frames-all s.length (s.acked + d)).0 e in h (record { all = f.0; last = f.1 })

  -- "it acknowledges that many, the wait ends, the repeat count returns to 0, and the rest of the block is sent from there"; T3 runs on
  pub ack-part : InRange s d → (Ends s d → ⊥) → on_ack t s true number
      ≡ record {
        note = Part;
        sender = record { length = s.length; acked = s.acked + d; high = s.high; next = s.acked + d; oldest = (s.oldest + d) % 16; count = 0; wait = 0; hold = 0; gap = s.gap };
      }
  ack-part r e = rw (on_ack-part t s true number (in-range r) (short e), distance-only s number d ahead)

  -- "RS 0: the number is used as above .., then data is held for T_WAIT with no wait running and goes on from the oldest unacknowledged frame"
  pub ack-part-held : InRange s d → (Ends s d → ⊥) → on_ack t s false number
      ≡ record {
        note = Part;
        sender = record { length = s.length; acked = s.acked + d; high = s.high; next = s.acked + d; oldest = (s.oldest + d) % 16; count = 0; wait = 0; hold = t.t_wait; gap = s.gap };
      }
  ack-part-held r e = rw (on_ack-part t s false number (in-range r) (short e), distance-only s number d ahead)

  -- "The message is done when its last frame is acknowledged, and the answer to that Ack says so"
  pub ack-done : InRange s d → Ends s d → on_ack t s true number
      ≡ record {
        note = Done;
        sender = record { length = 0; acked = 0; high = 0; next = 0; oldest = (s.oldest + d) % 16; count = 0; wait = 0; hold = 0; gap = s.gap };
      }
  ack-done r e = rw (on_ack-last t s true number (in-range r) (reaches e), distance-only s number d ahead)

  -- with RS 0 the hold then falls to the next message
  pub ack-done-held : InRange s d → Ends s d → on_ack t s false number
      ≡ record {
        note = Done;
        sender = record { length = 0; acked = 0; high = 0; next = 0; oldest = (s.oldest + d) % 16; count = 0; wait = 0; hold = t.t_wait; gap = s.gap };
      }
  ack-done-held r e = rw (on_ack-last t s false number (in-range r) (reaches e), distance-only s number d ahead)

  -- done is answered exactly then
  pub ack-done-exactly : (ready : Bool) → (on_ack t s ready number).note ≡ Done ↔ (InRange s d × Ends s d)
  ack-done-exactly ready = (
    λ e. let h = (on_ack-done t s ready number).0 e in let f = (frames-all s.length (s.acked + distance s number)).0 h.1 in
        let n = distance-only s number d ahead in omega arith,
    λ h. (on_ack-done t s ready number).1 (in-range h.0, reaches h.1),
  )

  stalls : 0 < s.length → s.hold ≡ 0 → d ≡ 0 → Stalls s false number
  stalls some free none = record { counts = record { sending = some; free = free }; none = distance-only s number d ahead ∙ none; busy = refl }

  -- RS 0: "distance 0 adds one to the count, with the same limit", then the hold, and on from the oldest unacknowledged frame; no number and no T3 changes
  pub ack-held : 0 < s.length → s.hold ≡ 0 → d ≡ 0 → s.count < t.repeats → on_ack t s false number
      ≡ record {
        note = Held;
        sender = record { length = s.length; acked = s.acked; high = s.high; next = s.acked; oldest = s.oldest; count = s.count + 1; wait = 0; hold = t.t_wait; gap = s.gap };
      }
  ack-held some free none left = on_ack-held t s false number (stalls some free none) left

  -- "if the count would exceed the allowed repeats, the connection is lost"
  pub ack-spent : 0 < s.length → s.hold ≡ 0 → d ≡ 0 → t.repeats ≤ s.count → on_ack t s false number ≡ record { note = UsedUp; sender = s }
  ack-spent some free none over = on_ack-gives-up t s false number (stalls some free none) over

  -- "Distance 0 with RS 1 changes nothing"
  pub ack-repeated : d ≡ 0 → on_ack t s true number ≡ record { note = Nothing; sender = s }
  ack-repeated none = on_ack-ignored t s true number (no-range λ r. omega arith) λ a. true≢false a.busy

  -- "nor, with either RS, does a distance beyond that range"
  pub ack-beyond : (ready : Bool) → 1 ≤ d → s.high < s.acked + d → on_ack t s ready number ≡ record { note = Nothing; sender = s }
  ack-beyond ready some over = on_ack-ignored t s ready number (no-range λ r. omega arith) λ a. let e = distance-only s number d ahead in omega arith

-- a telegram of another kind is no Ack, and changes nothing
pub heard-others : (t : Terms) (s : Sender) (asks last : Bool) (number : ℕ) (p : Parameters)
    → heard t s (Data asks last number) ∷ heard t s Test ∷ heard t s Break ∷ heard t s Disconnect ∷ heard t s (Setup p) ∷ heard t s (Accept p) ∷ heard t s Malformed ∷ []
    ≡ replicate 7 (record { note = NoAck; sender = s })
unfolding heard
heard-others t s asks last number p = refl

module _ (t : Terms) (s : Sender) (ready : Bool) (number : ℕ) where
  -- "or an Ack while no message is in sending"
  pub ack-idle : s.length ≡ 0 → on_ack t s ready number ≡ record { note = Nothing; sender = s }
  ack-idle none = on_ack-idle t s ready number none

  -- "Acks during a hold give 12"
  pub ack-in-hold : 0 < s.hold → on_ack t s ready number ≡ record { note = Nothing; sender = s }
  ack-in-hold held = on_ack-hold t s ready number held

-- ---- time passes

module _ (t : Terms) (s : Sender) (n : ℕ) where
  -- no wait ends: wait, hold and T3 are less by the time that passed, each stopping at zero, and nothing else changes
  pub time-quiet : (s.wait ≡ 0) ⊎ (n < s.wait) → passed t s n
      ≡ record {
        note = Quiet;
        sender = record { length = s.length; acked = s.acked; high = s.high; next = s.next; oldest = s.oldest; count = s.count; wait = s.wait - n; hold = s.hold - n; gap = s.gap - n };
      }
  time-quiet (inl none) = passed-quiet t s n λ r. omega arith
  time-quiet (inr runs) = passed-quiet t s n λ r. omega arith

  -- "A wait that runs out adds one to the repeat count and sends again from the oldest unacknowledged frame"; hold and T3 run on
  pub time-again : 0 < s.wait → s.wait ≤ n → s.count < t.repeats → passed t s n
      ≡ record {
        note = Again;
        sender = record { length = s.length; acked = s.acked; high = s.high; next = s.acked; oldest = s.oldest; count = s.count + 1; wait = 0; hold = s.hold - n; gap = s.gap - n };
      }
  time-again runs over left = passed-again t s n (record { runs = runs; over = over }) left

  -- "if the count would exceed the allowed repeats, the connection is lost"
  pub time-spent : 0 < s.wait → s.wait ≤ n → t.repeats ≤ s.count → passed t s n ≡ record { note = RanOut; sender = s }
  time-spent runs over none = passed-gives-up t s n (record { runs = runs; over = over }) none

-- ---- what stays

module _ (t : Terms) (s : Sender) where
  -- T3 is "running from each hand-over": no Ack touches it
  pub ack-gap : (ready : Bool) (number : ℕ) → (on_ack t s ready number).sender.gap ≡ s.gap
  ack-gap ready number = go (ack_case t s ready number)
    where
      go : {x : Heard} → AckCase t s ready number x → x.sender.gap ≡ s.gap
      go (no-message _) = refl
      go (in-hold _ _) = refl
      go (repeated _ _ _) = refl
      go (beyond _ _ _) = refl
      go (ack-used-up _ _) = refl
      go (held_back _ _) = refl
      go (all-acked _ _) = refl
      go (part-acked _ _) = refl

  -- nor does a message offered, which ends no hold either
  pub offered-timers : (limit n : ℕ) → ((offered limit s n).sender.gap ≡ s.gap) × ((offered limit s n).sender.hold ≡ s.hold)
  offered-timers limit n = go (offer_case limit s n)
    where
      go : {x : Offered} → OfferCase limit s n x → (x.sender.gap ≡ s.gap) × (x.sender.hold ≡ s.hold)
      go (unfinished _) = (refl, refl)
      go (no_bytes _ _) = (refl, refl)
      go (too_long _ _) = (refl, refl)
      go (accepts _) = (refl, refl)
