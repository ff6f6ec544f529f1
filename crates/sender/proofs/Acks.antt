-- What an Ack does, case by case, and exactly when.
use Prim.Native.Nat.{ℕ, ◌+◌, ◌≤◌, ◌<◌}
use native.Mathlib.Omega.{arith}
use mathlib.Core.Bool.{Bool, true, false, true≢false}
use mathlib.Core.Logic.{◌↔◌, ◌≢◌}
use mathlib.Core.Path.{◌≡◌, refl, sym, subst, ap, ◌∙◌}
use borrow.Author.Tests.{le-ltb, le-leb, lt-leb, eq-eqb, ne_eqb}
use Rattle.laws.proofs.Cases.{by, by-lt, by_le, by-eq}
use Rattle.telegram.specs.Cutting.{frames_of}
use Rattle.telegram.specs.declared.kinds.Telegram.TheVariants.{Ack}
use Rattle.sender.specs.declared.Terms.{Terms}
use Rattle.sender.specs.declared.Sender.{Sender}
use Rattle.sender.specs.declared.Heard.{Heard}
use Rattle.sender.specs.declared.Hearing.{Hearing}
use Rattle.sender.specs.declared.Hearing.TheVariants.{Part, Done, Held, UsedUp}
use Rattle.sender.specs.Sending.{distance, on_ack, heard, ignored, again, acknowledged, finished, held_for}

-- an Ack counts: a message is in sending, and no hold runs
pub record Counts (s : Sender) : Type 0 where
  pub sending : 0 < s.length
  pub free : s.hold ≡ 0

-- it acknowledges frames: 1 to all of those ever handed over and not acknowledged
pub record Acknowledges (s : Sender) (number : ℕ) : Type 0 where
  pub counts : Counts s
  pub some : 1 ≤ distance s number
  pub within : s.acked + distance s number ≤ s.high

-- it acknowledges nothing and is not ready
pub record Stalls (s : Sender) (ready : Bool) (number : ℕ) : Type 0 where
  pub counts : Counts s
  pub none : distance s number ≡ 0
  pub busy : ready ≡ false

-- what an Ack leaves, and what led to it
pub data AckCase (t : Terms) (s : Sender) (ready : Bool) (number : ℕ) : Heard → Type 0 where
  no-message : s.length ≡ 0 → AckCase t s ready number (ignored s)
  in-hold : 0 < s.length → 0 < s.hold → AckCase t s ready number (ignored s)
  repeated : Counts s → distance s number ≡ 0 → ready ≡ true → AckCase t s ready number (ignored s)
  beyond : Counts s → 1 ≤ distance s number → s.high < s.acked + distance s number → AckCase t s ready number (ignored s)
  ack-used-up : Stalls s ready number → t.repeats ≤ s.count → AckCase t s ready number (record { note = UsedUp; sender = s })
  held_back : Stalls s ready number → s.count < t.repeats → AckCase t s ready number (record { note = Held; sender = again s t.t_wait s.gap })
  all-acked : Acknowledges s number → s.acked + distance s number ≡ frames_of s.length
      → AckCase t s ready number (record { note = Done; sender = finished s (distance s number) (held_for t ready) })
  part-acked : Acknowledges s number → s.acked + distance s number ≢ frames_of s.length
      → AckCase t s ready number (record { note = Part; sender = acknowledged s (distance s number) (held_for t ready) })

module _ (t : Terms) (s : Sender) (ready : Bool) (number : ℕ) where
  -- the Ack case of a sorted telegram
  pub heard-ack : heard t s (Ack ready number) ≡ on_ack t s ready number
  unfolding heard
  heard-ack = refl

  abbrev Here : Heard → Type 0
  Here x = AckCase t s ready number x

  -- every Ack is one of these cases
  pub ack_case : AckCase t s ready number (on_ack t s ready number)
  unfolding on_ack
  ack_case =
      by-eq Here s.length 0 no-message λ some.
      by-lt Here 0 s.hold (in-hold (omega arith)) λ free. let c : Counts s = omega arith in
      by-eq Here (distance s number) 0
      (λ none. by Here ready (repeated c none) λ busy.
      let st : Stalls s ready number = record { counts = c; none = none; busy = busy } in
      by_le Here t.repeats s.count (ack-used-up st) (held_back st)) λ far.
      by-lt Here s.high (s.acked + distance s number) (beyond c (omega arith)) λ within. let a : Acknowledges s number = omega arith in
      by-eq Here (s.acked + distance s number) (frames_of s.length) (all-acked a) (part-acked a)

  -- an Ack that neither acknowledges nor stalls changes nothing
  pub on_ack-ignored : (Acknowledges s number → ⊥) → (Stalls s ready number → ⊥) → on_ack t s ready number ≡ ignored s
  on_ack-ignored acks stalls = go ack_case
    where
      go : {x : Heard} → Here x → x ≡ ignored s
      go (no-message _) = refl
      go (in-hold _ _) = refl
      go (repeated _ _ _) = refl
      go (beyond _ _ _) = refl
      go (ack-used-up a _) = absurd (stalls a)
      go (held_back a _) = absurd (stalls a)
      go (all-acked a _) = absurd (acks a)
      go (part-acked a _) = absurd (acks a)

  -- so without a message in sending
  pub on_ack-idle : s.length ≡ 0 → on_ack t s ready number ≡ ignored s
  on_ack-idle h = on_ack-ignored (λ a. omega arith) (λ a. omega arith)

  -- in a hold
  pub on_ack-hold : 0 < s.hold → on_ack t s ready number ≡ ignored s
  on_ack-hold h = on_ack-ignored (λ a. omega arith) (λ a. omega arith)

  -- beyond the frames ever handed over
  pub on_ack-beyond : s.acked ≤ s.high → s.high < s.acked + distance s number → on_ack t s ready number ≡ ignored s
  on_ack-beyond h k = on_ack-ignored (λ a. omega arith) (λ a. omega arith)

  -- or ready with nothing acknowledged
  pub on_ack-repeated : ready ≡ true → distance s number ≡ 0 → on_ack t s ready number ≡ ignored s
  on_ack-repeated r h = on_ack-ignored (λ a. omega arith) (λ a. true≢false (sym r ∙ a.busy))

  -- the last frame acknowledged: the message is done
  pub on_ack-last : Acknowledges s number → s.acked + distance s number ≡ frames_of s.length
      → on_ack t s ready number ≡ record { note = Done; sender = finished s (distance s number) (held_for t ready) }
  unfolding on_ack
  on_ack-last a e = rw (ne_eqb s.length 0 (omega arith), le-ltb 0 s.hold (omega arith), ne_eqb (distance s number) 0 (omega arith), le-ltb _ _ a.within, eq-eqb _ _ e)

  -- another frame acknowledged: on from there
  pub on_ack-part : Acknowledges s number → s.acked + distance s number ≢ frames_of s.length
      → on_ack t s ready number ≡ record { note = Part; sender = acknowledged s (distance s number) (held_for t ready) }
  unfolding on_ack
  on_ack-part a e = rw (ne_eqb s.length 0 (omega arith), le-ltb 0 s.hold (omega arith), ne_eqb (distance s number) 0 (omega arith), le-ltb _ _ a.within, ne_eqb _ _ e)

  -- any frame acknowledged sets the repeat count to 0
  pub on_ack-progress : Acknowledges s number → (on_ack t s ready number).sender.count ≡ 0
  on_ack-progress a = by-eq (λ (_ : ℕ). (on_ack t s ready number).sender.count ≡ 0) (s.acked + distance s number) (frames_of s.length) {x = 0} {y = 0} (λ e. rw (on_ack-last a e)) (λ e. rw (on_ack-part a e))

  -- one that stalls adds one to the repeat count and holds the data, while repeats are left
  pub on_ack-held : Stalls s ready number → s.count < t.repeats → on_ack t s ready number ≡ record { note = Held; sender = again s t.t_wait s.gap }
  unfolding on_ack
  on_ack-held a h = rw (ne_eqb s.length 0 (omega arith), le-ltb 0 s.hold (omega arith), a.none, a.busy, lt-leb _ _ h)

  -- once more than the repeats allow, it says so and changes nothing
  pub on_ack-gives-up : Stalls s ready number → t.repeats ≤ s.count → on_ack t s ready number ≡ record { note = UsedUp; sender = s }
  unfolding on_ack
  on_ack-gives-up a h = rw (ne_eqb s.length 0 (omega arith), le-ltb 0 s.hold (omega arith), a.none, a.busy, le-leb _ _ h)

  -- the case of an answer
  noted : {n : Hearing} → (on_ack t s ready number).note ≡ n → Here (record { note = n; sender = (on_ack t s ready number).sender })
  noted e = subst (λ n. Here (record { note = n; sender = (on_ack t s ready number).sender })) e ack_case

  -- done is answered exactly where the last frame is acknowledged
  pub on_ack-done : (on_ack t s ready number).note ≡ Done ↔ (Acknowledges s number × s.acked + distance s number ≡ frames_of s.length)
  on_ack-done = (λ e. go (noted e), λ h. ap (λ (x : Heard). x.note) (on_ack-last h.0 h.1))
    where
      go : {y : Sender} → Here (record { note = Done; sender = y }) → Acknowledges s number × s.acked + distance s number ≡ frames_of s.length
      go (all-acked a e) = (a, e)

  -- used up is answered exactly where an Ack stalls and no repeat is left
  pub on_ack-used_up : (on_ack t s ready number).note ≡ UsedUp ↔ (Stalls s ready number × t.repeats ≤ s.count)
  on_ack-used_up = (λ e. go (noted e), λ h. ap (λ (x : Heard). x.note) (on_ack-gives-up h.0 h.1))
    where
      go : {y : Sender} → Here (record { note = UsedUp; sender = y }) → Stalls s ready number × t.repeats ≤ s.count
      go (ack-used-up a h) = (a, h)
