-- Every move keeps the invariant, as long as the receiving end's buffer holds each message accepted.
use Rattle.std.specs.Prelude.{if◌then◌else◌}
use Prim.Native.Nat.{ℕ, zero, suc, ◌+◌, max, ◌≤◌}
use native.Mathlib.Omega.{arith}
use mathlib.Core.Bool.{Bool, true, false, true≢false, false≢true, or-false}
use mathlib.Core.List.{List, [], ◌∷◌, ◌++◌}
use mathlib.Core.Path.{◌≡◌, refl, sym, subst, ◌∙◌}
use lib.ListN.{length, get_or}
use Rattle.laws.proofs.Cases.{by}
use Rattle.sender.specs.Sending.{offered, handed, Offer, Accepted, Busy as InSending, BadLength as NotSent}
use Rattle.sender.specs.declared.Sender.{Sender}
use Rattle.sender.specs.declared.Heard.{Heard}
use Rattle.sender.specs.declared.Passed.{Passed}
use Rattle.sender.specs.declared.Handing.{Handing}
use Rattle.sender.specs.declared.Handing.TheVariants.{Frame, Nothing as NoFrame, OtherLength}
use Rattle.sender.proofs.Acks.{AckCase, no-message, in-hold, repeated, beyond, ack-used-up, held_back, all-acked, part-acked, ack_case}
use Rattle.sender.proofs.Time.{TimeCase, no-wait, runs_on, wait-used-up, sends-again, time_case}
use Rattle.delivery.specs.System.{Try, Fate, lent}
use Rattle.delivery.specs.System.Fate.{goes, stays, lost}
use Rattle.delivery.specs.Claim.{Within}
use Rattle.delivery.proofs.Core.{DataFrame, AckFrame, Direction, Move, with_listens, with_frames, with_acks, with_losses, offered_to, heard_to, passed_to, handed_by, hearing, receiving, move, moved}
use Rattle.delivery.proofs.Core.Move.{offer, hear, pass, hand, receive, taken, acknowledge, close_sending, close_receiving, rest}
use Rattle.delivery.proofs.Invariant.{current, Placed, Forward, Shows, Backward, Invariant, Kept}
use Rattle.delivery.proofs.Links.{forward-bounds, backward-bounds}
use Rattle.delivery.proofs.SendingKeeps.{no-eight, waits-busy, given-up-keeps, offer-keeps, ack-keeps, pass-keeps, hand-keeps}
use Rattle.delivery.proofs.ReceivingKeeps.{data-keeps, take-keeps, acknowledge-keeps}

-- each of the messages is within the room
pub within-at : (room : ℕ) (l : List (List ℕ)) (i : ℕ) → Within room l → length (get_or l i []) ≤ room
within-at room [] i w = omega arith
within-at room (m ∷ ms) zero w = w.0
within-at room (m ∷ ms) (suc i) w = within-at room ms i w.1

-- and so are those that came first
pub within_first : (room : ℕ) (l more : List (List ℕ)) → Within room (l ++ more) → Within room l
within_first room [] more w = tt
within_first room (m ∷ ms) more w = (w.0, within_first room ms more w.1)

module _ {limit room start used block : ℕ} {d : Direction} where
  -- other frames and Acks in the links, and the receiving end open or not
  links-keep : {places : List ℕ} (v : Invariant limit room start used block places d) (is : List ℕ) (l : List DataFrame) (k : List AckFrame) (ls : List Try) (listens : Bool)
      → Forward start (start + d.sender.high) (current d.history) d.terms.block (start + used) is l
      → Backward (start + d.sender.acked) (start + used) d.receiver.ack k
      → Invariant limit room start used block is (with_listens (with_acks (with_frames d l d.history) k (with_losses d.history ls)) listens)
  links-keep v is l k ls listens forward backward =
      record {
        fair = v.fair;
        room' = v.room';
        sending = v.sending;
        oldest = v.oldest;
        expected = v.expected;
        forward = forward;
        backward = backward;
        content = v.content;
        in_order = v.in_order;
        eight = v.eight;
      }

  -- the first Ack is gone
  pub ack-gone : {places : List ℕ} (v : Invariant limit room start used block places d) (f : AckFrame) (l : List AckFrame) → d.acks ≡ f ∷ l
      → (ls : List Try)
      → Invariant limit room start used block places (with_acks d l (with_losses d.history ls))
  ack-gone v f l e ls =
      let p = subst (Backward (start + d.sender.acked) (start + used) d.receiver.ack) e v.backward in
      let s = p.1 in
      links-keep v _ d.frames l ls d.listens v.forward
      (backward-bounds p.0 (start + d.sender.acked) (start + used) (start + used) d.receiver.ack (omega arith) (omega arith) l p.2)

  hear-keeps : {places : List ℕ} (v : Invariant limit room start used block places d) (fate : Fate) (l : List AckFrame) → d.acks ≡ l
      → Kept limit room (hearing fate l d)
  hear-keeps {places} v fate [] e = (start, used, block, places, v)
  hear-keeps {places} v goes (f ∷ l) e =
      let p = subst (Backward (start + d.sender.acked) (start + used) d.receiver.ack) e v.backward in
      let w = ack-gone v f l e d.history.losses in
      by (Kept limit room) d.live
      (λ live. ack-keeps w live f.ready f.number p.0 p.1 p.2)
      λ _. (start, used, block, places, w)
  hear-keeps {places} v stays (f ∷ l) e =
      let p = subst (Backward (start + d.sender.acked) (start + used) d.receiver.ack) e v.backward in
      let s : Shows p.0 (start + used) f.number p.0 = record { number = p.1.number; least = omega arith; most = p.1.most } in
      by (Kept limit room) d.live
      (λ live. ack-keeps v live f.ready f.number p.0 p.1 (subst (Backward p.0 (start + used) d.receiver.ack) (sym e) (p.0, s, p.2)))
      λ _. (start, used, block, places, v)
  hear-keeps {places} v lost (f ∷ l) e = (start, used, block, places, ack-gone v f l e (f.try ∷ d.history.losses))

  -- the first data frame is gone
  pub frame-gone : (i : ℕ) (is : List ℕ) (v : Invariant limit room start used block (i ∷ is) d) (f : DataFrame) (l : List DataFrame)
      → d.frames ≡ f ∷ l → (ls : List Try)
      → Invariant limit room start used block is (with_frames d l (with_losses d.history ls))
  frame-gone i is v f l e ls =
      let top = start + d.sender.high in
      let p = subst (Forward start top (current d.history) d.terms.block (start + used) (i ∷ is)) e v.forward in
      links-keep v is l d.acks ls d.listens
      (forward-bounds start top top (current d.history) d.terms.block (max (start + used) (i + 1)) (start + used) (omega arith) (omega arith) is l p.1)
      v.backward

  receive-keeps : limit ≤ 4095 → length (current d.history) ≤ room → (places : List ℕ) (v : Invariant limit room start used block places d)
      → (fate : Fate) (l : List DataFrame) → d.frames ≡ l → Kept limit room (receiving limit fate l d)
  receive-keeps small roomy places v fate [] e = (start, used, block, places, v)
  receive-keeps small roomy [] v fate (f ∷ l) e = absurd (subst (Forward start (start + d.sender.high) (current d.history) d.terms.block (start + used) []) e v.forward)
  receive-keeps small roomy (i ∷ is) v goes (f ∷ l) e =
      let p = subst (Forward start (start + d.sender.high) (current d.history) d.terms.block (start + used) (i ∷ is)) e v.forward in
      let w = frame-gone i is v f l e d.history.losses in
      by (Kept limit room) d.listens
      (λ _. data-keeps w small roomy f i p.0 p.1)
      λ _. (start, used, block, is, w)
  receive-keeps small roomy (i ∷ is) v stays (f ∷ l) e =
      let top = start + d.sender.high in
      let m = current d.history in
      let p = subst (Forward start top m d.terms.block (start + used) (i ∷ is)) e v.forward in
      let c = p.0.close in
      let q : Placed start top m d.terms.block (max (start + used) (i + 1)) i f =
      record { number = p.0.number; close = omega arith; below = p.0.below; carries = p.0.carries } in
      let next = max (start + used) (i + 1) in
      let r = forward-bounds start top top m d.terms.block next (max next (i + 1)) (omega arith) (omega arith) is l p.1 in
      by (Kept limit room) d.listens
      (λ _. data-keeps v small roomy f i p.0 (subst (Forward start top m d.terms.block (max (start + used) (i + 1)) (i ∷ is)) (sym e) (q, r)))
      λ _. (start, used, block, i ∷ is, v)
  receive-keeps small roomy (i ∷ is) v lost (f ∷ l) e = (start, used, block, is, frame-gone i is v f l e (f.try ∷ d.history.losses))

-- one move
pub move-keeps : {limit room : ℕ} {d : Direction} → limit ≤ 4095 → Within room d.history.accepted → Kept limit room d → (m : Move)
    → Kept limit room (move limit d m)
move-keeps {limit} {room} {d} small within k (offer m) = by (Kept limit room) d.live (λ _. offer-keeps k.4 m) λ _. k
move-keeps {limit} {room} {d} small within k (hear fate) = hear-keeps k.4 fate d.acks refl
move-keeps {limit} {room} {d} small within k (pass n) = by (Kept limit room) d.live (λ live. pass-keeps k.4 live n) λ _. k
move-keeps {limit} {room} {d} small within k hand = by (Kept limit room) d.live (λ _. hand-keeps k.4) λ _. k
move-keeps {limit} {room} {d} small within k (receive fate) =
    receive-keeps small (within-at room d.history.accepted d.history.done within) k.3 k.4 fate d.frames refl
move-keeps {limit} {room} {d} small within k taken = by (Kept limit room) d.listens (λ _. take-keeps k.4) λ _. k
move-keeps {limit} {room} {d} small within k acknowledge =
    by (Kept limit room) d.listens
    (λ _. by (Kept limit room) d.receiver.ack.due (λ due. (k.0, k.1, k.2, k.3, acknowledge-keeps k.4 due)) λ _. k)
    λ _. k
move-keeps {limit} {room} {d} small within k close_sending = (k.0, k.1, k.2, k.3, given-up-keeps k.4)
move-keeps {limit} {room} {d} small within k close_receiving = (k.0, k.1, k.2, k.3, links-keep k.4 k.3 d.frames d.acks d.history.losses false k.4.forward k.4.backward)
move-keeps small within k rest = k

-- ---- what moves do to the messages accepted

-- a closed sending end accepts nothing more and reports nothing more
pub record Closed (d t : Direction) : Type 0 where
  pub live' : t.live ≡ false
  pub accepted : t.history.accepted ≡ d.history.accepted
  pub done : t.history.done ≡ d.history.done

pub move-closed : (limit : ℕ) (d : Direction) → d.live ≡ false → (m : Move) → Closed d (move limit d m)
move-closed limit d c m = go m
  where
    same : Closed d d
    same = record { live' = c; accepted = refl; done = refl }

    shut : (t : Direction) → Closed d (if d.live then t else d)
    shut t = by (Closed d) d.live (λ e. absurd (true≢false (sym e ∙ c))) λ _. same

    heard : (fate : Fate) (l : List AckFrame) → Closed d (hearing fate l d)
    heard fate [] = same
    heard goes (f ∷ l) = by (Closed d) d.live (λ e. absurd (true≢false (sym e ∙ c))) λ _. record { live' = c; accepted = refl; done = refl }
    heard stays (f ∷ l) = shut _
    heard lost (f ∷ l) = record { live' = c; accepted = refl; done = refl }

    got : (fate : Fate) (l : List DataFrame) → Closed d (receiving limit fate l d)
    got fate [] = same
    got goes (f ∷ l) = by (Closed d) d.listens (λ _. record { live' = c; accepted = refl; done = refl }) λ _. record { live' = c; accepted = refl; done = refl }
    got stays (f ∷ l) = by (Closed d) d.listens (λ _. record { live' = c; accepted = refl; done = refl }) λ _. same
    got lost (f ∷ l) = record { live' = c; accepted = refl; done = refl }

    go : (m : Move) → Closed d (move limit d m)
    go (offer m) = shut _
    go (hear fate) = heard fate d.acks
    go (pass n) = shut _
    go hand = shut _
    go (receive fate) = got fate d.frames
    go taken = by (Closed d) d.listens (λ _. record { live' = c; accepted = refl; done = refl }) λ _. same
    go acknowledge =
        by (Closed d) d.listens
        (λ _. by (Closed d) d.receiver.ack.due (λ _. record { live' = c; accepted = refl; done = refl }) λ _. same)
        λ _. same
    go close_sending = record { live' = refl; accepted = refl; done = refl }
    go close_receiving = record { live' = c; accepted = refl; done = refl }
    go rest = same

-- a move other than the closing of the sending end for another cause than its own repeats
abbrev pub Unforced : Move → Type 0
Unforced (offer m) = Unit {0}
Unforced (hear fate) = Unit {0}
Unforced (pass n) = Unit {0}
Unforced hand = Unit {0}
Unforced (receive fate) = Unit {0}
Unforced taken = Unit {0}
Unforced acknowledge = Unit {0}
Unforced close_sending = ⊥
Unforced close_receiving = Unit {0}
Unforced rest = Unit {0}

-- 8 was answered for a message in sending
abbrev pub GaveUp : Direction → Type 0
GaveUp d = d.history.eight ≡ true → 1 ≤ d.sender.length

-- without such a closing 8 comes only for a message in sending
pub move-gave-up : {limit room : ℕ} {d : Direction} → Kept limit room d → GaveUp d → (m : Move) → Unforced m → GaveUp (move limit d m)
move-gave-up {limit} {room} {d} k b m = go m
  where
    not_yet : d.live ≡ true → {x : Bool} → x ≡ d.history.eight → x ≡ true → ⊥
    not_yet live e w = false≢true (sym (no-eight k.4 live) ∙ sym e ∙ w)

    heard_by : d.live ≡ true → (ready : Bool) (number : ℕ) {h : Heard} → AckCase d.terms d.sender ready number h → GaveUp (heard_to d h)
    heard_by live ready number (ack-used-up a u) e = a.counts.sending
    heard_by live ready number (no-message a) e = absurd (not_yet live (or-false _) e)
    heard_by live ready number (in-hold a u) e = absurd (not_yet live (or-false _) e)
    heard_by live ready number (repeated a u w) e = absurd (not_yet live (or-false _) e)
    heard_by live ready number (beyond a u w) e = absurd (not_yet live (or-false _) e)
    heard_by live ready number (held_back a u) e = absurd (not_yet live (or-false _) e)
    heard_by live ready number (all-acked a u) e = absurd (not_yet live (or-false _) e)
    heard_by live ready number (part-acked a u) e = absurd (not_yet live (or-false _) e)

    passed_by : d.live ≡ true → (n : ℕ) {g : Passed} → TimeCase d.terms d.sender n g → GaveUp (passed_to d g)
    passed_by live n (wait-used-up r u) e = waits-busy k.4.sending r.runs
    passed_by live n (no-wait w) e = absurd (not_yet live (or-false _) e)
    passed_by live n (runs_on l) e = absurd (not_yet live (or-false _) e)
    passed_by live n (sends-again r u) e = absurd (not_yet live (or-false _) e)

    handed_over : d.live ≡ true → (n : Handing) (s : Sender) → GaveUp (handed_by d n s)
    handed_over live (Frame p) s e = absurd (not_yet live refl e)
    handed_over live NoFrame s e = b e
    handed_over live OtherLength s e = b e

    offered_by : d.live ≡ true → (m : List ℕ) (n : Offer) (s : Sender) → GaveUp (offered_to d m (record { note = n; sender = s }))
    offered_by live m Accepted s e = absurd (not_yet live refl e)
    offered_by live m InSending s e = absurd (not_yet live refl e)
    offered_by live m NotSent s e = absurd (not_yet live refl e)

    heard : (fate : Fate) (l : List AckFrame) → GaveUp (hearing fate l d)
    heard fate [] = b
    heard goes (f ∷ l) = by GaveUp d.live (λ live. heard_by live f.ready f.number (ack_case d.terms d.sender f.ready f.number)) λ _. b
    heard stays (f ∷ l) = by GaveUp d.live (λ live. heard_by live f.ready f.number (ack_case d.terms d.sender f.ready f.number)) λ _. b
    heard lost (f ∷ l) = b

    got : (fate : Fate) (l : List DataFrame) → GaveUp (receiving limit fate l d)
    got fate [] = b
    got goes (f ∷ l) = by GaveUp d.listens (λ _. b) λ _. b
    got stays (f ∷ l) = by GaveUp d.listens (λ _. b) λ _. b
    got lost (f ∷ l) = b

    go : (m : Move) → Unforced m → GaveUp (move limit d m)
    go (offer m) u = by GaveUp d.live (λ live. offered_by live m (offered limit d.sender (length m)).note (offered limit d.sender (length m)).sender) λ _. b
    go (hear fate) u = heard fate d.acks
    go (pass n) u = by GaveUp d.live (λ live. passed_by live n (time_case d.terms d.sender n)) λ _. b
    go hand u = by GaveUp d.live (λ live. handed_over live (handed d.terms d.sender (lent d.history)).note _) λ _. b
    go (receive fate) u = got fate d.frames
    go taken u = by GaveUp d.listens (λ _. b) λ _. b
    go acknowledge u = by GaveUp d.listens (λ _. by GaveUp d.receiver.ack.due (λ _. b) λ _. b) λ _. b
    go close_sending u = absurd u
    go close_receiving u = b
    go rest u = b

-- a move only adds to the messages accepted and to the losses: what holds of both after it, and of fewer, held before it
module _ (limit : ℕ) (P : List (List ℕ) → List Try → Type 0)
    (fewer-accepted : (a : List (List ℕ)) (m : List ℕ) (l : List Try) → P (a ++ (m ∷ [])) l → P a l)
    (fewer-lost : (a : List (List ℕ)) (t : Try) (l : List Try) → P a (t ∷ l) → P a l) where
  abbrev Held : Direction → Type 0
  Held d = P d.history.accepted d.history.losses

  move-held : (d : Direction) (m : Move) → Held (move limit d m) → Held d
  move-held d m = go m
    where
      Q : Direction → Type 0
      Q t = Held t → Held d

      offering : (m : List ℕ) (n : Offer) (s : Sender) → Q (offered_to d m (record { note = n; sender = s }))
      offering m Accepted s w = fewer-accepted d.history.accepted m d.history.losses w
      offering m InSending s w = w
      offering m NotSent s w = w

      handing_over : (n : Handing) (s : Sender) → Q (handed_by d n s)
      handing_over (Frame p) s w = w
      handing_over NoFrame s w = w
      handing_over OtherLength s w = w

      heard : (fate : Fate) (l : List AckFrame) → Q (hearing fate l d)
      heard fate [] = λ w. w
      heard goes (f ∷ l) = by Q d.live (λ _ w. w) λ _ w. w
      heard stays (f ∷ l) = by Q d.live (λ _ w. w) λ _ w. w
      heard lost (f ∷ l) = fewer-lost d.history.accepted f.try d.history.losses

      got : (fate : Fate) (l : List DataFrame) → Q (receiving limit fate l d)
      got fate [] = λ w. w
      got goes (f ∷ l) = by Q d.listens (λ _ w. w) λ _ w. w
      got stays (f ∷ l) = by Q d.listens (λ _ w. w) λ _ w. w
      got lost (f ∷ l) = fewer-lost d.history.accepted f.try d.history.losses

      go : (m : Move) → Q (move limit d m)
      go (offer m) = by Q d.live (λ _. offering m (offered limit d.sender (length m)).note (offered limit d.sender (length m)).sender) λ _ w. w
      go (hear fate) = heard fate d.acks
      go (pass n) = by Q d.live (λ _ w. w) λ _ w. w
      go hand = by Q d.live (λ _. handing_over (handed d.terms d.sender (lent d.history)).note _) λ _ w. w
      go (receive fate) = got fate d.frames
      go taken = by Q d.listens (λ _ w. w) λ _ w. w
      go acknowledge = by Q d.listens (λ _. by Q d.receiver.ack.due (λ _ w. w) λ _ w. w) λ _ w. w
      go close_sending = λ w. w
      go close_receiving = λ w. w
      go rest = λ w. w

  pub moved-held : (ms : List Move) (d : Direction) → Held (moved limit d ms) → Held d
  moved-held [] d w = w
  moved-held (m ∷ ms) d w = move-held d m (moved-held ms (move limit d m) w)
