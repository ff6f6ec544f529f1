-- Laws of receiving, for every record, telegram and buffer.
use Rattle.std.specs.Prelude.{if◌then◌else◌}
use Prim.Native.Nat.{ℕ, ◌+◌, ◌≤◌}
use native.Mathlib.Omega.{arith}
use mathlib.Core.Bool.{Bool, true, false, not, ◌||◌, false≢true}
use mathlib.Core.Path.{◌≡◌, refl, sym, ap, ◌∙◌}
use mathlib.Core.List.{List}
use lib.ListN.{length, drop, length-append, length-take, length-drop}
use Rattle.laws.proofs.Cases.{either}
use Rattle.telegram.specs.declared.kinds.Telegram.{Telegram}
use Rattle.telegram.specs.declared.kinds.Telegram.TheVariants.{Data, Ack, Test, Break, Disconnect, Setup, Accept, Malformed}
use Rattle.receiver.specs.Receiving.{first, waiting, following, ack_after, settled, kept, numbered, on_data, received, pasted, copied, is_used, buffered, returned, took, NoneComplete}
use Rattle.telegram.specs.declared.cutting.Message.{Message}
use Rattle.receiver.specs.declared.Standing.{Standing}
use Rattle.receiver.specs.declared.Receiver.{Receiver}
use Rattle.receiver.specs.declared.Receipt.{Receipt}
use Rattle.receiver.specs.declared.Receipt.TheVariants.{ShortLater, NoData}
use Rattle.receiver.specs.declared.Received.{Received}
use Rattle.receiver.proofs.Outcomes.{Brings, at_first, at-later, breaks, short-first, short-later, goes_on, ends, Outcome, out-of-place, untaken, thrown-away, in-order, outcome}

-- ---- what a frame leaves

-- part by part: a standing, a complete message or none, and the Ack; a break may return to here
pub record Leaves (r : Receiver) (asks last : Bool) (standing : Standing) (message : Message) (x : Receiver) : Type 0 where
  pub at : x.at ≡ standing
  pub back : x.back ≡ (if asks || last then standing else r.back)
  pub complete : x.complete ≡ message
  pub ack : x.ack ≡ ack_after r asks standing.expected

module _ (r : Receiver) (asks last : Bool) where
  pub settled-leaves : (standing : Standing) (message : Message) → Leaves r asks last standing message (settled r asks last standing message)
  unfolding settled
  settled-leaves standing message = record { at = refl; back = refl; complete = refl; ack = refl }

  pub numbered-leaves : (discarding : Bool) (begun : Message) (fill : ℕ) (message : Message)
      → Leaves r asks last (record { expected = following r.at.expected; discarding = discarding; begun = begun; fill = fill }) message
      (numbered r asks last discarding begun fill message)
  unfolding numbered
  numbered-leaves discarding begun fill message = settled-leaves _ message

-- a frame that is not used leaves all as it was, but for the Ack
pub kept-is : (r : Receiver) (asks : Bool)
    → kept r asks ≡ record { at = r.at; back = if asks || false then r.at else r.back; complete = r.complete; ack = ack_after r asks r.at.expected }
unfolding settled
kept-is r asks = refl

-- one that is not used and asks for no Ack changes nothing
pub kept-unasked : (r : Receiver) → kept r false ≡ r
kept-unasked r = kept-is r false

-- the Ack after a frame is the one that it asks for, with the number now expected, or the one before; a break returns to where an Ack became due
pub record AckFor (r : Receiver) (asks : Bool) (x : Receiver) : Type 0 where
  pub ack : x.ack ≡ ack_after r asks x.at.expected
  pub back : asks ≡ true → x.back ≡ x.at

leaves-ack : {r : Receiver} {asks last : Bool} {standing : Standing} {message : Message} {x : Receiver} → Leaves r asks last standing message x → AckFor r asks x
leaves-ack {r} {asks} l =
    record { ack = l.ack ∙ ap (λ (s : Standing). ack_after r asks s.expected) (sym l.at); back = λ a. l.back ∙ rw a (sym l.at) }

-- so it is after every frame, but for row 7 on a later one
pub outcome-ack : {limit : ℕ} {r : Receiver} {asks last : Bool} {number : ℕ} {p : List ℕ} {room : ℕ} {x : Received}
    → Outcome limit r asks last number p room x → (x.note ≡ ShortLater → ⊥) → AckFor r asks x.receiver
outcome-ack (out-of-place n) h = leaves-ack (settled-leaves _ _ _ _ _)
outcome-ack (untaken e w) h = leaves-ack (settled-leaves _ _ _ _ _)
outcome-ack (thrown-away e w t) h = leaves-ack (numbered-leaves _ _ _ _ _ _ _)
outcome-ack (in-order o (breaks c)) h = leaves-ack (numbered-leaves _ _ _ _ _ _ _)
outcome-ack (in-order o (short-first b e s)) h = leaves-ack (numbered-leaves _ _ _ _ _ _ _)
outcome-ack (in-order o (short-later f s)) h = absurd (h refl)
outcome-ack (in-order o (goes_on b l less roomy)) h = leaves-ack (numbered-leaves _ _ _ _ _ _ _)
outcome-ack (in-order o (ends b l all roomy)) h = leaves-ack (numbered-leaves _ _ _ _ _ _ _)

-- an Ack is due with the number now expected, ready unless a message waited before; a break returns to here
pub record Acked (r : Receiver) (x : Received) : Type 0 where
  pub ack : x.receiver.ack ≡ record { due = true; ready = not (waiting r); number = x.receiver.at.expected }
  pub back : x.receiver.back ≡ x.receiver.at

-- every frame with AR, but for row 7 on a later one, leaves an Ack due with the number now expected
pub data-acked : (limit : ℕ) (r : Receiver) (last : Bool) (number : ℕ) (p : List ℕ) (room : ℕ)
    → ((on_data limit r true last number p room).note ≡ ShortLater → ⊥) → Acked r (on_data limit r true last number p room)
data-acked limit r last number p room h = let a = outcome-ack (outcome limit r true last number p room) h in record { ack = a.ack; back = a.back refl }

-- ---- used frames

-- the bytes of a frame that is used fit into the lent buffer, and a first frame has its length bytes
abbrev pub Fits : Receiver → List ℕ → ℕ → Bool → Type 0
Fits r p room true = (2 ≤ length p) × (length p ≤ room + 2)
Fits r p room false = r.at.fill + length p ≤ room

-- what is known of a frame that was used, and of what it leaves
pub record InUse (r : Receiver) (number : ℕ) (p : List ℕ) (room : ℕ) (after : Receiver) : Type 0 where
  pub in_order : number ≡ r.at.expected
  pub none-waits : waiting r ≡ false
  pub next : after.at.expected ≡ following r.at.expected
  pub fits : Fits r p room (first r)

brings-fits : {limit : ℕ} {r : Receiver} {p : List ℕ} {room : ℕ} {m : Message} {fill : ℕ} → Brings limit r p room m fill → fill ≤ room → Fits r p room (first r)
brings-fits (at_first f two some most) h = rw f (two, omega arith)
brings-fits (at-later f held) h = rw f h

pub in_use : {limit : ℕ} {r : Receiver} {asks last : Bool} {number : ℕ} {p : List ℕ} {room : ℕ} {x : Received}
    → Outcome limit r asks last number p room x → is_used x.note ≡ true → InUse r number p room x.receiver
in_use (out-of-place n) u = absurd (false≢true u)
in_use (untaken e w) u = absurd (false≢true u)
in_use (thrown-away e w t) u = absurd (false≢true u)
in_use (in-order o (breaks c)) u = absurd (false≢true u)
in_use (in-order o (short-first b e s)) u = absurd (false≢true u)
in_use (in-order o (short-later f s)) u = absurd (false≢true u)
in_use (in-order o (goes_on b l less roomy)) u =
    record { in_order = o.expected; none-waits = o.none-waits; next = ap (λ (s : Standing). s.expected) (numbered-leaves _ _ _ _ _ _ _).at; fits = brings-fits b (omega arith) }
in_use (in-order o (ends b l all roomy)) u =
    record { in_order = o.expected; none-waits = o.none-waits; next = ap (λ (s : Standing). s.expected) (numbered-leaves _ _ _ _ _ _ _).at; fits = brings-fits b (omega arith) }

module _ (limit : ℕ) (r : Receiver) (asks last : Bool) (number : ℕ) (p : List ℕ) (room : ℕ) (used : is_used (on_data limit r asks last number p room).note ≡ true) where
  facts : InUse r number p room (on_data limit r asks last number p room).receiver
  facts = in_use (outcome limit r asks last number p room) used

  -- a frame is used only with the expected number
  pub used-in-order : number ≡ r.at.expected
  used-in-order = facts.in_order

  -- and only while no complete message waits untaken
  pub used-none-waits : waiting r ≡ false
  used-none-waits = facts.none-waits

  -- a used frame leaves the number behind its own
  pub used-next : (on_data limit r asks last number p room).receiver.at.expected ≡ following r.at.expected
  used-next = facts.next

  -- 0 comes after 15
  pub used-wraps : r.at.expected ≡ 15 → (on_data limit r asks last number p room).receiver.at.expected ≡ 0
  used-wraps e = rw (used-next, e)

-- ---- a sorted telegram

-- it is no data
abbrev pub NotData : Telegram → Type 0
NotData (Data asks last number) = ⊥
NotData (Ack ready number) = Unit {0}
NotData Test = Unit {0}
NotData Break = Unit {0}
NotData Disconnect = Unit {0}
NotData (Setup s) = Unit {0}
NotData (Accept s) = Unit {0}
NotData Malformed = Unit {0}

module _ (limit : ℕ) (r : Receiver) (p : List ℕ) (room : ℕ) where
  -- data is received as data
  pub received-data : (asks last : Bool) (number : ℕ) → received limit r (Data asks last number) p room ≡ on_data limit r asks last number p room
  unfolding received
  received-data asks last number = refl

  -- and the others change nothing
  pub received-other : (t : Telegram) → NotData t → received limit r t p room ≡ record { note = NoData; receiver = r }
  unfolding received
  received-other (Ack ready number) h = refl
  received-other Test h = refl
  received-other Break h = refl
  received-other Disconnect h = refl
  received-other (Setup s) h = refl
  received-other (Accept s) h = refl
  received-other Malformed h = refl
  received-other (Data asks last number) h = absurd h

-- ---- the lent buffer

module _ (limit : ℕ) (r : Receiver) where
  -- the bytes of a used frame fit
  pub used-fits : (t : Telegram) (p : List ℕ) (room : ℕ) → is_used (received limit r t p room).note ≡ true → Fits r p room (first r)
  unfolding received
  used-fits (Data asks last number) p room u = (in_use (outcome limit r asks last number p room) u).fits
  used-fits (Ack ready number) p room u = absurd (false≢true u)
  used-fits Test p room u = absurd (false≢true u)
  used-fits Break p room u = absurd (false≢true u)
  used-fits Disconnect p room u = absurd (false≢true u)
  used-fits (Setup s) p room u = absurd (false≢true u)
  used-fits (Accept s) p room u = absurd (false≢true u)
  used-fits Malformed p room u = absurd (false≢true u)

module _ (r : Receiver) (note : Receipt) (p b : List ℕ) where
  -- a used frame copies its bytes, and no other does
  pub buffered-noted : buffered r note p b ≡ (if is_used note then copied r p b else b)
  unfolding buffered
  buffered-noted = refl

  -- only a used frame changes the buffer
  pub buffered-unused : is_used note ≡ false → buffered r note p b ≡ b
  unfolding buffered
  buffered-unused u = rw u

  -- the bytes of a first frame, the length bytes left out, stand at the front
  pub buffered-first : is_used note ≡ true → first r ≡ true → buffered r note p b ≡ pasted b 0 (drop 2 p)
  unfolding buffered copied
  buffered-first u f = rw (u, f)

  -- those of a later frame stand behind what the message has
  pub buffered-later : is_used note ≡ true → first r ≡ false → buffered r note p b ≡ pasted b r.at.fill p
  unfolding buffered copied
  buffered-later u f = rw (u, f)

-- a paste within the buffer keeps its length
pasted_length : (b : List ℕ) (at : ℕ) (p : List ℕ) → at + length p ≤ length b → length (pasted b at p) ≡ length b
pasted_length b at p h = simp (length-append, length-take, length-drop) (omega arith)

-- no frame changes the length of the buffer that was lent for it
pub buffered-length : (limit : ℕ) (r : Receiver) (t : Telegram) (p b : List ℕ) → length (buffered r (received limit r t p (length b)).note p b) ≡ length b
buffered-length limit r t p b =
    either (is_used (received limit r t p (length b)).note) (λ u. go u (first r) refl (used-fits limit r t p (length b) u)) (λ u. ap length (buffered-unused r _ p b u))
  where
    go : is_used (received limit r t p (length b)).note ≡ true → (f : Bool) → first r ≡ f → Fits r p (length b) f → length (buffered r (received limit r t p (length b)).note p b) ≡ length b
    go u true f h = ap length (buffered-first r _ p b u f) ∙ pasted_length b 0 (drop 2 p) (simp length-drop (omega arith))
    go u false f h = ap length (buffered-later r _ p b u f) ∙ pasted_length b r.at.fill p h

-- ---- break and take

-- a break leaves the complete message and the due Ack
pub returned-leaves : (r : Receiver) → ((returned r).complete ≡ r.complete) × ((returned r).ack ≡ r.ack)
returned-leaves r = (refl, refl)

-- with none complete, none is taken
pub took-none : (r : Receiver) (room : ℕ) → waiting r ≡ false → took r room ≡ record { message = NoneComplete; receiver = r }
unfolding took
took-none r room e = rw e
