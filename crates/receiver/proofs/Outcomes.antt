-- What becomes of a data telegram, and of a take: each case with all that led to it, so that every test on the way is known.
-- Laws of these calls go by the cases; nobody above takes the tests apart again.
--     Outcome, outcome              data: out of place, untaken, thrown away, or judged by its message
--     Judged, judged                a first or a later frame: it breaks its message, or the buffer is short, or the message goes on or ends
--     Breaks                        how a frame breaks its message
--     fitting                       a frame that fits its message is used
--     TakeOutcome, take-outcome     a take
use Rattle.std.specs.Prelude.{if◌then◌else◌}
use Prim.Native.Nat.{ℕ, ◌+◌, ◌-◌, ◌<◌, ◌≤◌}
use native.Mathlib.Omega.{arith}
use mathlib.Core.Bool.{Bool, true, false, not, ◌&&◌}
use mathlib.Core.Path.{◌≡◌, refl, ◌∙◌}
use mathlib.Core.List.{List}
use lib.ListN.{length, get_or}
use lib.Dec.{ltb, eqb}
use borrow.Author.Tests.{eqb-false, eqb-true, ltb-false, ltb-true, eq-eqb, ne_eqb, le-ltb, not-true}
use Rattle.laws.proofs.Cases.{by, by-not, by-lt, by-eq, both}
use Rattle.telegram.specs.Cutting.{none, declared_of}
use Rattle.receiver.specs.Receiving.{first, waiting, kept, discarded, used, completed, filled, on_first, on_later, on_data, took, Shown, NoneComplete, ShortBuffer}
use Rattle.receiver.specs.Inside.{in_order}
use Rattle.telegram.specs.declared.cutting.Message.{Message}
use Rattle.receiver.specs.declared.Receiver.{Receiver}
use Rattle.receiver.specs.declared.Cause.{Cause}
use Rattle.receiver.specs.declared.Cause.TheVariants.{TooShort, BadLength, TooMany, NoEnd, EarlyEnd}
use Rattle.receiver.specs.declared.Receipt.TheVariants.{Used, Complete, ThrownAway, OutOfPlace, Untaken, ShortFirst, ShortLater, Broken}
use Rattle.receiver.specs.declared.Received.{Received}
use Rattle.receiver.specs.declared.Took.{Took}

-- ---- a first or a later frame

-- the message that a first frame declares
abbrev pub declared_by : List ℕ → Message
declared_by p = declared_of (get_or p 0 0) (get_or p 1 0)

-- the message that a frame belongs to, and to how many bytes it brings it: one begun with a right length, or one that the buffer can hold
pub data Brings (limit : ℕ) (r : Receiver) (p : List ℕ) (room : ℕ) : Message → ℕ → Type 0 where
  at_first : first r ≡ true → 2 ≤ length p → 1 ≤ (declared_by p).length → (declared_by p).length ≤ limit → Brings limit r p room (declared_by p) (length p - 2)
  at-later : first r ≡ false → r.at.begun.length ≤ room → Brings limit r p room r.at.begun (r.at.fill + length p)

-- EOM stands where the bytes reach the declared length, and only there
abbrev pub EndsThere : (last : Bool) → (fill length : ℕ) → Type 0
EndsThere true fill n = fill ≡ n
EndsThere false fill n = fill < n

-- a frame that breaks its message
pub data Breaks (limit : ℕ) (r : Receiver) (last : Bool) (p : List ℕ) (room : ℕ) : Cause → Type 0 where
  too_short : first r ≡ true → length p < 2 → Breaks limit r last p room TooShort
  declares-none : first r ≡ true → 2 ≤ length p → (declared_by p).length ≡ 0 → Breaks limit r last p room BadLength
  over-limit : first r ≡ true → 2 ≤ length p → 1 ≤ (declared_by p).length → limit < (declared_by p).length → Breaks limit r last p room BadLength
  too_many : {m : Message} {fill : ℕ} → Brings limit r p room m fill → m.length < fill → Breaks limit r last p room TooMany
  no_end : {m : Message} {fill : ℕ} → Brings limit r p room m fill → last ≡ false → fill ≡ m.length → Breaks limit r last p room NoEnd
  early-end : {m : Message} {fill : ℕ} → Brings limit r p room m fill → last ≡ true → fill < m.length → Breaks limit r last p room EarlyEnd

pub data Judged (limit : ℕ) (r : Receiver) (asks last : Bool) (p : List ℕ) (room : ℕ) : Received → Type 0 where
  breaks : {c : Cause} → Breaks limit r last p room c → Judged limit r asks last p room (record { note = Broken c; receiver = discarded r asks last })
  short-first : {m : Message} {fill : ℕ} → Brings limit r p room m fill → EndsThere last fill m.length → room < m.length
      → Judged limit r asks last p room (record { note = ShortFirst; receiver = discarded r asks last })
  short-later : first r ≡ false → room < r.at.begun.length → Judged limit r asks last p room (record { note = ShortLater; receiver = r })
  goes_on : {m : Message} {fill : ℕ} → Brings limit r p room m fill → last ≡ false → fill < m.length → m.length ≤ room
      → Judged limit r asks last p room (record { note = Used; receiver = used r asks m fill })
  ends : {m : Message} {fill : ℕ} → Brings limit r p room m fill → last ≡ true → fill ≡ m.length → m.length ≤ room
      → Judged limit r asks last p room (record { note = Complete; receiver = completed r asks m })

-- of a frame that does not break its message
ends_there : (last : Bool) (fill n : ℕ) → fill ≤ n → (not last && eqb fill n) ≡ false → (last && ltb fill n) ≡ false → EndsThere last fill n
ends_there true fill n few not_at_end early_end = let all = ltb-false fill n early_end in omega arith
ends_there false fill n few not_at_end early_end = let less = eqb-false fill n not_at_end in omega arith

module _ (limit : ℕ) (r : Receiver) (asks last : Bool) (p : List ℕ) (room : ℕ) where
  abbrev Here : Received → Type 0
  Here x = Judged limit r asks last p room x

  filled-judged : {m : Message} {fill : ℕ} → Brings limit r p room m fill → Here (filled r asks last m fill room)
  unfolding filled
  filled-judged {m} {fill} b =
      by-lt Here m.length fill (λ many. breaks (too_many b many)) (λ few.
      by Here (not last && eqb fill m.length) (λ t. let h = both (not last) _ t in breaks (no_end b (not-true last h.0) (eqb-true fill m.length h.1))) (λ not_at_end.
      by Here (last && ltb fill m.length) (λ t. let h = both last _ t in breaks (early-end b h.0 (ltb-true fill m.length h.1))) (λ early_end.
      let e = ends_there last fill m.length few not_at_end early_end in
      by-lt Here room m.length (λ short. short-first b e short) (λ roomy.
      by Here last (λ l. ends b l (rw l at e) roomy) (λ l. goes_on b l (rw l at e) roomy)))))

  pub judged : Here (in_order limit r asks last p room)
  unfolding on_first on_later
  judged =
      by Here (first r)
      (λ f.
      by-lt Here (length p) 2 (λ short. breaks (too_short f short)) (λ two.
      by-eq Here (declared_by p).length 0 (λ z. breaks (declares-none f two z)) (λ some.
      by-lt Here limit (declared_by p).length (λ over. breaks (over-limit f two (omega arith) over)) (λ most.
      filled-judged (at_first f two (omega arith) most)))))
      (λ f. by-lt Here room r.at.begun.length (λ short. short-later f short) (λ roomy. filled-judged (at-later f roomy)))

-- ---- a data telegram

-- a frame with the expected number, while no message waits or is being thrown away
pub record InOrder (r : Receiver) (number : ℕ) : Type 0 where
  pub expected : number ≡ r.at.expected
  pub none-waits : waiting r ≡ false
  pub not-discarding : r.at.discarding ≡ false

pub data Outcome (limit : ℕ) (r : Receiver) (asks last : Bool) (number : ℕ) (p : List ℕ) (room : ℕ) : Received → Type 0 where
  out-of-place : (number ≡ r.at.expected → ⊥) → Outcome limit r asks last number p room (record { note = OutOfPlace r.at.expected; receiver = kept r asks })
  untaken : number ≡ r.at.expected → waiting r ≡ true → Outcome limit r asks last number p room (record { note = Untaken; receiver = kept r asks })
  thrown-away : number ≡ r.at.expected → waiting r ≡ false → r.at.discarding ≡ true
      → Outcome limit r asks last number p room (record { note = ThrownAway; receiver = discarded r asks last })
  in-order : {x : Received} → InOrder r number → Judged limit r asks last p room x → Outcome limit r asks last number p room x

module _ (limit : ℕ) (r : Receiver) (asks last : Bool) (number : ℕ) (p : List ℕ) (room : ℕ) where
  pub outcome : Outcome limit r asks last number p room (on_data limit r asks last number p room)
  unfolding on_data
  outcome =
      by-not Here (eqb number r.at.expected) (λ n. out-of-place (eqb-false number r.at.expected n)) (λ y.
      let e = eqb-true number r.at.expected y in
      by Here (waiting r) (λ w. untaken e w) (λ w.
      by Here r.at.discarding (λ t. thrown-away e w t) (λ t.
      in-order (record { expected = e; none-waits = w; not-discarding = t }) (judged limit r asks last p room))))
    where
      Here : Received → Type 0
      Here = Outcome limit r asks last number p room

  -- a frame in order is judged by its message
  order-judged : InOrder r number → on_data limit r asks last number p room ≡ in_order limit r asks last p room
  unfolding on_data
  order-judged o = rw (eq-eqb number r.at.expected o.expected, o.none-waits, o.not-discarding)

  -- that is by the bytes that it brings its message to
  brings-filled : {m : Message} {fill : ℕ} → Brings limit r p room m fill → in_order limit r asks last p room ≡ filled r asks last m fill room
  unfolding on_first on_later
  brings-filled (at_first f two some most) = rw (f, le-ltb (length p) 2 two, ne_eqb (declared_by p).length 0 (λ z. omega arith), le-ltb limit (declared_by p).length most)
  brings-filled (at-later f held) = rw (f, le-ltb room r.at.begun.length held)

  -- how a frame that fits its message leaves it
  abbrev pub fitted : Message → ℕ → Received
  fitted m fill = if last then record { note = Complete; receiver = completed r asks m } else record { note = Used; receiver = used r asks m fill }

  filled-fitted : (l : Bool) → last ≡ l → (m : Message) (fill : ℕ) → EndsThere l fill m.length → m.length ≤ room → filled r asks last m fill room ≡ fitted m fill
  unfolding filled
  filled-fitted true l m fill e roomy = rw (l, le-ltb m.length fill (omega arith), le-ltb fill m.length (omega arith), le-ltb room m.length roomy)
  filled-fitted false l m fill e roomy = rw (l, le-ltb m.length fill (omega arith), ne_eqb fill m.length (λ z. omega arith), le-ltb room m.length roomy)

  -- a frame in order that brings its message as far as EOM says is used, if the buffer is long enough
  pub fitting : {m : Message} {fill : ℕ} → InOrder r number → Brings limit r p room m fill → EndsThere last fill m.length → m.length ≤ room
      → on_data limit r asks last number p room ≡ fitted m fill
  fitting {m} {fill} o b e roomy = order-judged o ∙ brings-filled b ∙ filled-fitted last refl m fill e roomy

-- ---- a take

pub data TakeOutcome (r : Receiver) (room : ℕ) : Took → Type 0 where
  none-complete : waiting r ≡ false → TakeOutcome r room (record { message = NoneComplete; receiver = r })
  short-buffer : waiting r ≡ true → room < r.complete.length → TakeOutcome r room (record { message = ShortBuffer; receiver = r })
  shows : waiting r ≡ true → r.complete.length ≤ room
      → TakeOutcome r room (record { message = Shown r.complete; receiver = record { at = r.at; back = r.back; complete = none; ack = r.ack } })

pub take-outcome : (r : Receiver) (room : ℕ) → TakeOutcome r room (took r room)
unfolding took
take-outcome r room =
    by-not (TakeOutcome r room) (waiting r) (λ w. none-complete w) (λ w.
    by-lt (TakeOutcome r room) room r.complete.length (λ short. short-buffer w short) (λ fits. shows w fits))
