-- When each receipt is given: in numbers and bytes, and for every receiver, frame and buffer exactly one.
--     Given                     the cases, in the order of 01: 12, 5, thrown away, 7 on a later frame, 9, 7 on a first frame
--     note-given, given-note    a receipt is given in its cases, and only there
--     *-both-sides              declared lengths on both sides of each limit
use Rattle.std.specs.Prelude.{if◌then◌else◌}
use Prim.Native.Nat.{ℕ, ◌+◌, ◌-◌, ◌<◌, ◌≤◌}
use native.Mathlib.Omega.{arith}
use mathlib.Core.Bool.{Bool, true, false, false≢true}
use mathlib.Core.Path.{◌≡◌, refl, ◌∙◌, ap}
use mathlib.Core.List.{List, [], ◌∷◌}
use lib.ListN.{length}
use lib.Dec.{ltb, eqb}
use borrow.Author.Tests.{ltb-true, ltb-false, eqb-true, eqb-false, lt-ltb, le-ltb, eq-eqb, ne_eqb}
use Rattle.laws.proofs.Cases.{each}
use Rattle.receiver.specs.Receiving.{fresh, first, filled, on_first, on_later, on_data}
use Rattle.telegram.specs.declared.cutting.Message.{Message}
use Rattle.receiver.specs.declared.Receiver.{Receiver}
use Rattle.receiver.specs.declared.Cause.{Cause}
use Rattle.receiver.specs.declared.Cause.TheVariants.{TooShort, BadLength, TooMany, NoEnd, EarlyEnd}
use Rattle.receiver.specs.declared.Receipt.{Receipt}
use Rattle.receiver.specs.declared.Receipt.TheVariants.{Used, Complete, ThrownAway, OutOfPlace, Untaken, ShortFirst, ShortLater, Broken}
use Rattle.receiver.specs.declared.Received.{Received}
use Rattle.receiver.proofs.Outcomes.{Brings, at_first, at-later, EndsThere, Breaks, too_short, declares-none, over-limit, too_many, no_end, early-end, breaks, short-first, short-later, goes_on, ends, InOrder, Outcome, out-of-place, untaken, thrown-away, in-order, outcome}
use Rattle.receiver.proofs.Rules.{declares, flags_in, is_numbered, waiting-some, waiting_none, first-begun}

-- a frame with the expected number, while no message waits and none is thrown away
pub record InPlace (r : Receiver) (number : ℕ) : Type 0 where
  pub expected : number ≡ r.at.expected
  pub none-waits : r.complete.length ≡ 0
  pub kept : r.at.discarding ≡ false

-- it is a message's first: nothing is begun
pub record First (r : Receiver) (number : ℕ) : Type 0 where
  pub in_place : InPlace r number
  pub none-begun : r.at.begun.length ≡ 0

-- a first frame with its length bytes, that declares a right length
pub record Begins (limit : ℕ) (r : Receiver) (number : ℕ) (p : List ℕ) : Type 0 where
  pub is-first : First r number
  pub two : 2 ≤ length p
  pub some : 1 ≤ declares p
  pub most : declares p ≤ limit

-- a later frame, of a message that the lent buffer can hold
pub record GoesOn (r : Receiver) (number room : ℕ) : Type 0 where
  pub in_place : InPlace r number
  pub begun : 1 ≤ r.at.begun.length
  pub fits : r.at.begun.length ≤ room

pub data Given (limit : ℕ) (r : Receiver) (last : Bool) (number : ℕ) (p : List ℕ) (room : ℕ) : Receipt → Type 0 where
  -- "12: data out of place"
  out : (number ≡ r.at.expected → ⊥) → Given limit r last number p room (OutOfPlace r.at.expected)
  -- "5: in-order data while one waits untaken"
  waits : number ≡ r.at.expected → 1 ≤ r.complete.length → Given limit r last number p room Untaken
  -- "the following in-order frames are .. thrown away": they need no buffer
  away : number ≡ r.at.expected → r.complete.length ≡ 0 → r.at.discarding ≡ true → Given limit r last number p room ThrownAway
  -- "7: at in-order data .. lent buffer shorter than the declared length", on a later frame
  held-off : InPlace r number → 1 ≤ r.at.begun.length → room < r.at.begun.length → Given limit r last number p room ShortLater
  -- "a first frame of 2 bytes"
  two_bytes : First r number → length p ≤ 1 → Given limit r last number p room (Broken TooShort)
  -- "declared length 0 or over 1,024"
  none-declared : First r number → 2 ≤ length p → declares p ≡ 0 → Given limit r last number p room (Broken BadLength)
  over-declared : First r number → 2 ≤ length p → limit < declares p → Given limit r last number p room (Broken BadLength)
  -- "bytes beyond the declared length"
  beyond-first : Begins limit r number p → declares p + 2 < length p → Given limit r last number p room (Broken TooMany)
  beyond-later : GoesOn r number room → r.at.begun.length < r.at.fill + length p → Given limit r last number p room (Broken TooMany)
  -- "no EOM though the bytes have reached it"
  endless-first : Begins limit r number p → last ≡ false → length p ≡ declares p + 2 → Given limit r last number p room (Broken NoEnd)
  endless-later : GoesOn r number room → last ≡ false → r.at.fill + length p ≡ r.at.begun.length → Given limit r last number p room (Broken NoEnd)
  -- "EOM with too few"
  few-first : Begins limit r number p → last ≡ true → length p < declares p + 2 → Given limit r last number p room (Broken EarlyEnd)
  few-later : GoesOn r number room → last ≡ true → r.at.fill + length p < r.at.begun.length → Given limit r last number p room (Broken EarlyEnd)
  -- row 7 on a first frame that is not broken
  short-going : Begins limit r number p → last ≡ false → length p < declares p + 2 → room < declares p → Given limit r last number p room ShortFirst
  short-whole : Begins limit r number p → last ≡ true → length p ≡ declares p + 2 → room < declares p → Given limit r last number p room ShortFirst
  -- "A frame with the expected number is used"
  used-first : Begins limit r number p → last ≡ false → length p < declares p + 2 → declares p ≤ room → Given limit r last number p room Used
  used-later : GoesOn r number room → last ≡ false → r.at.fill + length p < r.at.begun.length → Given limit r last number p room Used
  -- and completes its message at EOM
  whole-first : Begins limit r number p → last ≡ true → length p ≡ declares p + 2 → declares p ≤ room → Given limit r last number p room Complete
  whole-later : GoesOn r number room → last ≡ true → r.at.fill + length p ≡ r.at.begun.length → Given limit r last number p room Complete

-- ---- a receipt is given only in its cases

in_place_of : {r : Receiver} {number : ℕ} → InOrder r number → InPlace r number
in_place_of {r} o = let w = ltb-false 0 r.complete.length o.none-waits in record { expected = o.expected; none-waits = omega arith; kept = o.not-discarding }

first_of : {r : Receiver} {number : ℕ} → InOrder r number → first r ≡ true → First r number
first_of {r} o f = record { in_place = in_place_of o; none-begun = eqb-true r.at.begun.length 0 f }

begins-of : {limit : ℕ} {r : Receiver} {number : ℕ} {p : List ℕ} → InOrder r number → first r ≡ true → 2 ≤ length p → 1 ≤ declares p → declares p ≤ limit
    → Begins limit r number p
begins-of o f two some most = record { is-first = first_of o f; two = two; some = some; most = most }

some-begun : (n : ℕ) → eqb n 0 ≡ false → 1 ≤ n
some-begun n f = let z = eqb-false n 0 f in omega (arith, z)

goes_of : {r : Receiver} {number room : ℕ} → InOrder r number → first r ≡ false → r.at.begun.length ≤ room → GoesOn r number room
goes_of {r} o f held = record { in_place = in_place_of o; begun = some-begun r.at.begun.length f; fits = held }

module _ {limit : ℕ} {r : Receiver} {last : Bool} {number : ℕ} {p : List ℕ} {room : ℕ} where
  broken-given : {c : Cause} → InOrder r number → Breaks limit r last p room c → Given limit r last number p room (Broken c)
  broken-given o (too_short f short) = two_bytes (first_of o f) (omega arith)
  broken-given o (declares-none f two z) = none-declared (first_of o f) two z
  broken-given o (over-limit f two some over) = over-declared (first_of o f) two over
  broken-given o (too_many (at_first f two some most) many) = beyond-first (begins-of o f two some most) (omega arith)
  broken-given o (too_many (at-later f held) many) = beyond-later (goes_of o f held) many
  broken-given o (no_end (at_first f two some most) l e) = endless-first (begins-of o f two some most) l (omega arith)
  broken-given o (no_end (at-later f held) l e) = endless-later (goes_of o f held) l e
  broken-given o (early-end (at_first f two some most) l few) = few-first (begins-of o f two some most) l (omega arith)
  broken-given o (early-end (at-later f held) l few) = few-later (goes_of o f held) l few

  short-given : {m : Message} {fill : ℕ} → InOrder r number → Brings limit r p room m fill → (l : Bool) → last ≡ l → EndsThere l fill m.length → room < m.length
      → Given limit r last number p room ShortFirst
  short-given o (at_first f two some most) true l e s = short-whole (begins-of o f two some most) l (omega arith) s
  short-given o (at_first f two some most) false l e s = short-going (begins-of o f two some most) l (omega arith) s
  short-given o (at-later f held) b l e s = absurd (omega arith)

  outcome-given : {asks : Bool} {x : Received} → Outcome limit r asks last number p room x → Given limit r last number p room x.note
  outcome-given (out-of-place n) = out n
  outcome-given (untaken e w) = waits e (ltb-true 0 r.complete.length w)
  outcome-given (thrown-away e w t) = let z = ltb-false 0 r.complete.length w in away e (omega arith) t
  outcome-given (in-order o (breaks c)) = broken-given o c
  outcome-given (in-order o (short-first b e s)) = short-given o b last refl e s
  outcome-given (in-order o (short-later f s)) = held-off (in_place_of o) (some-begun r.at.begun.length f) s
  outcome-given (in-order o (goes_on (at_first f two some most) l less roomy)) = used-first (begins-of o f two some most) l (omega arith) roomy
  outcome-given (in-order o (goes_on (at-later f held) l less roomy)) = used-later (goes_of o f held) l less
  outcome-given (in-order o (ends (at_first f two some most) l all roomy)) = whole-first (begins-of o f two some most) l (omega arith) roomy
  outcome-given (in-order o (ends (at-later f held) l all roomy)) = whole-later (goes_of o f held) l all

-- what a frame is answered with is given in one of its cases
pub note-given : (limit : ℕ) (r : Receiver) (asks last : Bool) (number : ℕ) (p : List ℕ) (room : ℕ)
    → Given limit r last number p room (on_data limit r asks last number p room).note
note-given limit r asks last number p room = outcome-given (outcome limit r asks last number p room)

-- a frame that is numbered has the expected number, and no message waited
pub given-numbered : {limit : ℕ} {r : Receiver} {last : Bool} {number : ℕ} {p : List ℕ} {room : ℕ} {n : Receipt}
    → Given limit r last number p room n → is_numbered n ≡ true → (number ≡ r.at.expected) × (r.complete.length ≡ 0)
given-numbered (out n) u = absurd (false≢true u)
given-numbered (waits e w) u = absurd (false≢true u)
given-numbered (held-off o b s) u = absurd (false≢true u)
given-numbered (away e w t) u = (e, w)
given-numbered (two_bytes f h) u = (f.in_place.expected, f.in_place.none-waits)
given-numbered (none-declared f two z) u = (f.in_place.expected, f.in_place.none-waits)
given-numbered (over-declared f two o) u = (f.in_place.expected, f.in_place.none-waits)
given-numbered (beyond-first b h) u = (b.is-first.in_place.expected, b.is-first.in_place.none-waits)
given-numbered (beyond-later g h) u = (g.in_place.expected, g.in_place.none-waits)
given-numbered (endless-first b l e) u = (b.is-first.in_place.expected, b.is-first.in_place.none-waits)
given-numbered (endless-later g l e) u = (g.in_place.expected, g.in_place.none-waits)
given-numbered (few-first b l h) u = (b.is-first.in_place.expected, b.is-first.in_place.none-waits)
given-numbered (few-later g l h) u = (g.in_place.expected, g.in_place.none-waits)
given-numbered (short-going b l h s) u = (b.is-first.in_place.expected, b.is-first.in_place.none-waits)
given-numbered (short-whole b l e s) u = (b.is-first.in_place.expected, b.is-first.in_place.none-waits)
given-numbered (used-first b l h f) u = (b.is-first.in_place.expected, b.is-first.in_place.none-waits)
given-numbered (used-later g l h) u = (g.in_place.expected, g.in_place.none-waits)
given-numbered (whole-first b l e f) u = (b.is-first.in_place.expected, b.is-first.in_place.none-waits)
given-numbered (whole-later g l e) u = (g.in_place.expected, g.in_place.none-waits)

-- ---- and in all of them

module _ (r : Receiver) (asks last : Bool) (m : Message) (fill room : ℕ) where
  many-noted : m.length < fill → (filled r asks last m fill room).note ≡ Broken TooMany
  unfolding filled
  many-noted h = rw (lt-ltb m.length fill h)

  endless-noted : last ≡ false → fill ≡ m.length → (filled r asks last m fill room).note ≡ Broken NoEnd
  unfolding filled
  endless-noted l e = rw (l, le-ltb m.length fill (omega arith), eq-eqb fill m.length e)

  few-noted : last ≡ true → fill < m.length → (filled r asks last m fill room).note ≡ Broken EarlyEnd
  unfolding filled
  few-noted l h = rw (l, le-ltb m.length fill (omega arith), lt-ltb fill m.length h)

  going-noted : last ≡ false → fill < m.length → (filled r asks last m fill room).note ≡ (if ltb room m.length then ShortFirst else Used)
  unfolding filled
  going-noted l h =
      rw (l, le-ltb m.length fill (omega arith), ne_eqb fill m.length (λ e. omega arith)) (each (λ (x : Received). x.note) (ltb room m.length) refl refl)

  whole-noted : last ≡ true → fill ≡ m.length → (filled r asks last m fill room).note ≡ (if ltb room m.length then ShortFirst else Complete)
  unfolding filled
  whole-noted l e =
      rw (l, le-ltb m.length fill (omega arith), le-ltb fill m.length (omega arith)) (each (λ (x : Received). x.note) (ltb room m.length) refl refl)

module _ (limit : ℕ) (r : Receiver) (asks last : Bool) (number : ℕ) (p : List ℕ) (room : ℕ) where
  abbrev answer : Received
  answer = on_data limit r asks last number p room

  place-answers : InPlace r number → answer ≡ (if eqb r.at.begun.length 0 then on_first limit r asks last p room else on_later r asks last p room)
  unfolding on_data
  place-answers o = rw (eq-eqb number r.at.expected o.expected, waiting_none r o.none-waits, o.kept)

  first-answers : First r number → answer ≡ on_first limit r asks last p room
  first-answers f = place-answers f.in_place ∙ rw f.none-begun

  begins-answers : Begins limit r number p → answer ≡ filled r asks last (record { length = declares p; flags = flags_in p }) (length p - 2) room
  unfolding on_first
  begins-answers b = first-answers b.is-first ∙ rw (le-ltb (length p) 2 b.two, ne_eqb (declares p) 0 (λ z. omega arith), le-ltb limit (declares p) b.most)

  goes-answers : GoesOn r number room → answer ≡ filled r asks last r.at.begun (r.at.fill + length p) room
  unfolding on_later
  goes-answers g = place-answers g.in_place ∙ rw (first-begun r g.begun, le-ltb room r.at.begun.length g.fits)

  begins-noted : {n : Receipt} → Begins limit r number p → (filled r asks last (record { length = declares p; flags = flags_in p }) (length p - 2) room).note ≡ n → answer.note ≡ n
  begins-noted b e = ap (λ (x : Received). x.note) (begins-answers b) ∙ e

  goes-noted : {n : Receipt} → GoesOn r number room → (filled r asks last r.at.begun (r.at.fill + length p) room).note ≡ n → answer.note ≡ n
  goes-noted g e = ap (λ (x : Received). x.note) (goes-answers g) ∙ e

  -- each case gives its receipt, with AR or without
  pub given-note : {n : Receipt} → Given limit r last number p room n → answer.note ≡ n
  unfolding on_data on_first on_later
  given-note (out n) = rw (ne_eqb number r.at.expected n)
  given-note (waits e w) = rw (eq-eqb number r.at.expected e, waiting-some r w)
  given-note (away e w t) = rw (eq-eqb number r.at.expected e, waiting_none r w, t)
  given-note (held-off o b s) = rw (place-answers o, first-begun r b, lt-ltb room r.at.begun.length s)
  given-note (two_bytes f h) = rw (first-answers f, lt-ltb (length p) 2 (omega arith))
  given-note (none-declared f two z) = rw (first-answers f, le-ltb (length p) 2 two, eq-eqb (declares p) 0 z)
  given-note (over-declared f two over) = rw (first-answers f, le-ltb (length p) 2 two, ne_eqb (declares p) 0 (λ z. omega arith), lt-ltb limit (declares p) over)
  given-note (beyond-first b h) = begins-noted b (many-noted _ _ _ _ _ _ (omega arith))
  given-note (beyond-later g h) = goes-noted g (many-noted _ _ _ _ _ _ h)
  given-note (endless-first b l e) = begins-noted b (endless-noted _ _ _ _ _ _ l (omega arith))
  given-note (endless-later g l e) = goes-noted g (endless-noted _ _ _ _ _ _ l e)
  given-note (few-first b l h) = let two = b.two in begins-noted b (few-noted _ _ _ _ _ _ l (omega arith))
  given-note (few-later g l h) = goes-noted g (few-noted _ _ _ _ _ _ l h)
  given-note (short-going b l h s) = begins-noted b (going-noted _ _ _ _ _ _ l (omega arith) ∙ rw (lt-ltb room (declares p) s))
  given-note (short-whole b l e s) = begins-noted b (whole-noted _ _ _ _ _ _ l (omega arith) ∙ rw (lt-ltb room (declares p) s))
  given-note (used-first b l h f) = begins-noted b (going-noted _ _ _ _ _ _ l (omega arith) ∙ rw (le-ltb room (declares p) f))
  given-note (used-later g l h) = goes-noted g (going-noted _ _ _ _ _ _ l h ∙ rw (le-ltb room r.at.begun.length g.fits))
  given-note (whole-first b l e f) = begins-noted b (whole-noted _ _ _ _ _ _ l (omega arith) ∙ rw (le-ltb room (declares p) f))
  given-note (whole-later g l e) = goes-noted g (whole-noted _ _ _ _ _ _ l e ∙ rw (le-ltb room r.at.begun.length g.fits))

-- ---- numbers on both sides

-- what a fresh receiver answers to a first frame, lent a buffer of room bytes
abbrev first_note : (last : Bool) (room : ℕ) → List ℕ → Receipt
first_note last room p = (on_data 1024 fresh true last 0 p room).note

-- "Lengths 1 and 1,024 pass; 0 and 1,025 don't"; a first frame of 2 bytes, and one of 3
pub lengths-both-sides : first_note true 1024 (0 ∷ 1 ∷ 7 ∷ []) ∷ first_note false 1024 (4 ∷ 0 ∷ 7 ∷ []) ∷ first_note true 1024 (0 ∷ 0 ∷ 7 ∷ []) ∷ first_note false 2048 (4 ∷ 1 ∷ 7 ∷ [])
    ∷ first_note false 1024 (4 ∷ []) ∷ first_note false 1024 (4 ∷ 0 ∷ []) ∷ []
    ≡ Complete ∷ Used ∷ Broken BadLength ∷ Broken BadLength ∷ Broken TooShort ∷ Used ∷ []
unfolding on_data on_first filled
lengths-both-sides = refl

-- "Declared length equal to the buffer passes, one more gives 7"
pub rooms-both-sides : first_note false 1024 (4 ∷ 0 ∷ 7 ∷ []) ∷ first_note false 1023 (4 ∷ 0 ∷ 7 ∷ []) ∷ first_note true 2 (0 ∷ 2 ∷ 7 ∷ 8 ∷ []) ∷ first_note true 1 (0 ∷ 2 ∷ 7 ∷ 8 ∷ []) ∷ []
    ≡ Used ∷ ShortFirst ∷ Complete ∷ ShortFirst ∷ []
unfolding on_data on_first filled
rooms-both-sides = refl

-- the bytes of a first frame with and without EOM: one too many, as many as declared, one too few
pub ends-both-sides : first_note true 9 (0 ∷ 2 ∷ 7 ∷ 8 ∷ 9 ∷ []) ∷ first_note true 9 (0 ∷ 2 ∷ 7 ∷ 8 ∷ []) ∷ first_note true 9 (0 ∷ 2 ∷ 7 ∷ [])
    ∷ first_note false 9 (0 ∷ 2 ∷ 7 ∷ 8 ∷ 9 ∷ []) ∷ first_note false 9 (0 ∷ 2 ∷ 7 ∷ 8 ∷ []) ∷ first_note false 9 (0 ∷ 2 ∷ 7 ∷ []) ∷ []
    ≡ Broken TooMany ∷ Complete ∷ Broken EarlyEnd ∷ Broken TooMany ∷ Broken NoEnd ∷ Used ∷ []
unfolding on_data on_first filled
ends-both-sides = refl
