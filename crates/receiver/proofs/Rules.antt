-- What every call leaves, field by field: the rules of "Receiving" and of the break over records and numbers alone.
--     fresh-is, returned-is, handed-is, take-*      the calls that no frame makes
--     numbers-follow                                the number behind each of the sixteen
--     Left, data-left                               what a frame leaves, by what became of it
--     ack-asked, ack-unasked                        the Ack after a frame
--     Back, data-back                               the place that a break returns to, after a frame
--     inside-leaves                                 a frame with neither AR nor EOM leaves it, the complete message and the Ack
use Rattle.std.specs.Prelude.{if◌then◌else◌}
use Prim.Native.Nat.{ℕ, ◌+◌, ◌*◌, ◌-◌, ◌/◌, ◌%◌, ◌<◌, ◌≤◌}
use native.Mathlib.Omega.{arith}
use mathlib.Core.Bool.{Bool, true, false, not, ◌&&◌, ◌||◌, false≢true}
use mathlib.Core.Path.{◌≡◌, refl, ◌∙◌}
use mathlib.Core.List.{List, [], ◌∷◌}
use lib.ListN.{length, get_or}
use lib.Dec.{eqb}
use borrow.Author.Tests.{lt-ltb, le-ltb, ne_eqb}
use Rattle.receiver.specs.Receiving.{fresh, first, waiting, following, settled, numbered, kept, discarded, used, completed, on_data, returned, ack_handed, took, Shown, NoneComplete, ShortBuffer}
use Rattle.telegram.specs.declared.cutting.Message.{Message}
use Rattle.receiver.specs.declared.Receiver.{Receiver}
use Rattle.receiver.specs.declared.Receipt.{Receipt}
use Rattle.receiver.specs.declared.Receipt.TheVariants.{Used, Complete, ThrownAway, OutOfPlace, Untaken, ShortFirst, ShortLater, Broken, NoData}
use Rattle.receiver.specs.declared.Received.{Received}
use Rattle.receiver.proofs.Laws.{data-acked}
use Rattle.receiver.proofs.Gaps.{none-ready}
use Rattle.receiver.proofs.Outcomes.{Brings, at_first, at-later, breaks, short-first, short-later, goes_on, ends, Outcome, out-of-place, untaken, thrown-away, in-order, outcome}

-- ---- calls that no frame makes

-- "After the A1 all numbers start at 0, and no message received .. due frame .. remains from before it"
pub fresh-is : fresh
    ≡ record {
      at = record { expected = 0; discarding = false; begun = record { length = 0; flags = 0 }; fill = 0 };
      back = record { expected = 0; discarding = false; begun = record { length = 0; flags = 0 }; fill = 0 };
      complete = record { length = 0; flags = 0 };
      ack = record { due = false; ready = false; number = 0 };
    }
fresh-is = refl

-- "Break (004): the receiver returns to where it stood when an Ack last became due or a message last ended .. a complete message stays, a taken one stays taken"
pub returned-is : (r : Receiver) → returned r ≡ record { at = r.back; back = r.back; complete = r.complete; ack = r.ack }
returned-is r = refl

-- an Ack that was handed over is due no more, and nothing else changes
pub handed-is : (r : Receiver) → ack_handed r ≡ record { at = r.at; back = r.back; complete = r.complete; ack = record { due = false; ready = false; number = 0 } }
handed-is r = refl

module _ (r : Receiver) where
  -- a complete message waits if it has bytes, and only then
  pub waiting-some : 1 ≤ r.complete.length → waiting r ≡ true
  waiting-some h = lt-ltb 0 r.complete.length h

  pub waiting_none : r.complete.length ≡ 0 → waiting r ≡ false
  waiting_none e = rw e

  -- a message is begun if it has bytes, and only then
  pub first-none : r.at.begun.length ≡ 0 → first r ≡ true
  first-none e = rw e

  pub first-begun : 1 ≤ r.at.begun.length → first r ≡ false
  first-begun h = ne_eqb r.at.begun.length 0 (λ e. omega arith)

  module _ (room : ℕ) where
    -- a take shows a complete message that the lent buffer can hold, with its length and flags; it is taken, and nothing else changes
    pub take-shown : 1 ≤ r.complete.length → r.complete.length ≤ room
        → took r room ≡ record { message = Shown r.complete; receiver = record { at = r.at; back = r.back; complete = record { length = 0; flags = 0 }; ack = r.ack } }
    unfolding took
    take-shown some fits = rw (waiting-some some, le-ltb room r.complete.length fits)

    -- row 5, "take with none complete": nothing changes, and no message is shown
    pub take_none : r.complete.length ≡ 0 → took r room ≡ record { message = NoneComplete; receiver = r }
    unfolding took
    take_none e = rw (waiting_none e)

    -- row 7, "at .. take, lent buffer shorter than the declared length": nothing changes, and no message is shown
    pub take_short : room < r.complete.length → took r room ≡ record { message = ShortBuffer; receiver = r }
    unfolding took
    take_short short = rw (waiting-some (omega arith), lt-ltb room r.complete.length short)

-- the numbers count on modulo 16: 0 comes behind 15
pub numbers-follow : following 0 ∷ following 1 ∷ following 2 ∷ following 3 ∷ following 4 ∷ following 5 ∷ following 6 ∷ following 7
    ∷ following 8 ∷ following 9 ∷ following 10 ∷ following 11 ∷ following 12 ∷ following 13 ∷ following 14 ∷ following 15 ∷ []
    ≡ 1 ∷ 2 ∷ 3 ∷ 4 ∷ 5 ∷ 6 ∷ 7 ∷ 8 ∷ 9 ∷ 10 ∷ 11 ∷ 12 ∷ 13 ∷ 14 ∷ 15 ∷ 0 ∷ []
numbers-follow = refl

-- ---- what a frame leaves

-- the length that a first frame declares, high byte first: the low nibble of that one, and the other byte
abbrev pub declares : List ℕ → ℕ
declares p = 256 * (get_or p 0 0 % 16) + get_or p 1 0

-- its flags: the high nibble
abbrev pub flags_in : List ℕ → ℕ
flags_in p = get_or p 0 0 / 16

-- the length and the flags of a used frame's message, and how many bytes of it are then there
abbrev pub length_of : Receiver → List ℕ → ℕ
length_of r p = if eqb r.at.begun.length 0 then declares p else r.at.begun.length

abbrev pub flags_of : Receiver → List ℕ → ℕ
flags_of r p = if eqb r.at.begun.length 0 then flags_in p else r.at.begun.flags

abbrev pub fill_of : Receiver → List ℕ → ℕ
fill_of r p = if eqb r.at.begun.length 0 then length p - 2 else r.at.fill + length p

-- "That frame is numbered and writes nothing; if it had no EOM, the following in-order frames are numbered, acknowledged and thrown away, answer 0, up to and including the next EOM"
abbrev pub ThrownOff : (r : Receiver) (asks last : Bool) → Receiver → Type 0
ThrownOff r asks last x = x
    ≡ record {
      at = record { expected = (r.at.expected + 1) % 16; discarding = not last; begun = record { length = 0; flags = 0 }; fill = 0 };
      back =
          if asks || last then record { expected = (r.at.expected + 1) % 16; discarding = not last; begun = record { length = 0; flags = 0 }; fill = 0 }
          else r.back;
      complete = r.complete;
      ack = if asks then record { due = true; ready = true; number = (r.at.expected + 1) % 16 } else r.ack;
    }

-- what each receipt leaves; the bytes p stand behind the frame's first one
abbrev pub Left : (r : Receiver) (asks last : Bool) (p : List ℕ) → Receipt → Receiver → Type 0
-- row 12: nothing changes, except an asked-for Ack with the number still expected, ready if no message waits; a break returns to where an Ack became due
Left r asks last p (OutOfPlace e) x = x
    ≡ record {
      at = r.at;
      back = if asks then r.at else r.back;
      complete = r.complete;
      ack = if asks then record { due = true; ready = eqb r.complete.length 0; number = r.at.expected } else r.ack;
    }
-- row 5: nothing changes, except an asked-for Ack, not ready
Left r asks last p Untaken x = x
    ≡ record {
      at = r.at;
      back = if asks then r.at else r.back;
      complete = r.complete;
      ack = if asks then record { due = true; ready = false; number = r.at.expected } else r.ack;
    }
Left r asks last p ThrownAway x = ThrownOff r asks last x
Left r asks last p (Broken c) x = ThrownOff r asks last x
-- row 7, on a first frame: thrown away as for broken
Left r asks last p ShortFirst x = ThrownOff r asks last x
-- row 7, on a later one: nothing changes, no Ack
Left r asks last p ShortLater x = x ≡ r
-- a used frame: its message is begun, and has the frame's bytes too
Left r asks last p Used x = x
    ≡ record {
      at = record { expected = (r.at.expected + 1) % 16; discarding = false; begun = record { length = length_of r p; flags = flags_of r p }; fill = fill_of r p };
      back = if asks then record { expected = (r.at.expected + 1) % 16; discarding = false; begun = record { length = length_of r p; flags = flags_of r p }; fill = fill_of r p } else r.back;
      complete = r.complete;
      ack = if asks then record { due = true; ready = true; number = (r.at.expected + 1) % 16 } else r.ack;
    }
-- one that completes it: the message waits, nothing is begun, and a break returns to here
Left r asks last p Complete x = x
    ≡ record {
      at = record { expected = (r.at.expected + 1) % 16; discarding = false; begun = record { length = 0; flags = 0 }; fill = 0 };
      back = record { expected = (r.at.expected + 1) % 16; discarding = false; begun = record { length = 0; flags = 0 }; fill = 0 };
      complete = record { length = length_of r p; flags = flags_of r p };
      ack = if asks then record { due = true; ready = true; number = (r.at.expected + 1) % 16 } else r.ack;
    }
-- no data: nothing changes
Left r asks last p NoData x = x ≡ r

kept-left : (r : Receiver) (asks ready : Bool) → not (waiting r) ≡ ready → kept r asks
    ≡ record {
      at = r.at;
      back = if asks then r.at else r.back;
      complete = r.complete;
      ack = if asks then record { due = true; ready = ready; number = r.at.expected } else r.ack;
    }
unfolding settled
kept-left r true ready e = rw e
kept-left r false ready e = refl

thrown-left : (r : Receiver) (asks last : Bool) → waiting r ≡ false → ThrownOff r asks last (discarded r asks last)
unfolding numbered settled
thrown-left r true last w = rw w
thrown-left r false last w = refl

used-left : (r : Receiver) (asks last : Bool) (p : List ℕ) {m : Message} {fill : ℕ} → waiting r ≡ false → m ≡ record { length = length_of r p; flags = flags_of r p } → fill ≡ fill_of r p
    → Left r asks last p Used (used r asks m fill)
unfolding numbered settled
used-left r true last p w em ef = rw (em, ef, w)
used-left r false last p w em ef = rw (em, ef)

completed-left : (r : Receiver) (asks last : Bool) (p : List ℕ) {m : Message} → waiting r ≡ false → m ≡ record { length = length_of r p; flags = flags_of r p }
    → Left r asks last p Complete (completed r asks m)
unfolding numbered settled
completed-left r true last p w em = rw (em, w)
completed-left r false last p w em = rw em

brings-length : {limit : ℕ} {r : Receiver} {p : List ℕ} {room : ℕ} {m : Message} {fill : ℕ} → Brings limit r p room m fill
    → (m ≡ record { length = length_of r p; flags = flags_of r p }) × (fill ≡ fill_of r p)
brings-length (at_first f two some most) = rw f (refl, refl)
brings-length (at-later f held) = rw f (refl, refl)

outcome-left : {limit : ℕ} {r : Receiver} {asks last : Bool} {number : ℕ} {p : List ℕ} {room : ℕ} {x : Received}
    → Outcome limit r asks last number p room x → Left r asks last p x.note x.receiver
outcome-left {r = r} {asks = asks} (out-of-place n) = kept-left r asks _ (none-ready r)
outcome-left {r = r} {asks = asks} (untaken e w) = kept-left r asks false (rw w)
outcome-left {r = r} {asks = asks} {last = last} (thrown-away e w t) = thrown-left r asks last w
outcome-left {r = r} {asks = asks} {last = last} (in-order o (breaks c)) = thrown-left r asks last o.none-waits
outcome-left {r = r} {asks = asks} {last = last} (in-order o (short-first b e s)) = thrown-left r asks last o.none-waits
outcome-left (in-order o (short-later f s)) = refl
outcome-left {r = r} {asks = asks} {last = last} {p = p} (in-order o (goes_on b l less roomy)) =
    let e = brings-length b in used-left r asks last p o.none-waits e.0 e.1
outcome-left {r = r} {asks = asks} {last = last} {p = p} (in-order o (ends b l all roomy)) = completed-left r asks last p o.none-waits (brings-length b).0

-- a frame leaves what its receipt says
pub data-left : (limit : ℕ) (r : Receiver) (asks last : Bool) (number : ℕ) (p : List ℕ) (room : ℕ)
    → Left r asks last p (on_data limit r asks last number p room).note (on_data limit r asks last number p room).receiver
data-left limit r asks last number p room = outcome-left (outcome limit r asks last number p room)

-- ---- the Ack after a frame

-- "Any frame with AR, used or not, makes an Ack due with the number now expected (but see row 7) .. It says ready, except while a complete message waited untaken before the frame came"
pub ack-asked : (limit : ℕ) (r : Receiver) (last : Bool) (number : ℕ) (p : List ℕ) (room : ℕ) → ((on_data limit r true last number p room).note ≡ ShortLater → ⊥)
    → (on_data limit r true last number p room).receiver.ack
    ≡ record { due = true; ready = eqb r.complete.length 0; number = (on_data limit r true last number p room).receiver.at.expected }
ack-asked limit r last number p room n = (data-acked limit r last number p room n).ack ∙ rw (none-ready r)

outcome-unasked : {limit : ℕ} {r : Receiver} {last : Bool} {number : ℕ} {p : List ℕ} {room : ℕ} {x : Received}
    → Outcome limit r false last number p room x → x.receiver.ack ≡ r.ack
unfolding numbered settled
outcome-unasked (out-of-place n) = refl
outcome-unasked (untaken e w) = refl
outcome-unasked (thrown-away e w t) = refl
outcome-unasked (in-order o (breaks c)) = refl
outcome-unasked (in-order o (short-first b e s)) = refl
outcome-unasked (in-order o (short-later f s)) = refl
outcome-unasked (in-order o (goes_on b l less roomy)) = refl
outcome-unasked (in-order o (ends b l all roomy)) = refl

-- one without AR leaves the Ack as it was
pub ack-unasked : (limit : ℕ) (r : Receiver) (last : Bool) (number : ℕ) (p : List ℕ) (room : ℕ) → (on_data limit r false last number p room).receiver.ack ≡ r.ack
ack-unasked limit r last number p room = outcome-unasked (outcome limit r false last number p room)

-- ---- the place that a break returns to

-- the frame was numbered: it had the expected number, and neither row 5 nor row 7 on a later frame held it off
abbrev pub is_numbered : Receipt → Bool
is_numbered Used = true
is_numbered Complete = true
is_numbered ThrownAway = true
is_numbered ShortFirst = true
is_numbered (Broken c) = true
is_numbered (OutOfPlace e) = false
is_numbered Untaken = false
is_numbered ShortLater = false
is_numbered NoData = false

-- with AR it makes an Ack due: all but row 7 on a later frame do
abbrev pub is_answered : Receipt → Bool
is_answered Used = true
is_answered Complete = true
is_answered ThrownAway = true
is_answered ShortFirst = true
is_answered (Broken c) = true
is_answered (OutOfPlace e) = true
is_answered Untaken = true
is_answered ShortLater = false
is_answered NoData = false

-- the place after a frame is where the receiver then stands, if the frame made an Ack due or was a numbered EOM; else it stays
abbrev pub Back : (r : Receiver) (asks last : Bool) → Received → Type 0
Back r asks last x = x.receiver.back ≡ (if (is_answered x.note && asks) || (is_numbered x.note && last) then x.receiver.at else r.back)

outcome-back : {limit : ℕ} {r : Receiver} {asks last : Bool} {number : ℕ} {p : List ℕ} {room : ℕ} {x : Received}
    → Outcome limit r asks last number p room x → Back r asks last x
unfolding numbered settled
outcome-back (out-of-place n) = refl
outcome-back (untaken e w) = refl
outcome-back (thrown-away e w t) = refl
outcome-back (in-order o (breaks c)) = refl
outcome-back (in-order o (short-first b e s)) = refl
outcome-back (in-order o (short-later f s)) = refl
outcome-back (in-order o (goes_on b l less roomy)) = rw l
outcome-back (in-order o (ends b l all roomy)) = rw l

-- "where it stood when an Ack last became due or a message last ended, whichever is later"
pub data-back : (limit : ℕ) (r : Receiver) (asks last : Bool) (number : ℕ) (p : List ℕ) (room : ℕ) → Back r asks last (on_data limit r asks last number p room)
data-back limit r asks last number p room = outcome-back (outcome limit r asks last number p room)

-- a frame with neither AR nor EOM leaves it; the complete message and the Ack stay too
pub record Inside (r x : Receiver) : Type 0 where
  pub back : x.back ≡ r.back
  pub complete : x.complete ≡ r.complete
  pub ack : x.ack ≡ r.ack

outcome-inside : {limit : ℕ} {r : Receiver} {number : ℕ} {p : List ℕ} {room : ℕ} {x : Received} → Outcome limit r false false number p room x → Inside r x.receiver
unfolding numbered settled
outcome-inside (out-of-place n) = record { back = refl; complete = refl; ack = refl }
outcome-inside (untaken e w) = record { back = refl; complete = refl; ack = refl }
outcome-inside (thrown-away e w t) = record { back = refl; complete = refl; ack = refl }
outcome-inside (in-order o (breaks c)) = record { back = refl; complete = refl; ack = refl }
outcome-inside (in-order o (short-first b e s)) = record { back = refl; complete = refl; ack = refl }
outcome-inside (in-order o (short-later f s)) = record { back = refl; complete = refl; ack = refl }
outcome-inside (in-order o (goes_on b l less roomy)) = record { back = refl; complete = refl; ack = refl }
outcome-inside (in-order o (ends b l all roomy)) = absurd (false≢true l)

pub inside-leaves : (limit : ℕ) (r : Receiver) (number : ℕ) (p : List ℕ) (room : ℕ) → Inside r (on_data limit r false false number p room).receiver
inside-leaves limit r number p room = outcome-inside (outcome limit r false false number p room)
