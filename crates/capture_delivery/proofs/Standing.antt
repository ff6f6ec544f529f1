-- The reading of a log, told from one side of the channel: what a frame on its own ID, on the other one, or on none of them leaves.
use Rattle.std.specs.Prelude.{if◌then◌else◌}
use Prim.Native.Nat.{ℕ, ◌+◌}
use mathlib.Core.List.{List, [], ◌∷◌}
use mathlib.Core.Logic.{◌≢◌}
use mathlib.Core.Path.{◌≡◌, refl, sym}
use lib.ListN.{length}
use borrow.Author.Tests.{eq-eqb, ne_eqb}
use Rattle.follow.specs.declared.Side.{Side}
use Rattle.follow.specs.declared.Side.TheVariants.{Tester, Unit}
use Rattle.follow.specs.declared.Reception.{Reception}
use Rattle.follow.specs.declared.Turn.{Turn}
use Rattle.follow.specs.Following.{turned, buffer_after, on_open, heard, tester_buffer, unit_buffer}
use Rattle.summary.specs.Classes.{class_of}
use Rattle.summary.specs.declared.Class.TheVariants.{OtherIds as Other}
use Rattle.capture.specs.declared.Event.TheVariants.{Nothing}
use Rattle.capture.specs.Reading.{State, event_of, on_frame}
use Rattle.capture_delivery.specs.Channel.{opposite}

-- what changes while the channel stands: the lines read, the reception and the buffer of the side, and those of the other
pub record View : Type 0 where
  pub lines : ℕ
  pub here : Reception
  pub buffer : List ℕ
  pub there : Reception
  pub across : List ℕ

-- told from the other side
abbrev pub round : View → View
round v = record { lines = v.lines; here = v.there; buffer = v.across; there = v.here; across = v.buffer }

-- a line further
abbrev pub onward : View → View
onward v = record { lines = v.lines + 1; here = v.here; buffer = v.buffer; there = v.there; across = v.across }

-- the reading between two lines, with the channel at a stage
abbrev pub standing : Side → (stage asked own other : ℕ) → View → State
standing Tester stage asked own other v =
    record {
      lines = v.lines;
      kept = [];
      follow = record { stage = stage; asked = asked; receive = other; transmit = own; from_tester = v.here; from_unit = v.there };
      tester = v.buffer;
      unit = v.across;
    }
standing Unit stage asked own other v =
    record {
      lines = v.lines;
      kept = [];
      follow = record { stage = stage; asked = asked; receive = own; transmit = other; from_tester = v.there; from_unit = v.here };
      tester = v.across;
      unit = v.buffer;
    }

module _ (limit : ℕ) (side : Side) (v : View) (s : List ℕ) where
  -- what becomes of a frame of the side
  abbrev pub turn : Turn
  turn = turned limit side v.here (v.lines + 1) s (length v.buffer)

  -- and what it leaves
  abbrev pub left : View
  left = record { lines = v.lines + 1; here = turn.reception; buffer = buffer_after limit v.here s v.buffer; there = v.there; across = v.across }

module _ (limit asked own other : ℕ) (v : View) (s : List ℕ) where
  -- a frame of the side
  pub own-heard : (side : Side) → own ≢ other
      → on_frame limit (standing side 4 asked own other v) own s
      ≡ record { event = event_of (turn limit side v s).fate; classes = class_of (turn limit side v s).fate ∷ []; state = standing side (if (turn limit side v s).ends then 5 else 4) asked own other (left limit side v s) }
  unfolding on_frame heard on_open tester_buffer unit_buffer
  own-heard Tester d = rw (eq-eqb own own refl)
  own-heard Unit d = rw (ne_eqb own other d, eq-eqb own own refl)

  -- a frame on another ID than the two
  pub none-heard : (side : Side) (id : ℕ) → id ≢ own → id ≢ other
      → on_frame limit (standing side 4 asked own other v) id s ≡ record { event = Nothing; classes = Other ∷ []; state = standing side 4 asked own other (onward v) }
  unfolding on_frame heard on_open tester_buffer unit_buffer
  none-heard Tester id d e = rw (ne_eqb id own d, ne_eqb id other e)
  none-heard Unit id d e = rw (ne_eqb id other e, ne_eqb id own d)

  -- a frame when the channel is over
  pub over-heard : (side : Side) (id : ℕ) → on_frame limit (standing side 5 asked own other v) id s ≡ record { event = Nothing; classes = Other ∷ []; state = standing side 5 asked own other (onward v) }
  unfolding on_frame heard tester_buffer unit_buffer
  over-heard Tester id = refl
  over-heard Unit id = refl

-- a frame of the other side
pub other-heard : (limit asked own other : ℕ) (v : View) (s : List ℕ) (side : Side) → own ≢ other
    → (let t = turn limit (opposite side) (round v) s in
    on_frame limit (standing side 4 asked own other v) other s
    ≡ record { event = event_of t.fate; classes = class_of t.fate ∷ []; state = standing side (if t.ends then 5 else 4) asked own other (round (left limit (opposite side) (round v) s)) })
other-heard limit asked own other v s Tester d = own-heard limit asked other own (round v) s Unit (λ e. d (sym e))
other-heard limit asked own other v s Unit d = own-heard limit asked other own (round v) s Tester (λ e. d (sym e))
