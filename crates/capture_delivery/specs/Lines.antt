-- The frames that the lines of a log hold.
use Rattle.std.specs.Prelude.{ℕ, List, map, take}
use Rattle.candump.specs.Line.{line_of, data_of}
use Rattle.candump.specs.declared.Line.{Line}
use Rattle.candump.specs.declared.Line.TheVariants.{Holds, PassedOver, BreaksForm}
use Rattle.capture.specs.Lines.{lines_of}

-- what a line holds: a frame, or none, where it is passed over or reported
pub data Content : Type 0 where
  frame : (id : ℕ) → (bytes : List ℕ) → Content
  no-frame : Content

abbrev pub content_in : List ℕ → Line → Content
content_in l (Holds f) = frame f.id (data_of l f)
content_in l PassedOver = no-frame
content_in l BreaksForm = no-frame

abbrev pub content_of : List ℕ → Content
content_of l = content_in l (line_of l)

-- what the lines read hold
abbrev pub read_from : (most : ℕ) → (log : List ℕ) → List Content
read_from most log = map content_of (take most (lines_of log))
