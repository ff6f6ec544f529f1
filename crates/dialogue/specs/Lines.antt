-- A line that is read into a lent text. What comes in is outside of any contract; what becomes of it is not.
use Rattle.std.specs.Prelude.{◌≡◌, ℕ, ◌-◌, ◌<◌, min, List, length, ◌==◌, ◌≢◌, slice_index, if◌then◌else◌}
use Rattle.std.proofs.lemmas.List.Edits.{sets}
use Rattle.dialogue.specs.declared.lines.Line.{Line}

-- the length of a line of n characters without the CR that belongs to its LF
abbrev pub without_return : List ℕ → ℕ → ℕ
without_return s n = if n == 0 then 0 else if slice_index s (n - 1) == 13 then n - 1 else n

-- a text before and after a line is read into it, and what is told of the line: some characters came, no LF among them, and then
-- an LF or the input's end; they stand at the start as far as there is room
pub record LineRead (b after : List ℕ) (r : Line) : Type 0 where
  pub came : List ℕ
  pub one_line : (k : ℕ) → k < length came → slice_index came k ≢ 10
  pub text : after ≡ sets b 0 came
  pub fill : r.fill ≡ (if r.ended then min (length came) (length b) else without_return after (min (length came) (length b)))
