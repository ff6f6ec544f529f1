-- Output that waits in a lent text.
use Rattle.std.specs.Prelude.{ℕ, ◌+◌, ◌<◌, ◌≤◌, List, ◌≡◌, length, take}
use Rattle.text.specs.Output.{Said}
use Rattle.log_tools.specs.declared.waiting.Waiting.{Waiting}

-- before and after all that waits is written
pub record Written (w : Waiting) (text : List ℕ) (r : Waiting) : Type 0 where
  pub said : Said w.output (take w.fill text) r.output
  pub emptied : r.fill ≡ 0

-- before and after room is made: only what leaves no room is written
pub record Roomy (w : Waiting) (text : List ℕ) (room : ℕ) (r : Waiting) : Type 0 where
  pub kept : w.fill + room ≤ length text → r ≡ w
  pub made : length text < w.fill + room → Written w text r
