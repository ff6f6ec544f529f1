-- What the words that a tool was started with can come to. Which words they are, the runtime alone knows.
use Rattle.std.specs.Prelude.{ℕ, ◌+◌, Bool, List, ◌≡◌, ◌≤◌, length, Some, None}
use Rattle.text.specs.Written.{Writes}
use Rattle.log_tools.specs.declared.options.Wrong.{Wrong}
use Rattle.log_tools.specs.declared.options.Options.{Options}
use Rattle.log_tools.specs.Options.{fresh, held_taken, words_ended}
use Rattle.log_tools.specs.Complaints.{refusal_line, unopened_text}
use Rattle.log_tools.specs.Failures.{WritesError}

-- what some words come to, those before a place being taken one by one, each held by a buffer
pub data Taken (lists : Bool) : (place : ℕ) → Options → Type 0 where
  nothing : Taken lists 1 (fresh lists)
  further : (place : ℕ) (o r : Options) (buffer : List ℕ) (n : ℕ) → Taken lists place o → n ≤ length buffer → r ≡ held_taken o place buffer n → Taken lists (place + 1) r

-- what some words come to, with none left
pub record ComesTo (lists : Bool) (r : Options) : Type 0 where
  pub place : ℕ
  pub before : Options
  pub taken : Taken lists place before
  pub ended : r ≡ words_ended before

-- none of them is wrong
pub record Opens (lists : Bool) (r : Options) : Type 0 where
  pub words : ComesTo lists r
  pub right : r.wrong ≡ None

-- what is written where one of them is wrong, or the file that they name cannot be opened
pub data Complains (lists : Bool) (tool old new : List ℕ) : Type 0 where
  refused : (o : Options) (wrong : Wrong) (word : List ℕ) (next : ℕ) → ComesTo lists o → o.wrong ≡ Some wrong → Writes old 0 (refusal_line tool wrong word) new next → Complains lists tool old new
  unopened : (o : Options) (place : ℕ) (name : List ℕ) (between : List ℕ) (at next : ℕ)
      → Opens lists o → o.file ≡ Some place → Writes old 0 (unopened_text tool place name) between at → WritesError between at new next → Complains lists tool old new
