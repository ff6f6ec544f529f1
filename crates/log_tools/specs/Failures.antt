-- What the system says of an error, without the error's number.
use Rattle.std.specs.Prelude.{ℕ, ◌||◌, List, [], ◌∷◌, ◌++◌, eqb, if◌then◌else◌}
use Rattle.std.specs.List.{starts_with}
use Rattle.laws.specs.Characters.{ascii}
use Rattle.text.specs.Written.{Writes}

-- the words before an error's number
abbrev pub number : List ℕ
number = ascii " (os error "

-- a text up to a zero, or up to the words before an error's number
unfoldable pub reason_of : List ℕ → List ℕ
reason_of [] = []
reason_of (c ∷ s) = if eqb c 0 || starts_with eqb (c ∷ s) number then [] else c ∷ reason_of s

-- why something failed, behind what is said of that
abbrev pub error_text : (said : List ℕ) → List ℕ
error_text said = ascii ": " ++ reason_of said ++ 10 ∷ []

-- a text before and after that is written: what the system says of an error it alone knows
pub record WritesError (old : List ℕ) (at : ℕ) (new : List ℕ) (next : ℕ) : Type 0 where
  pub said : List ℕ
  pub written : Writes old at (error_text said) new next
