-- Tables of rows: what a call says and leaves is told by the first row whose condition holds.
use Rattle.std.specs.Prelude.{ℕ, Bool, true, false, ◌⊎◌, ◌↔◌, ◌≡◌, if◌then◌else◌}
use Rattle.open_end.specs.declared.answers.Said.{Said}

-- a number of the table with nothing more to say
abbrev pub plain : ℕ → Said
plain n = record { number = n; done = false; opcode = 0 }

-- a row: its condition, what is said, and what it leaves
pub record Row (A : Type 0) : Type 0 where
  pub holds : Bool
  pub says : Said
  pub leaves : A

-- a row that says its number alone
abbrev pub row : {A : Type 0} → Bool → ℕ → A → Row A
row t n x = record { holds = t; says = plain n; leaves = x }

infixr 2 ◌or_else◌
-- rows in the order in which they are looked at, and what is said and left where none holds
pub data Table (A : Type 0) : Type 0 where
  always : Said → A → Table A
  ◌or_else◌ : Row A → Table A → Table A

-- what a table says and leaves
abbrev pub told_by : {A : Type 0} → Table A → Said × A
told_by (always s x) = (s, x)
told_by (r or_else t) = if r.holds then (r.says, r.leaves) else told_by t

-- the number n is given, leaving x: a row of that number holds and none before it does, and x is what it leaves
abbrev pub Given : {A : Type 0} → ℕ → A → Table A → Type 0
Given n x (always s y) = (s.number ≡ n) × (x ≡ y)
Given n x (r or_else t) = ((r.holds ≡ true) × (r.says.number ≡ n) × (x ≡ r.leaves)) ⊎ ((r.holds ≡ false) × Given n x t)

-- a call that says and leaves `told` says the number n exactly where the table gives it, and leaves x with it
pub record Says {A : Type 0} (n : ℕ) (x : A) (told : Said × A) (t : Table A) : Type 0 where
  pub exactly : (told.0.number ≡ n) ↔ Given n told.1 t
  pub leaves : told.0.number ≡ n → told.1 ≡ x

-- a call that says and leaves `told` goes by a table
pub record GoesBy {A : Type 0} (told : Said × A) (t : Table A) : Type 0 where
  -- what it says and leaves is what the table tells
  pub tells : told ≡ told_by t
  -- "Given exactly when": it says a number where a row of that number holds and none before it does, leaving what that row leaves, and nowhere else
  pub exactly : (n : ℕ) → (told.0.number ≡ n) ↔ Given n told.1 t
