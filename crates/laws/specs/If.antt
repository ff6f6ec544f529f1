-- The branch of a definition whose branches are statements; std's `if` is that of values.
use Rattle.std.specs.Prelude.{Bool, cond}

infixr 1 when◌then◌else◌
-- `cond`, with its parts in the order of reading
abbrev pub when◌then◌else◌ {ℓ} : {A : Type ℓ} → Bool → A → A → A
when t then x else y = cond t x y
