-- What is written into a lent text from a place on.
use Rattle.std.specs.Prelude.{ℕ, zero, suc, ◌+◌, ◌-◌, ◌/◌, ◌%◌, min, Bool, List, [], ◌∷◌, ◌++◌, ◌≡◌, eqb, ltb, length, if◌then◌else◌}
use Rattle.std.proofs.lemmas.List.Edits.{sets}

-- the place behind n characters that are written from a place on, where there is room for so many in all
abbrev pub place_after : ℕ → ℕ → ℕ → ℕ
place_after room at n = at + min n (room - at)

-- a text before and after s is written from a place on, as far as there is room, and the place behind it
pub record Writes (b : List ℕ) (at : ℕ) (s : List ℕ) (after : List ℕ) (next : ℕ) : Type 0 where
  pub text : after ≡ sets b at s
  pub place : next ≡ place_after (length b) at (length s)

-- a text, where it is given
abbrev pub if_given : Bool → List ℕ → List ℕ
if_given given s = if given then s else []

-- the hexadecimal digit of a number below 16, in upper case
abbrev pub glyph : ℕ → ℕ
glyph d = if ltb d 10 then 48 + d else 55 + d

-- a byte as two digits
abbrev pub pair_of : ℕ → List ℕ
pair_of b = glyph (b / 16 % 16) ∷ glyph (b % 16) ∷ []

-- bytes as pairs of digits, a blank before each
unfoldable pub pairs_of : List ℕ → List ℕ
pairs_of [] = []
pairs_of (b ∷ s) = 32 ∷ pair_of b ++ pairs_of s

-- an ID as three digits
abbrev pub id_of : ℕ → List ℕ
id_of id = glyph (id / 256 % 16) ∷ pair_of (id % 256)

-- a message's flags: a blank, the word and one digit; nothing for flags 0
abbrev pub flags_of : ℕ → List ℕ
flags_of n = if eqb n 0 then [] else 32 ∷ 102 ∷ 108 ∷ 97 ∷ 103 ∷ 115 ∷ 32 ∷ glyph (n % 16) ∷ []

-- the last digits of a number, as many as it has, but at most so many and one
unfoldable pub decimal_below : ℕ → ℕ → List ℕ
decimal_below zero n = (48 + n % 10) ∷ []
decimal_below (suc more) n = if ltb n 10 then (48 + n % 10) ∷ [] else decimal_below more (n / 10) ++ ((48 + n % 10) ∷ [])

-- a number in decimal digits: one of 64 bits has at most twenty
abbrev pub decimal_of : ℕ → List ℕ
decimal_of n = decimal_below 19 n
