-- Bytes as pairs of hexadecimal digits, with or without blanks between the pairs.
use Rattle.std.specs.Prelude.{ℕ, ◌+◌, ◌*◌, ◌%◌, Bool, ◌&&◌, List, [], ◌∷◌, Result, Ok, Err, length, set, leb, if◌then◌else◌}
use Rattle.text.specs.Numbers.{digit_of, is_digit}
use Rattle.text.specs.Words.{is_blank}
use Rattle.text.specs.declared.reading.PairsError.{PairsError}
use Rattle.text.specs.declared.reading.PairsError.TheVariants.{TooMany, Bad}

-- two characters that are a pair of digits
unfoldable pub is_pair : ℕ → ℕ → Bool
is_pair c d = is_digit 16 c && is_digit 16 d

-- the byte that two digits make
abbrev pub byte_of : ℕ → ℕ → ℕ
byte_of c d = 16 * (digit_of c % 16) + digit_of d % 16

-- what a text comes to behind n bytes, of which there is room for so many
unfoldable pub pairs_read : ℕ → ℕ → List ℕ → Result ℕ PairsError
pairs_read room n [] = Ok n
pairs_read room n (c ∷ []) = if is_blank c then Ok n else Err Bad
pairs_read room n (c ∷ d ∷ s) =
    if is_blank c then pairs_read room n (d ∷ s)
    else if is_pair c d then (if leb room n then Err TooMany else pairs_read room (n + 1) s)
    else Err Bad

-- the lent bytes, each pair put behind n bytes, up to the first that is none or has no room
unfoldable pub pairs_into : List ℕ → ℕ → List ℕ → List ℕ
pairs_into b n [] = b
pairs_into b n (c ∷ []) = b
pairs_into b n (c ∷ d ∷ s) =
    if is_blank c then pairs_into b n (d ∷ s)
    else if is_pair c d then (if leb (length b) n then b else pairs_into (set b n (byte_of c d)) (n + 1) s)
    else b
