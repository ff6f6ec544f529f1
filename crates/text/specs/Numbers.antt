-- Digits, and the numbers that they make.
use Rattle.std.specs.Prelude.{ℕ, ◌+◌, ◌-◌, ◌*◌, ◌^◌, Bool, List, [], ◌∷◌, Result, Ok, Err, leb, ltb, if◌then◌else◌}
use Rattle.text.specs.declared.reading.NumberError.{NumberError}
use Rattle.text.specs.declared.reading.NumberError.TheVariants.{TooLarge, Bad}

-- what a digit stands for, a hexadecimal one of either case, and 16 for any other character
unfoldable pub digit_of : ℕ → ℕ
digit_of c =
    if ltb c 48 then 16
    else if leb c 57 then c - 48
    else if ltb c 65 then 16
    else if leb c 70 then c - 55
    else if ltb c 97 then 16
    else if leb c 102 then c - 87
    else 16

-- a digit of a base
abbrev pub is_digit : ℕ → ℕ → Bool
is_digit base c = ltb (digit_of c) base

-- the number that digits of a base make behind those that made n
unfoldable pub number_from : ℕ → ℕ → List ℕ → Result ℕ NumberError
number_from base n [] = if ltb n (2 ^ 64) then Ok n else Err TooLarge
number_from base n (c ∷ s) = if is_digit base c then number_from base (n * base + digit_of c) s else Err Bad

-- the number that a text of digits of a base makes; no digits make none
unfoldable pub number_of : ℕ → List ℕ → Result ℕ NumberError
number_of base [] = Err Bad
number_of base (c ∷ s) = number_from base 0 (c ∷ s)
