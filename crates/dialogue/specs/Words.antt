-- What the words of a line say.
use Rattle.std.specs.Prelude.{ℕ, ◌+◌, ◌-◌, ◌*◌, Bool, ◌&&◌, List, [], ◌∷◌, Result, Ok, Err, length, take, drop, ◌==◌, nat_lt, slice_index, if◌then◌else◌}
use Rattle.text.specs.Numbers.{number_of}
use Rattle.text.specs.Pairs.{pairs_read, pairs_into}
use Rattle.text.specs.Words.{word_from}
use Rattle.text.specs.declared.reading.NumberError.{NumberError}
use Rattle.text.specs.declared.reading.NumberError.TheVariants.{Bad as NoNumber}
use Rattle.text.specs.declared.reading.PairsError.{PairsError}
use Rattle.text.specs.declared.reading.PairsError.TheVariants.{Bad as NoPairs}

-- the first word from a place on
unfoldable pub word_at : List ℕ → ℕ → List ℕ
word_at s from = take ((word_from s from).end - (word_from s from).start) (drop (word_from s from).start s)

-- what stands behind the first word, from the next word on
unfoldable pub behind_word : List ℕ → List ℕ
behind_word s = drop (word_from s (word_from s 0).end).start s

-- nothing but one word
abbrev pub is_lone : List ℕ → Bool
is_lone s = length (behind_word s) == 0

-- the number that characters make as digits of base 256, behind those that made n
unfoldable pub letters_from : ℕ → List ℕ → ℕ
letters_from n [] = n
letters_from n (c ∷ s) = letters_from (256 * n + c) s

-- the number that the characters of a word make, and 0 for more than eight
unfoldable pub letters_of : List ℕ → ℕ
letters_of s = if nat_lt 8 (length s) then 0 else letters_from 0 s

-- the only word, and an empty one where there are more
unfoldable pub only_word : List ℕ → List ℕ
only_word s = if is_lone s then word_at s 0 else []

-- a decimal number that is the only word
unfoldable pub only_number : List ℕ → Result ℕ NumberError
only_number s = number_of 10 (only_word s)

-- a CAN ID of one to four digits
unfoldable pub id_read : List ℕ → Result ℕ NumberError
id_read s = if nat_lt 4 (length s) then Err NoNumber else number_of 16 s

-- a CAN ID that is the only word
unfoldable pub only_id : List ℕ → Result ℕ NumberError
only_id s = id_read (only_word s)

-- words that start with a -
abbrev pub is_dash : List ℕ → Bool
is_dash s = slice_index s 0 == 45

-- a - gives no bytes if it stands alone
unfoldable pub dash_read : List ℕ → Result ℕ PairsError
dash_read s = if is_lone s && length (word_at s 0) == 1 then Ok 0 else Err NoPairs

-- how many bytes some words give, of which there is room for so many
unfoldable pub octets_read : ℕ → List ℕ → Result ℕ PairsError
octets_read room s =
    if length s == 0 then Err NoPairs
    else if is_dash s then dash_read s
    else pairs_read room 0 s

-- the lent bytes, with those at their start
unfoldable pub octets_into : List ℕ → List ℕ → List ℕ
octets_into b s = if is_dash s then b else pairs_into b 0 s
