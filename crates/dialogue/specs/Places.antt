-- What a line asks a table for: a call, and in front of it the place that it names, if it names one.
use Rattle.std.specs.Prelude.{ℕ, Bool, true, not, List, Option, Some, None, Result, Ok, Err, length, nat_lt, is_some, if◌then◌else◌}
use Rattle.text.specs.Numbers.{number_of}
use Rattle.text.specs.declared.reading.NumberError.{NumberError}
use Rattle.text.specs.declared.reading.NumberError.TheVariants.{TooLarge, Bad as NoNumber}
use Rattle.dialogue.specs.declared.calls.Call.{Call}
use Rattle.dialogue.specs.declared.calls.Call.TheVariants.{Nothing, Wrong, New, Frame, Time, Due, DueOf, Send, Take, Close, Room, Buffer, Other}
use Rattle.dialogue.specs.declared.places.Asked.{Asked}
use Rattle.dialogue.specs.Words.{word_at, behind_word}
use Rattle.dialogue.specs.Calls.{call_of, call_into}

-- the number in front of a call; a line of more than 16,000 characters has none
unfoldable pub place_read : List ℕ → Result ℕ NumberError
place_read s = if nat_lt 16000 (length s) then Err NoNumber else number_of 10 (word_at s 0)

-- what stands behind that number, and the line itself where there is none
unfoldable pub behind_place : Result ℕ NumberError → List ℕ → List ℕ
behind_place (Ok n) s = behind_word s
behind_place (Err TooLarge) s = behind_word s
behind_place (Err NoNumber) s = s

-- a call may stand behind a place, or with none
unfoldable pub suits : (named : Bool) → Call → Bool
suits named Nothing = not named
suits named Wrong = true
suits named New = not named
suits named (Frame id n) = not named
suits named (Time n) = true
suits named Due = named
suits named (DueOf n) = named
suits named (Send n) = named
suits named Take = named
suits named Close = named
suits named (Room n) = named
suits named Buffer = named
suits named (Other name) = not named

-- a call with the place that it names, if it names one; one that may not stand so is wrong
abbrev pub asking : (place : Option ℕ) → Call → Asked
asking place call = record { place = place; call = if suits (is_some place) call then call else Wrong }

-- a call behind a number, of which 255 is the largest that names a place
unfoldable pub asked_with : Result ℕ NumberError → Call → Asked
asked_with (Ok n) call = if nat_lt 255 n then asking None Wrong else asking (Some n) call
asked_with (Err TooLarge) call = asking None Wrong
asked_with (Err NoNumber) call = asking None call

-- what a line asks for, with room for so many bytes
unfoldable pub asked_of : ℕ → List ℕ → Asked
asked_of most s = asked_with (place_read s) (call_of most (behind_place (place_read s) s))

-- the lent bytes, with those that a line gives
unfoldable pub asked_into : List ℕ → List ℕ → List ℕ
asked_into b s = call_into b (behind_place (place_read s) s)
