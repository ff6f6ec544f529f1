-- What a line asks for: the calls that every record has.
use Rattle.std.specs.Prelude.{ℕ, ◌%◌, Bool, ◌||◌, List, Result, Ok, Err, length, ◌==◌, nat_lt, slice_index, if◌then◌else◌}
use Rattle.text.specs.declared.reading.NumberError.{NumberError}
use Rattle.text.specs.declared.reading.PairsError.{PairsError}
use Rattle.dialogue.specs.declared.calls.Call.{Call}
use Rattle.dialogue.specs.declared.calls.Call.TheVariants.{Nothing, Wrong, New, Frame, Time, Due, DueOf, Send, Take, Close, Room, Buffer, Other}
use Rattle.dialogue.specs.Words.{word_at, behind_word, is_lone, letters_of, only_number, id_read, octets_read, octets_into}

-- the names, as the numbers that their letters make
abbrev pub new : ℕ
new = 0x6E6577

abbrev pub frame : ℕ
frame = 0x6672616D65

abbrev pub time : ℕ
time = 0x74696D65

abbrev pub due : ℕ
due = 0x647565

abbrev pub send : ℕ
send = 0x73656E64

abbrev pub take : ℕ
take = 0x74616B65

abbrev pub close : ℕ
close = 0x636C6F7365

abbrev pub room : ℕ
room = 0x726F6F6D

abbrev pub buffer : ℕ
buffer = 0x627566666572

-- ---- the calls of one word

unfoldable pub alone_of : ℕ → Call
alone_of name =
    if name == new then New
    else if name == due then Due
    else if name == take then Take
    else if name == close then Close
    else if name == buffer then Buffer
    else Other name

-- ---- the calls with further words

unfoldable pub time_of : Result ℕ NumberError → Call
time_of (Ok n) = Time n
time_of (Err e) = Wrong

-- up to 4,096 bytes can be lent
unfoldable pub room_of : Result ℕ NumberError → Call
room_of (Ok n) = if nat_lt 4096 n then Wrong else Room n
room_of (Err e) = Wrong

unfoldable pub due_of : Result ℕ PairsError → Call
due_of (Ok n) = DueOf n
due_of (Err e) = Wrong

unfoldable pub send_of : Result ℕ PairsError → Call
send_of (Ok n) = Send n
send_of (Err e) = Wrong

abbrev pub frame_with : ℕ → Result ℕ PairsError → Call
frame_with id (Ok n) = Frame id n
frame_with id (Err e) = Wrong

unfoldable pub frame_of : Result ℕ NumberError → Result ℕ PairsError → Call
frame_of (Ok n) b = frame_with (n % 65536) b
frame_of (Err e) b = Wrong

-- a name and the words behind it, with room for so many bytes
unfoldable pub followed_of : ℕ → ℕ → List ℕ → Call
followed_of most name s =
    if name == time then time_of (only_number s)
    else if name == room then room_of (only_number s)
    else if name == frame then frame_of (id_read (word_at s 0)) (octets_read most (behind_word s))
    else if name == due then due_of (octets_read most s)
    else if name == send then send_of (octets_read most s)
    else Other name

-- the lent bytes, with those that the words give
unfoldable pub followed_into : List ℕ → ℕ → List ℕ → List ℕ
followed_into b name s =
    if name == frame then octets_into b (behind_word s)
    else if name == due || name == send then octets_into b s
    else b

-- ---- a line

-- a blank line or a comment
abbrev pub is_nothing : List ℕ → Bool
is_nothing s = slice_index s 0 == 35 || length (word_at s 0) == 0

-- what a line asks for, with room for so many bytes; one of more than 16,000 characters is wrong
unfoldable pub call_of : ℕ → List ℕ → Call
call_of most s =
    if nat_lt 16000 (length s) then Wrong
    else if is_nothing s then Nothing
    else if is_lone s then alone_of (letters_of (word_at s 0))
    else followed_of most (letters_of (word_at s 0)) (behind_word s)

-- the lent bytes, with those that a line gives
unfoldable pub call_into : List ℕ → List ℕ → List ℕ
call_into b s =
    if nat_lt 16000 (length s) || is_nothing s || is_lone s then b
    else followed_into b (letters_of (word_at s 0)) (behind_word s)
