-- Worked values: the lines of a table and of an opening in their own characters, what they ask for, and the lines that answer.
use Rattle.std.proofs.Common.{◌≡◌, ℕ, true, false, List, [], ◌∷◌, ◌++◌, replicate, refl}
use Prim.Native.String.{String}
use Rattle.std.specs.Prelude.{Option, Some, None, Result, Ok, Err}
use Rattle.laws.specs.Characters.{ascii}
use Rattle.text.specs.Numbers.{digit_of, number_from, number_of}
use Rattle.text.specs.Pairs.{is_pair, pairs_read, pairs_into}
use Rattle.text.specs.Words.{belongs, run_of}
use Rattle.text.specs.Written.{decimal_below, pairs_of}
use Rattle.text.specs.declared.reading.NumberError.{NumberError}
use Rattle.text.specs.declared.reading.NumberError.TheVariants.{Bad as NoNumber}
use Rattle.open_end.specs.Answers.{plain}
use Rattle.profile.specs.Profile.{drive, comfort, high, low}
use Rattle.profile.specs.declared.Profile.{Profile}
use Rattle.settings.specs.Settings.{defaults}
use Rattle.settings.specs.declared.Settings.{Settings}
use Rattle.dialogue.specs.declared.calls.Call.{Call}
use Rattle.dialogue.specs.declared.calls.Call.TheVariants.{Nothing, Wrong, New, Frame, Time, Due, DueOf, Send, Take, Close, Room, Buffer, Other}
use Rattle.dialogue.specs.declared.places.Asked.{Asked}
use Rattle.dialogue.specs.declared.rows.Opening16.{Opening16}
use Rattle.dialogue.specs.Words.{word_at, behind_word, letters_from, letters_of, only_word, only_number, id_read, only_id, octets_read, octets_into}
use Rattle.dialogue.specs.Numbers.{with_number, next_number, after_words, given_by, opening_with, opening_of}
use Rattle.dialogue.specs.Rows.{row_of, opening_as, opening_in, opening16_of}
use Rattle.dialogue.specs.Calls.{alone_of, time_of, room_of, due_of, send_of, frame_of, followed_of, followed_into, call_of, call_into}
use Rattle.dialogue.specs.Places.{place_read, behind_place, suits, asked_with, asked_of, asked_into}
use Rattle.dialogue.specs.Answers.{marked, said_of, carried_of, told_of, answer_at, saids_of, each_of, owner_of}

-- ---- what is asked for

abbrev asked : List String → List Asked
asked [] = []
asked (s ∷ more) = asked_of 8192 (ascii s) ∷ asked more

abbrev at : ℕ → Call → Asked
at place call = record { place = Some place; call = call }

abbrev alone : Call → Asked
alone call = record { place = None; call = call }

-- every call of a place; 255 is the largest number that names one
pub placed-worked : asked ("7 due" ∷ "0 due 01 02" ∷ "3 send 0A" ∷ "3 time 50" ∷ "255 take" ∷ "2 close" ∷ "4 room 4096" ∷ " 05  buffer " ∷ [])
    ≡ at 7 Due ∷ at 0 (DueOf 2) ∷ at 3 (Send 1) ∷ at 3 (Time 50) ∷ at 255 Take ∷ at 2 Close ∷ at 4 (Room 4096) ∷ at 5 Buffer ∷ []
unfolding asked_of asked_with place_read behind_place suits call_of alone_of followed_of time_of room_of due_of send_of word_at behind_word letters_of letters_from only_word only_number octets_read pairs_read is_pair number_of number_from digit_of run_of belongs
placed-worked = refl

-- every call of no place, and lines that ask for nothing
pub unplaced-worked : asked ("new" ∷ "frame 300 A8" ∷ "time 50" ∷ "open" ∷ "" ∷ "# 7 due" ∷ [])
    ≡ alone New ∷ alone (Frame 0x300 1) ∷ alone (Time 50) ∷ alone (Other 0x6F70656E) ∷ alone Nothing ∷ alone Nothing ∷ []
unfolding asked_of asked_with place_read behind_place suits call_of alone_of followed_of frame_of time_of word_at behind_word letters_of letters_from only_word only_number id_read octets_read pairs_read is_pair number_of number_from digit_of run_of belongs
unplaced-worked = refl

-- a place alone, or in front of what is no call of a place
pub misplaced-worked : asked ("7" ∷ "7 new" ∷ "7 frame 300 A8" ∷ "7 open" ∷ "7 # due" ∷ "7 7 due" ∷ []) ≡ replicate 6 (at 7 Wrong)
unfolding asked_of asked_with place_read behind_place suits call_of alone_of followed_of frame_of word_at behind_word letters_of letters_from id_read octets_read pairs_read is_pair number_of number_from digit_of run_of belongs
misplaced-worked = refl

-- a number that names no place, and a place that is missing
pub missing-worked : asked ("256 take" ∷ "18446744073709551616 take" ∷ "due" ∷ "due 01" ∷ "send 0A" ∷ "take" ∷ "close" ∷ "room 16" ∷ "buffer" ∷ []) ≡ replicate 9 (alone Wrong)
unfolding asked_of asked_with place_read behind_place suits call_of alone_of followed_of room_of due_of send_of word_at behind_word letters_of letters_from only_word only_number octets_read pairs_read is_pair number_of number_from digit_of run_of belongs
missing-worked = refl

-- the bytes that a call gives, behind its place
pub bytes-worked : asked_into (0 ∷ 0 ∷ 0 ∷ []) (ascii "3 send 0A ff") ≡ 0x0A ∷ 0xFF ∷ 0 ∷ []
unfolding asked_into place_read behind_place call_into followed_into octets_into pairs_into is_pair word_at behind_word letters_of letters_from number_of number_from digit_of run_of belongs
bytes-worked = refl

-- ---- an ID, and settings

abbrev ids : List String → List (Result ℕ NumberError)
ids [] = []
ids (s ∷ more) = only_id (ascii s) ∷ ids more

pub id-worked : ids ("2fF" ∷ "FFFF" ∷ "10000" ∷ "300 1" ∷ "" ∷ "30G" ∷ []) ≡ Ok 0x2FF ∷ Ok 0xFFFF ∷ replicate 4 (Err NoNumber)
unfolding only_id only_word id_read word_at behind_word number_of number_from digit_of run_of belongs
id-worked = refl

abbrev openings : List String → List (Option Settings)
openings [] = []
openings (s ∷ more) = opening_of (ascii s) ∷ openings more

-- none, eleven words, too many, too few, and one that is no number
pub opening-worked : openings ("" ∷ "768 1 8 138 50 1000 10 5 1000 10000 5" ∷ "768 1 8 138 50 1000 10 5 1000 10000 5 0" ∷ "768 1 8" ∷ "768 x 8 138 50 1000 10 5 1000 10000 5" ∷ [])
    ≡ Some defaults ∷ Some defaults ∷ replicate 3 None
unfolding opening_with given_by after_words next_number with_number word_at number_of number_from digit_of run_of belongs
opening-worked = refl

-- ---- an opening in TP 1.6

abbrev openings16 : List String → List (Option Opening16)
openings16 [] = []
openings16 (s ∷ more) = opening16_of (ascii s) ∷ openings16 more

-- a receive ID and a unit, and else the defaults of 02, 10
abbrev with_two : (receive unit : ℕ) → Settings
with_two receive unit = record { receive = receive; unit = unit; block = 8; t1 = 0x8A; t3 = 0x4A; t_e = 1000; mntc = 20; mntb = 5; t_wait = 500; t_ct = 10000; mnct = 5 }

-- an opening in a row, with its settings
abbrev row : Profile → Settings → Option Opening16
row p s = Some (record { profile = p; settings = s })

-- the rows alone: the lowest unit and receive ID of each
pub rows-worked : openings16 ("drive" ∷ "comfort" ∷ "high" ∷ " low " ∷ [])
    ≡ row drive (with_two 0x740 0x00) ∷ row comfort (with_two 0x300 0x00) ∷ row high (with_two 0x4E0 0x30) ∷ row low (with_two 0x690 0x30) ∷ []
unfolding opening16_of opening_in opening_as row_of opening_with word_at behind_word letters_of letters_from run_of belongs
rows-worked = refl

-- with eleven words, in a row's ranges or not; a number too large for its setting is a receive ID that no row has
pub row-numbers-worked : openings16 ("drive 1983 31 8 138 74 1000 20 5 500 10000 5" ∷ "low 768 1 8 138 74 1000 20 5 500 10000 5" ∷ "comfort 768 256 8 138 74 1000 20 5 500 10000 5" ∷ "drive 1983 31 15 139 129 10000 0 255 999 1 2" ∷ [])
    ≡ row drive (with_two 0x7BF 0x1F) ∷ row low (with_two 0x300 0x01) ∷ row comfort (with_two 0xFFFF 0)
    ∷ row drive (record { receive = 1983; unit = 31; block = 15; t1 = 139; t3 = 129; t_e = 10000; mntc = 0; mntb = 255; t_wait = 999; t_ct = 1; mnct = 2 }) ∷ []
unfolding opening16_of opening_in opening_as row_of opening_with given_by after_words next_number with_number word_at behind_word letters_of letters_from number_of number_from digit_of run_of belongs
row-numbers-worked = refl

-- too few words, too many, one that is no number, and words that are no row
pub no-row-worked : openings16 ("drive 1 2" ∷ "drive 1856 0 8 138 74 1000 20 5 500 10000 5 0" ∷ "drive x 0 8 138 74 1000 20 5 500 10000 5" ∷ "drive low" ∷ [])
    ++ openings16 ("drives" ∷ "driv" ∷ "Drive" ∷ "tp20" ∷ "" ∷ "1856 0 8 138 74 1000 20 5 500 10000 5" ∷ "infotainment" ∷ []) ≡ replicate 11 None
unfolding opening16_of opening_in opening_as row_of opening_with given_by after_words next_number with_number word_at behind_word letters_of letters_from number_of number_from digit_of run_of belongs
no-row-worked = refl

-- ---- answers

pub answer-worked : answer_at (marked (plain 0) false) 7 ≡ ascii "0 at 7\n"
unfolding answer_at told_of said_of carried_of pairs_of decimal_below
answer-worked = refl

pub mark-worked : answer_at (marked (record { number = 11; done = true; opcode = 0xD7 }) true) 0 ≡ ascii "11 D7 done padded at 0\n"
unfolding answer_at told_of said_of carried_of pairs_of decimal_below
mark-worked = refl

pub each-worked : each_of (plain 0 ∷ plain 8 ∷ replicate 5 (plain 0) ++ (plain 4 ∷ [])) ≡ ascii "0 8 0 0 0 0 0 4\n"
unfolding each_of saids_of said_of pairs_of decimal_below
each-worked = refl

pub owner-worked : owner_of (Some 7) ++ owner_of None ≡ ascii "7\n-\n"
unfolding owner_of decimal_below
owner-worked = refl
