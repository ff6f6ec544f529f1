-- The words that a tool is started with: `[--room N] [--chunk N] [FILE]`, and `[--places N]` for a tool that makes a list.
use Rattle.std.specs.Prelude.{ℕ, Bool, true, false, ◌&&◌, List, [], length, take, leb, eqb, bytes_eq, if◌then◌else◌, Option, None, Some, is_some, Result, Ok, Err}
use Rattle.std.specs.List.{starts_with}
use Rattle.laws.specs.Characters.{ascii}
use Rattle.telegram.specs.Cutting.{longest}
use Rattle.text.specs.Numbers.{number_of}
use Rattle.text.specs.declared.reading.NumberError.{NumberError}
use Rattle.log_tools.specs.declared.options.Name.{Name}
use Rattle.log_tools.specs.declared.options.Name.TheVariants.{Room, Chunk, Places}
use Rattle.log_tools.specs.declared.options.Fault.{Fault}
use Rattle.log_tools.specs.declared.options.Fault.TheVariants.{NoOption, Twice, NoNumber, SecondFile}
use Rattle.log_tools.specs.declared.options.Setting.{Setting}
use Rattle.log_tools.specs.declared.options.Awaited.{Awaited}
use Rattle.log_tools.specs.declared.options.Awaited.TheVariants.{Number, Other}
use Rattle.log_tools.specs.declared.options.Options.{Options}

-- a word that starts with `-` is an option
abbrev pub is_option : List ℕ → Bool
is_option w = starts_with eqb w (ascii "-")

-- a place among the words, which are counted from 1; 0 is none
abbrev pub place_of : ℕ → Option ℕ
place_of place = if eqb place 0 then None else Some place

-- room for a message of the limit, chunks of 65,536 characters, and 4096 places
unfoldable pub default_of : Name → ℕ
default_of Room = longest
default_of Chunk = 65536
default_of Places = 4096

-- a room of 0 to 4095 bytes, chunks of 1 to 65536 characters, and 0 to 4096 places
unfoldable pub takes : Name → ℕ → Bool
takes Room n = leb n 4095
takes Chunk n = leb 1 n && leb n 65536
takes Places n = leb n 4096

-- an option where no number is given
abbrev pub unset : Name → Setting
unset option = record { number = default_of option; given = false }

-- no word taken
abbrev pub fresh : (lists : Bool) → Options
fresh lists = record { lists = lists; room = unset Room; chunk = unset Chunk; places = unset Places; awaits = None; file = None; wrong = None }

-- what an option is set to
unfoldable pub setting : Options → Name → Setting
setting o Room = o.room
setting o Chunk = o.chunk
setting o Places = o.places

-- the number given, or that where none is
abbrev pub number_for : Options → Name → ℕ
number_for o option = (setting o option).number

-- the word at a place is wrong, or one is missing
abbrev pub refused : Options → Fault → (place : Option ℕ) → Options
refused o fault place = record o { wrong = Some (record { fault = fault; place = place }) }

-- an option's number comes next
abbrev pub awaiting : Options → Name → Options
awaiting o option = record o { awaits = Some (Number option) }

-- a number that a word gives
abbrev pub given : ℕ → Setting
given n = record { number = n; given = true }

-- an option's number is given
unfoldable pub numbered : Options → Name → ℕ → Options
numbered o Room n = record o { room = given n; awaits = None }
numbered o Chunk n = record o { chunk = given n; awaits = None }
numbered o Places n = record o { places = given n; awaits = None }

-- the file is named
abbrev pub named : Options → (place : Option ℕ) → Options
named o place = record o { file = place }

-- the option of a name; that of places for a tool that makes a list
unfoldable pub option_named : (lists : Bool) → (word : List ℕ) → Option Name
option_named lists w =
    if bytes_eq w (ascii "--room") then Some Room
    else if bytes_eq w (ascii "--chunk") then Some Chunk
    else if lists && bytes_eq w (ascii "--places") then Some Places
    else None

-- the number of an option, if it takes that
unfoldable pub on_number : Options → Name → (place : Option ℕ) → Result ℕ NumberError → Options
on_number o option place (Ok n) = if takes option n then numbered o option n else refused o (NoNumber option) place
on_number o option place (Err e) = refused o (NoNumber option) place

-- each option at most once
unfoldable pub on_option : Options → (place : Option ℕ) → Option Name → Options
on_option o place None = refused o NoOption place
on_option o place (Some option) = if (setting o option).given then refused o Twice place else awaiting o option

-- a word that is no number of an option
abbrev pub free_taken : Options → (place : Option ℕ) → (word : List ℕ) → Options
free_taken o place w =
    if is_some o.file then refused o SecondFile place
    else if is_option w then on_option o place (option_named o.lists w)
    else named o place

-- a word where no word was wrong: the number of the option that awaits it, if one does
unfoldable pub next_taken : Options → (awaited : Option Awaited) → (place : Option ℕ) → (word : List ℕ) → Options
next_taken o None place w = free_taken o place w
next_taken o (Some (Number option)) place w = on_number o option place (number_of 10 w)
next_taken o (Some (Other n)) place w = free_taken o place w

-- the word at a place, behind those taken; the first that is wrong stays told
unfoldable pub word_taken : Options → (place : ℕ) → (word : List ℕ) → Options
word_taken o place w = if is_some o.wrong then o else next_taken o o.awaits (place_of place) w

-- a number that was to come is missing
unfoldable pub number_missing : Options → (awaited : Option Awaited) → Options
number_missing o None = o
number_missing o (Some (Number option)) = refused o (NoNumber option) None
number_missing o (Some (Other n)) = o

-- no word is left
unfoldable pub words_ended : Options → Options
words_ended o = if is_some o.wrong then o else number_missing o o.awaits

-- the first n characters of a buffer are the word; one that fills it may be longer, and is no number
unfoldable pub held_taken : Options → (place : ℕ) → (buffer : List ℕ) → (n : ℕ) → Options
held_taken o place b n = if leb (length b) n && is_some o.awaits then word_taken o place [] else word_taken o place (take n b)
