-- What a tool says on standard error of a word that is wrong, and of a log that cannot be opened or read.
use Rattle.std.specs.Prelude.{ℕ, ◌||◌, List, [], ◌∷◌, ◌++◌, length, ltb, eqb, if◌then◌else◌, Option, unwrap_or}
use Rattle.laws.specs.Characters.{ascii}
use Rattle.text.specs.Written.{Writes, decimal_of}
use Rattle.log_tools.specs.Failures.{error_text}
use Rattle.log_tools.specs.declared.options.Name.TheVariants.{Room, Chunk, Places}
use Rattle.log_tools.specs.declared.options.Fault.{Fault}
use Rattle.log_tools.specs.declared.options.Fault.TheVariants.{NoOption, Twice, NoNumber, SecondFile, Other}
use Rattle.log_tools.specs.declared.options.Wrong.{Wrong}

-- what would end or spoil a line is shown as `?`
abbrev pub shown_as : ℕ → ℕ
shown_as c = if ltb c 32 || eqb c 127 then 63 else c

unfoldable pub plain_of : List ℕ → List ℕ
plain_of [] = []
plain_of (c ∷ s) = shown_as c ∷ plain_of s

-- a word, or its place if it is empty
unfoldable pub shown_word : (place : ℕ) → List ℕ → List ℕ
shown_word place w = if eqb (length w) 0 then ascii "word " ++ decimal_of place else plain_of w

-- the word at a place, or that there is none; a place 0 is none too
unfoldable pub word_at : (place : Option ℕ) → List ℕ → List ℕ
word_at place w = if eqb (unwrap_or place 0) 0 then ascii "none is given" else shown_word (unwrap_or place 0) w

-- what is wrong
unfoldable pub fault_text : Fault → List ℕ
fault_text (NoNumber Room) = ascii "--room wants a number from 0 to 4095: "
fault_text (NoNumber Chunk) = ascii "--chunk wants a number from 1 to 65536: "
fault_text (NoNumber Places) = ascii "--places wants a number from 0 to 4096: "
fault_text Twice = ascii "given twice: "
fault_text SecondFile = ascii "one file at most, and nothing behind it: "
fault_text NoOption = ascii "no such option: "
fault_text (Other n) = ascii "no such option: "

-- the tool's name, before what it says
abbrev pub title_of : (tool : List ℕ) → List ℕ
title_of tool = tool ++ ascii ": "

-- a word that is wrong, on a line
unfoldable pub refusal_line : (tool : List ℕ) → Wrong → (word : List ℕ) → List ℕ
refusal_line tool wrong w = title_of tool ++ fault_text wrong.fault ++ word_at wrong.place w ++ 10 ∷ []

-- a file that cannot be opened; why, and the line's end, come behind it
unfoldable pub unopened_text : (tool : List ℕ) → (place : ℕ) → (name : List ℕ) → List ℕ
unopened_text tool place name = title_of tool ++ ascii "cannot open " ++ shown_word place name

-- a log that cannot be read to its end, and what the system says of that, on a line
abbrev pub unread_line : (tool said : List ℕ) → List ℕ
unread_line tool said = title_of tool ++ ascii "cannot read the log" ++ error_text said

-- a text before and after that is written: what the system says it alone knows
pub record WritesUnread (old : List ℕ) (at : ℕ) (tool new : List ℕ) (next : ℕ) : Type 0 where
  pub said : List ℕ
  pub written : Writes old at (unread_line tool said) new next
