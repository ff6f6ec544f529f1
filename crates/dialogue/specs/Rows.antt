-- An opening in TP 1.6 as words: the row's name, and settings behind it.
use Rattle.std.specs.Prelude.{ℕ, List, Option, Some, None, ◌==◌, if◌then◌else◌}
use Rattle.profile.specs.Profile as profile
use Rattle.profile.specs.declared.Profile.{Profile}
use Rattle.settings.specs.Settings.{defaults16}
use Rattle.settings.specs.declared.Settings.{Settings}
use Rattle.dialogue.specs.declared.rows.Opening16.{Opening16}
use Rattle.dialogue.specs.Words.{word_at, behind_word, letters_of}
use Rattle.dialogue.specs.Numbers.{opening_with}

-- the names, as the numbers that their letters make
abbrev pub drive : ℕ
drive = 0x6472697665

abbrev pub comfort : ℕ
comfort = 0x636F6D666F7274

abbrev pub high : ℕ
high = 0x68696768

abbrev pub low : ℕ
low = 0x6C6F77

-- the row of that name
unfoldable pub row_of : ℕ → Option Profile
row_of name =
    if name == drive then Some profile.drive
    else if name == comfort then Some profile.comfort
    else if name == high then Some profile.high
    else if name == low then Some profile.low
    else None

-- a row with the settings of an opening
unfoldable pub opening_as : Profile → Option Settings → Option Opening16
opening_as p None = None
opening_as p (Some s) = Some (record { profile = p; settings = s })

-- the settings of an opening in a row: the row's defaults where no word is given
unfoldable pub opening_in : Option Profile → List ℕ → Option Opening16
opening_in None s = None
opening_in (Some p) s = opening_as p (opening_with (defaults16 p) s)

-- the row that the first word names, and the settings that those behind it give
unfoldable pub opening16_of : List ℕ → Option Opening16
opening16_of s = opening_in (row_of (letters_of (word_at s 0))) (behind_word s)
