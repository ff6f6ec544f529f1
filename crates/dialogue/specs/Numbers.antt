-- Settings as words, one decimal number each.
use Rattle.std.specs.Prelude.{ℕ, zero, suc, Bool, true, false, List, [], ◌∷◌, Option, Some, None, Result, Ok, Err, length, ◌==◌, nat_le, nat_lt, slice_index, if◌then◌else◌}
use Rattle.text.specs.Numbers.{number_of}
use Rattle.text.specs.Words.{word_from}
use Rattle.text.specs.declared.reading.NumberError.{NumberError}
use Rattle.text.specs.declared.reading.NumberError.TheVariants.{TooLarge, Bad}
use Rattle.settings.specs.Settings.{defaults}
use Rattle.settings.specs.declared.Settings.{Settings}
use Rattle.dialogue.specs.declared.numbers.Numbers.{Numbers}
use Rattle.dialogue.specs.declared.numbers.Given.{Given}
use Rattle.dialogue.specs.Words.{word_at}

-- none read yet
abbrev pub no_numbers : Numbers
no_numbers = record { at = 0; bad = false; beyond = false; value = 0 }

-- a word was read, up to a place: a number too large for its setting
abbrev pub with_beyond : Numbers → ℕ → Numbers
with_beyond n at = record { at = at; bad = n.bad; beyond = true; value = 0 }

-- a word was read, up to a place, for a setting that holds numbers up to most
unfoldable pub with_number : Numbers → ℕ → ℕ → Result ℕ NumberError → Numbers
with_number n at most (Ok v) =
    if nat_lt most v then with_beyond n at else record { at = at; bad = n.bad; beyond = n.beyond; value = v }
with_number n at most (Err TooLarge) = with_beyond n at
with_number n at most (Err Bad) = record { at = at; bad = true; beyond = n.beyond; value = 0 }

-- the next word is read
unfoldable pub next_number : Numbers → List ℕ → ℕ → Numbers
next_number n s most = with_number n (word_from s n.at).end most (number_of 10 (word_at s n.at))

-- every word was a number, and none is left
abbrev pub are_all : Numbers → List ℕ → Bool
are_all n s = if n.bad then false else nat_le (length s) (word_from s n.at).start

-- the largest numbers that the eleven settings hold, in their order
abbrev pub largest : List ℕ
largest = 0xFFFF ∷ 0xFF ∷ 0xFF ∷ 0xFF ∷ 0xFF ∷ 0xFFFF ∷ 0xFF ∷ 0xFF ∷ 0xFFFF ∷ 0xFFFF ∷ 0xFF ∷ []

-- the first k settings are read
unfoldable pub after_words : ℕ → List ℕ → Numbers
after_words zero s = no_numbers
after_words (suc k) s = next_number (after_words k s) s (slice_index largest k)

-- settings that every record refuses, where a number is too large
abbrev pub out_of_range_if : Bool → Settings → Settings
out_of_range_if beyond s = record {
  receive = if beyond then 0xFFFF else s.receive;
  unit = s.unit;
  block = s.block;
  t1 = s.t1;
  t3 = s.t3;
  t_e = s.t_e;
  mntc = s.mntc;
  mntb = s.mntb;
  t_wait = s.t_wait;
  t_ct = s.t_ct;
  mnct = s.mnct;
}

-- each word's number, in the order of the record
abbrev pub settings_of : List ℕ → Settings
settings_of s = record {
  receive = (after_words 1 s).value;
  unit = (after_words 2 s).value;
  block = (after_words 3 s).value;
  t1 = (after_words 4 s).value;
  t3 = (after_words 5 s).value;
  t_e = (after_words 6 s).value;
  mntc = (after_words 7 s).value;
  mntb = (after_words 8 s).value;
  t_wait = (after_words 9 s).value;
  t_ct = (after_words 10 s).value;
  mnct = (after_words 11 s).value;
}

-- the settings that eleven words give, out of range where a number is too large
unfoldable pub given_by : List ℕ → Given
given_by s = record {
  settings = out_of_range_if (after_words 11 s).beyond (settings_of s);
  numbers = after_words 11 s;
}

-- the settings of an opening: given ones where no word is given, and else those that all the words give, if they do
unfoldable pub opening_with : Settings → List ℕ → Option Settings
opening_with d s = if length s == 0 then Some d else if are_all (given_by s).numbers s then Some (given_by s).settings else None

-- with the defaults of TP 2.0
abbrev pub opening_of : List ℕ → Option Settings
opening_of s = opening_with defaults s
