-- Words of a line, and the blanks between them.
use Rattle.std.specs.Prelude.{ℕ, suc, ◌+◌, Bool, true, false, not, List, [], ◌∷◌, drop, eqb, if◌then◌else◌}
use Rattle.text.specs.declared.reading.Span.{Span}

-- a blank is the space character, and no other
abbrev pub is_blank : ℕ → Bool
is_blank c = eqb c 32

-- a character of a run of blanks, or of a run of other characters
unfoldable pub belongs : Bool → ℕ → Bool
belongs blank c = if blank then is_blank c else not (is_blank c)

-- how many characters at the start are blanks, or are none
unfoldable pub run_of : Bool → List ℕ → ℕ
run_of blank [] = 0
run_of blank (c ∷ s) = if belongs blank c then suc (run_of blank s) else 0

-- the word behind the blanks that stand from a place on
abbrev pub word_from : List ℕ → ℕ → Span
word_from s from = record {
  start = from + run_of true (drop from s);
  end = from + run_of true (drop from s) + run_of false (drop (from + run_of true (drop from s)) s);
}
