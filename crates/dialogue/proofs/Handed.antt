-- What is asked of a text that a callee handed out.
--     lengths, handed      sets for `search`: how long it is, and what it is read as
use Rattle.std.proofs.Common.{◌≡◌, ℕ, ◌-◌, true, false, eqb, List, [], ◌∷◌, length, take, drop, refl, ap, ◌∙◌, arith, length-drop, length-take, take_all, eq-eqb, ne_eqb}
use Rattle.text.specs.Pairs.{pairs_into}
use Rattle.text.specs.Words.{word_from}
use Rattle.text.specs.declared.reading.Span.{Span}
use Rattle.dialogue.specs.declared.calls.Call.{Call}
use Rattle.dialogue.specs.Words.{word_at, behind_word, letters_of, octets_into}
use Rattle.dialogue.specs.Calls.{alone_of, followed_of, followed_into}

pub as_long : (r s : List ℕ) (n : ℕ) → r ≡ s → length r ≡ n → eqb (length s) n ≡ true
as_long r s n e h = rw (← e) (eq-eqb (length r) n h)

pub not_as_long : (r s : List ℕ) (n : ℕ) → r ≡ s → (length r ≡ n → ⊥) → eqb (length s) n ≡ false
not_as_long r s n e h = rw (← e) (ne_eqb (length r) n h)

pub ruleset lengths = (as_long, not_as_long)

-- a line of no characters has no word
pub no_word : (s : List ℕ) → length s ≡ 0 → eqb (length (word_at s 0)) 0 ≡ true
unfolding word_at
no_word s h = eq-eqb (length (word_at s 0)) 0 (simp (length-take, length-drop) (omega arith))

-- and no words give no bytes
pub no_bytes : (b s : List ℕ) → length s ≡ 0 → b ≡ octets_into b s
unfolding octets_into pairs_into
no_bytes b [] h = refl
no_bytes b (a ∷ s) h = absurd (omega arith)

-- from the second word on
pub behind : (s r : List ℕ) (w v : Span) → w ≡ word_from s 0 → v ≡ word_from s w.end → r ≡ take (length s - v.start) (drop v.start s) → r ≡ behind_word s
unfolding behind_word
behind s r w v e f g = g ∙ take_all (length s - v.start) (drop v.start s) (simp length-drop (omega arith)) ∙ rw (f, e)

pub spelt : (r s : List ℕ) (n : ℕ) → n ≡ letters_of r → r ≡ s → n ≡ letters_of s
spelt r s n e f = e ∙ ap letters_of f

pub is-alone : (r : Call) (n m : ℕ) → r ≡ alone_of n → n ≡ m → r ≡ alone_of m
is-alone r n m e f = e ∙ ap alone_of f

pub is-followed : (r : Call) (most n m : ℕ) (s t : List ℕ) → r ≡ followed_of most n s → n ≡ m → s ≡ t → r ≡ followed_of most m t
is-followed r most n m s t e f g = e ∙ rw (f, g)

pub is-filled : (r b : List ℕ) (n m : ℕ) (s t : List ℕ) → r ≡ followed_into b n s → n ≡ m → s ≡ t → r ≡ followed_into b m t
is-filled r b n m s t e f g = e ∙ rw (f, g)

pub ruleset handed = (as_long, not_as_long, no_word, spelt, is-alone, is-followed, is-filled)

-- a name is no other
pub another : (n a b : ℕ) → n ≡ a → eqb a b ≡ false → eqb n b ≡ false
another n a b e f = rw e f
