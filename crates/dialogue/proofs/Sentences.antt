-- Texts that are said.
use Rattle.std.proofs.Common.{◌≡◌, ℕ, ◌+◌, ◌-◌, ◌<◌, ◌≤◌, leb, List, [], ◌∷◌, ◌++◌, length, get_or, take, drop, sym, refl, ◌∙◌, add-one, append_assoc, append-nil, le_refl, arith, take_all, take-suc, leb-false, leb-true}
use Rattle.laws.proofs.Cases.{either}
use Rattle.text.specs.Written.{Writes, pair_of, pairs_of, id_of}
use Rattle.text.proofs.Written.{then, joined, keeps-length}
use Rattle.open_end.specs.declared.Frame.{Frame}
use Rattle.dialogue.specs.declared.session.Session.{Session}
use Rattle.open_end.specs.declared.answers.Said.{Said}
use Rattle.dialogue.specs.Answers.{frame_text, said_of, saids_of, each_of, contents_of}
use Rattle.dialogue.specs.Session.{Says, Answers}

-- a frame's ID and bytes, behind a blank
pub frame_is : (f : Frame) (p : List ℕ) → p ≡ take f.payload.len f.payload.bytes → (32 ∷ []) ++ id_of f.id ++ pairs_of p ≡ frame_text f
unfolding frame_text
frame_is f p e = rw e

pub no-contents : (s : List ℕ) → length s ≡ 0 → 10 ∷ [] ≡ contents_of s
unfolding contents_of
no-contents [] h = refl
no-contents (a ∷ s) h = absurd (omega arith)

pub some-contents : (s : List ℕ) → (length s ≡ 0 → ⊥) → pair_of (get_or s 0 0) ++ pairs_of (take (length s - 1) (drop 1 s)) ++ 10 ∷ [] ≡ contents_of s
unfolding contents_of
some-contents [] h = absurd (h refl)
some-contents (a ∷ s) h = let e : length (a ∷ s) - 1 ≡ length s = omega arith in rw (e, take_all (length s) s (le_refl (length s)))

-- what several say, one by one
saids_of-append : (s t : List Said) → saids_of (s ++ t) ≡ saids_of s ++ saids_of t
unfolding saids_of
saids_of-append [] t = refl
saids_of-append (a ∷ s) t = rw (saids_of-append s t, append_assoc)

saids_of-one : (a : Said) → saids_of (a ∷ []) ≡ (32 ∷ []) ++ said_of a
unfolding saids_of
saids_of-one a = append-nil (32 ∷ said_of a)

module _ (s : List Said) (i : ℕ) (d : Said) where
  said-next : i < length s → saids_of (take (i + 1) s) ≡ saids_of (take i s) ++ ((32 ∷ []) ++ said_of (get_or s i d))
  said-next h = rw (add-one i, take-suc s i d h, saids_of-append, saids_of-one)

  pub said_more : (b : List ℕ) (at : ℕ) (b₁ b₂ b₃ : List ℕ) (n₁ n₂ n₃ : ℕ) → Writes b at (saids_of (take i s)) b₁ n₁ → Writes b₁ n₁ (32 ∷ []) b₂ n₂ → Writes b₂ n₂ (said_of (get_or s i d)) b₃ n₃
      → i < length s → Writes b at (saids_of (take (i + 1) s)) b₃ n₃
  said_more b at b₁ b₂ b₃ n₁ n₂ n₃ p q r h = joined b at _ _ _ b₁ b₃ n₁ n₃ p (then q r) (sym (said-next h))

pub said_each : (s : List Said) (d : Said) (m i : ℕ) → 1 ≤ length s → length s ≤ m + 1 → length (take m (drop 1 s)) ≤ i → said_of (get_or s 0 d) ++ saids_of (take i (take m (drop 1 s))) ++ 10 ∷ [] ≡ each_of s
unfolding each_of
said_each [] d m i l h k = absurd (omega arith)
said_each (a ∷ s) d m i l h k = rw (take_all i (take m s) k, take_all m s (omega arith))

-- what stands up to the place behind a line is what is left of it
stands : (b line after : List ℕ) (n : ℕ) → Writes b 0 line after n → take n after ≡ take (length line) after
stands b line after n w =
    let l : length after ≡ length b = keeps-length b 0 line after n w in
    either (leb (length line) (length b))
    (λ e. let h : length line ≤ length b = leb-true _ _ e in let k : n ≡ length line = omega (arith, w.place) in rw k)
    (λ e. let h : length b < length line = leb-false _ _ e in
    take_all n after (omega (arith, w.place)) ∙ sym (take_all (length line) after (omega arith)))

pub answered : (s r : Session) (line b after said : List ℕ) (n : ℕ) → Writes b 0 line after n → said ≡ take n after → Says s said r → Answers s line b after r
answered s r line b after said n w e h = record { text = w.text; says = rw (e, stands b line after n w) at h }
