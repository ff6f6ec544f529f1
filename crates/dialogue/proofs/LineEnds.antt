-- A line, character by character.
--     SoFar              what was read of a line, and where it stands
--     begins, goes_on    nothing yet, and a character more that is no LF
--     ends, is_cut       the input ends, or an LF comes
use Rattle.std.proofs.Common.{◌≡◌, ℕ, ◌+◌, ◌<◌, ◌≤◌, min, true, false, ltb, List, [], ◌∷◌, ◌++◌, length, get_or, sym, ap, ◌∙◌, not-suc-le-zero, arith, length-append, ltb-false, ltb-true}
use lib.ListN.{get_or-append}
use lib.Seq.{get_or_at}
use Rattle.laws.proofs.Cases.{either}
use Rattle.text.specs.Written.{Writes}
use Rattle.text.proofs.Written.{none, then}
use Rattle.dialogue.specs.Lines.{without_return, LineRead}

pub record SoFar (b s : List ℕ) (fill : ℕ) : Type 0 where
  pub came : List ℕ
  pub one_line : (k : ℕ) → k < length came → get_or came k 0 ≡ 10 → ⊥
  pub stands : Writes b 0 came s fill

pub begins : (b : List ℕ) → SoFar b b 0
begins b = record { came = []; one_line = λ k h e. absurd (not-suc-le-zero h); stands = none b 0 }

pub goes_on : (b s t : List ℕ) (fill next c : ℕ) → SoFar b s fill → Writes s fill (c ∷ []) t next → (c ≡ 10 → ⊥) → SoFar b t next
goes_on b s t fill next c p w h = record {
  came = p.came ++ (c ∷ []);
  one_line = λ k l e. either (ltb k (length p.came))
      (λ before. let k< : k < length p.came = ltb-true k _ before in p.one_line k k< (sym (get_or-append p.came (c ∷ []) 0 k k<) ∙ e))
      (λ last. let m : length (p.came ++ (c ∷ [])) ≡ length p.came + 1 = length-append p.came (c ∷ []) in
      let g : length p.came ≤ k = ltb-false k _ last in
      let at : length p.came ≡ k = omega arith in
      h (sym (get_or_at p.came c [] 0 k at) ∙ e));
  stands = then p.stands w;
}

pub ends : (b s : List ℕ) (fill : ℕ) → SoFar b s fill → LineRead b s (record { fill = fill; ended = true })
ends b s fill p = record { came = p.came; one_line = p.one_line; text = p.stands.text; fill = omega (arith, p.stands.place) }

pub is_cut : (b s : List ℕ) (fill r : ℕ) → SoFar b s fill → r ≡ without_return s fill → LineRead b s (record { fill = r; ended = false })
is_cut b s fill r p e =
    let at : fill ≡ min (length p.came) (length b) = omega (arith, p.stands.place) in
    record { came = p.came; one_line = p.one_line; text = p.stands.text; fill = e ∙ ap (without_return s) at }
