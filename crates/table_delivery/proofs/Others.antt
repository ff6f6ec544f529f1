-- What a place meets: all that goes to the others is called, and while it is open it owns its receive ID.
use Prim.Native.Nat.{ℕ}
use mathlib.Core.List.{List, [], ◌∷◌, ◌++◌}
use mathlib.Core.Path.{◌≡◌, refl, sym, ◌∙◌, ap}
use borrow.Author.Tests.{ne_eqb}
use Rattle.table.specs.Table.{empty}
use Rattle.table_runs.specs.Runs.{Call, run, goes_to}
use Rattle.table_delivery.specs.Ends.{meanwhile, after_others, AllElsewhere, Meets, PlacesMeet}
use Rattle.table_delivery.proofs.Places.{owned}
use Rattle.table_delivery.proofs.Lawful.{open-hears}

module _ {ℓ} {A : Type ℓ} where
  nil-right : (l : List A) → l ++ [] ≡ l
  nil-right [] = refl
  nil-right (x ∷ l) = ap (λ m. x ∷ m) (nil-right l)

  one_more : (l m : List A) (x : A) → (l ++ (x ∷ [])) ++ m ≡ l ++ (x ∷ m)
  one_more [] m x = refl
  one_more (y ∷ l) m x = ap (λ n. y ∷ n) (one_more l m x)

module _ (limit place : ℕ) where
  all-called : (calls cs : List Call) → AllElsewhere limit place calls cs → meanwhile limit place calls cs ≡ calls ++ cs
  unfolding meanwhile
  all-called calls [] h = sym (nil-right calls)
  all-called calls (c ∷ cs) h = rw (ne_eqb (goes_to (run limit empty calls) c) place h.0) (all-called (calls ++ (c ∷ [])) cs h.1 ∙ one_more calls cs c)

  met : Meets limit place
  unfolding after_others
  met = record { others = λ calls cs rest h. rw (all-called calls cs h); owns = λ within x o. owned limit place within x _ (open-hears _ o) }

pub places-meet : PlacesMeet
places-meet limit place = met limit place
