-- What the two links keep: the data frames under other bounds, another message and one frame more;
-- the Acks under other bounds, a new one due and the due one handed over.
use Prim.Native.Nat.{ℕ, ◌+◌, max, ◌%◌, ◌≤◌}
use native.Mathlib.Nat.{mod-mod}
use native.Mathlib.Omega.{arith}
use mathlib.Core.Bool.{Bool, true, false≢true}
use mathlib.Core.List.{List, [], ◌∷◌, ◌++◌}
use mathlib.Core.Path.{◌≡◌, ap, ◌∙◌}
use Rattle.receiver.specs.Receiving.{no_ack}
use Rattle.receiver.specs.declared.AckDue.{AckDue}
use Rattle.delivery.proofs.Core.{DataFrame, AckFrame}
use Rattle.delivery.proofs.Invariant.{Placed, Forward, Backward}

-- ---- the data frames

-- one frame, where less is expected and more was handed over
placed-bounds : {start top top' : ℕ} {m : List ℕ} {size x x' i : ℕ} {f : DataFrame} → x' ≤ x → top ≤ top'
    → Placed start top m size x i f → Placed start top' m size x' i f
placed-bounds h k p = record { number = p.number; close = omega arith; below = omega arith; carries = p.carries }

pub forward-bounds : (start top top' : ℕ) (m : List ℕ) (size x x' : ℕ) → x' ≤ x → top ≤ top'
    → (is : List ℕ) (fs : List DataFrame) → Forward start top m size x is fs → Forward start top' m size x' is fs
forward-bounds start top top' m size x x' h k [] [] p = tt
forward-bounds start top top' m size x x' h k [] (f ∷ fs) p = p
forward-bounds start top top' m size x x' h k (i ∷ is) [] p = p
forward-bounds start top top' m size x x' h k (i ∷ is) (f ∷ fs) p =
    (placed-bounds h k p.0, forward-bounds start top top' m size (max x (i + 1)) (max x' (i + 1)) (omega arith) k is fs p.1)

-- all frames are of messages before one that starts at top or later
pub forward-old : (start top start' top' : ℕ) (m m' : List ℕ) (size x x' : ℕ) → top ≤ start' → start' ≤ top' → x' ≤ x
    → (is : List ℕ) (fs : List DataFrame) → Forward start top m size x is fs → Forward start' top' m' size x' is fs
forward-old start top start' top' m m' size x x' h k l [] [] p = tt
forward-old start top start' top' m m' size x x' h k l [] (f ∷ fs) p = p
forward-old start top start' top' m m' size x x' h k l (i ∷ is) [] p = p
forward-old start top start' top' m m' size x x' h k l (i ∷ is) (f ∷ fs) p =
    let b = p.0.below in
    let c = p.0.close in (
      record { number = p.0.number; close = omega arith; below = omega arith; carries = λ j e. absurd (omega arith) },
      forward-old start top start' top' m m' size (max x (i + 1)) (max x' (i + 1)) h k (omega arith) is fs p.1,
    )

-- one frame more behind them
pub forward-more : (start top : ℕ) (m : List ℕ) (size x : ℕ) → x ≤ top
    → (is : List ℕ) (fs : List DataFrame) → Forward start top m size x is fs
    → (i : ℕ) (f : DataFrame) → Placed start top m size top i f
    → Forward start top m size x (is ++ (i ∷ [])) (fs ++ (f ∷ []))
forward-more start top m size x h [] [] p i f q = (placed-bounds h (omega arith) q, tt)
forward-more start top m size x h [] (g ∷ fs) p i f q = absurd p
forward-more start top m size x h (j ∷ is) [] p i f q = absurd p
forward-more start top m size x h (j ∷ is) (g ∷ fs) p i f q =
    let b = p.0.below in
    (p.0, forward-more start top m size (max x (j + 1)) (omega arith) is fs p.1 i f q)

-- ---- the Acks

pub backward-bounds : (low low' high high' : ℕ) (due : AckDue) → low' ≤ low → high ≤ high'
    → (fs : List AckFrame) → Backward low high due fs → Backward low' high' due fs
backward-bounds low low' high high' due h k [] p =
    λ e. let q = p e in
    (q.0, record { number = q.1.number; least = omega arith; most = omega arith })
backward-bounds low low' high high' due h k (f ∷ fs) p =
    (p.0, record { number = p.1.number; least = omega arith; most = omega arith }, backward-bounds p.0 p.0 high high' due (omega arith) k fs p.2)

-- a new Ack due, instead of one that was, with the index that is highest now
pub backward-due : (low high high' : ℕ) (due : AckDue) (ready : Bool) (n : ℕ) → low ≤ high → high ≤ high' → n ≡ high' % 16
    → (fs : List AckFrame) → Backward low high due fs → Backward low high' (record { due = true; ready = ready; number = n }) fs
backward-due low high high' due ready n h k e [] p = λ _. (high', record { number = e; least = omega arith; most = omega arith })
backward-due low high high' due ready n h k e (f ∷ fs) p =
    let q = p.1 in
    (p.0, record { number = q.number; least = q.least; most = omega arith }, backward-due p.0 high high' due ready n (omega arith) k e fs p.2)

-- the due Ack handed over
pub backward-hand : (low high : ℕ) (due : AckDue) (f : AckFrame) → due.due ≡ true → f.number ≡ due.number % 16
    → (fs : List AckFrame) → Backward low high due fs → Backward low high no_ack (fs ++ (f ∷ []))
backward-hand low high due f h e [] p =
    let q = p h in
    let n = e ∙ ap (λ (x : ℕ). x % 16) q.1.number ∙ mod-mod q.0 16 in
    (q.0, record { number = n; least = q.1.least; most = q.1.most }, λ w. absurd (false≢true w))
backward-hand low high due f h e (g ∷ fs) p = (p.0, p.1, backward-hand p.0 high due f h e fs p.2)
