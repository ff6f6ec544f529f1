-- A list of calls keeps to the stages, one after the other; and one that has their turns as a subsequence passes them all.
use Prim.Native.Nat.{ℕ}
use mathlib.Core.Bool.{true, false, true≢false}
use mathlib.Core.List.{List, [], ◌∷◌, ◌++◌, append-nil, append_assoc}
use mathlib.Core.Path.{◌≡◌, refl, sym, subst, ◌∙◌}
use lib.ListN.{drop}
use borrow.Author.Tests.{eq-eqb}
use Rattle.laws.proofs.Branches.{and-on}
use Rattle.settings.specs.declared.Settings.{Settings}
use Rattle.unit.specs.declared.ControlUnit.{ControlUnit}
use Rattle.delivery.specs.System.{Flying, Act, Call, step, run}
use Rattle.delivery.specs.Claim.{Along}
use Rattle.unit_opening.specs.Opening.{Outcome, Bench, Proper, active_now, unit_now, active_ended, unit_ended, Subsequence, done, these, other}
use Rattle.unit_opening.proofs.Stages.{turn_of, is_turn, is_next, Stage}
use Rattle.unit_opening.proofs.Steps.{Ready, Freedom, seen, Moved, kept, next, Permitted, stage-step}

-- ---- the turns that are left

-- calls that are turns
abbrev pub Turns : List Call → Type 0
Turns [] = Unit {0}
Turns (c ∷ cs) = (is_turn c ≡ true) × Turns cs

-- some calls are the last ones of others
pub data Last : List Call → List Call → Type 0 where
  all : {ts : List Call} → Last ts ts
  more : {ts rs : List Call} (c : Call) → Last ts rs → Last ts (c ∷ rs)

last-of-last : {ts rs qs : List Call} → Last ts rs → Last rs qs → Last ts qs
last-of-last k all = k
last-of-last k (more c l) = more c (last-of-last k l)

none_last : {ts : List Call} → Last ts [] → ts ≡ []
none_last all = refl

one_less : (ts : List Call) → Last (drop 1 ts) ts
one_less [] = all
one_less (c ∷ ts) = more c all

-- behind a turn: a call that keeps the stage was not its turn
kept-behind : {ts rs : List Call} (c : Call) → Last ts (c ∷ rs) → is_turn c ≡ true → is_next ts c ≡ false → Last ts rs
kept-behind c all t e = absurd (true≢false (sym (and-on (is_turn c) _ t (eq-eqb (turn_of c) (turn_of c) refl)) ∙ e))
kept-behind c (more d l) t e = l

-- and one that leads to the next stage takes a turn away
next-behind : {ts rs : List Call} (c : Call) → Last ts (c ∷ rs) → Last (drop 1 ts) rs
next-behind c all = all
next-behind c (more {ts = ts} d l) = last-of-last (one_less ts) l

-- ---- a list of calls

module _ (limit : ℕ) (s : Settings) (u : ControlUnit) (ready : Ready s u) {Free : ControlUnit → (behind : List Flying) → Type 0} {Permit : ControlUnit → Act → Type 0}
    (freedom : Freedom limit s u Free Permit) where
  abbrev StageAt : (left : List Call) → Bench limit → (active unit : List Outcome) → Type 0
  StageAt left b a h = Stage s u limit Free left (seen limit b a h)

  -- a stage with some of these turns left
  pub record Reached (turns : List Call) (b : Bench limit) (a h : List Outcome) : Type 0 where
    pub left : List Call
    pub behind : Last left turns
    pub stage : StageAt left b a h

  abbrev pub Called : Bench limit → Call → Type 0
  Called b c = Proper limit b c × Permitted limit s u ready freedom b c

  abbrev After : (left : List Call) → Call → Bench limit → (active unit : List Outcome) → Type 0
  After left c b a h = Moved limit s u ready freedom left c (seen limit b a h)

  -- one call
  stage-call : {left : List Call} {a h : List Outcome} (b : Bench limit) → StageAt left b a h → (c : Call) → Called b c
      → After left c (step b c) (a ++ active_now limit b c) (h ++ unit_now limit b c)
  stage-call b st c p = stage-step limit s u ready freedom b.near.buffer b.far.buffer b.forth b.back st c p.0 p.1

  -- any leads on by one turn at most
  call-reaches : {left turns : List Call} {a h : List Outcome} (c : Call) (b : Bench limit) → Last left turns → After left c b a h → Reached turns b a h
  call-reaches {left} c b l (kept e st) = record { left = left; behind = l; stage = st }
  call-reaches {left} c b l (next st) = record { left = drop 1 left; behind = last-of-last (one_less left) l; stage = st }

  -- the turn of the stage leads on
  turn-reaches : {left turns : List Call} {a h : List Outcome} (c : Call) (b : Bench limit) → Last left (c ∷ turns) → is_turn c ≡ true → After left c b a h → Reached turns b a h
  turn-reaches {left} c b l t (kept e st) = record { left = left; behind = kept-behind c l t e; stage = st }
  turn-reaches {left} c b l t (next st) = record { left = drop 1 left; behind = next-behind c l; stage = st }

  -- what was ended with in the first call and in the others
  joined : (P : Bench limit → (active unit : List Outcome) → Type 0) (b : Bench limit) (c : Call) (cs : List Call) (a h : List Outcome)
      → P (run b (c ∷ cs)) ((a ++ active_now limit b c) ++ active_ended limit (step b c) cs) ((h ++ unit_now limit b c) ++ unit_ended limit (step b c) cs)
      → P (run b (c ∷ cs)) (a ++ active_ended limit b (c ∷ cs)) (h ++ unit_ended limit b (c ∷ cs))
  joined P b c cs a h p =
      rw (append_assoc a (active_now limit b c) (active_ended limit (step b c) cs), append_assoc h (unit_now limit b c) (unit_ended limit (step b c) cs)) at p

  pub stage-run : (cs : List Call) {turns : List Call} {a h : List Outcome} (b : Bench limit) → Reached turns b a h → Along Called b cs
      → Reached turns (run b cs) (a ++ active_ended limit b cs) (h ++ unit_ended limit b cs)
  stage-run [] {a = a} {h = h} b r p = rw (append-nil a, append-nil h) r
  stage-run (c ∷ cs) {turns} {a} {h} b r p =
      joined (Reached turns) b c cs a h (stage-run cs (step b c) (call-reaches c (step b c) r.behind (stage-call b r.stage c p.0)) p.1)

  -- with all the turns no stage is left
  pub turns-run : {turns cs : List Call} → Subsequence turns cs → Turns turns → {a h : List Outcome} (b : Bench limit) → Reached turns b a h → Along Called b cs
      → StageAt [] (run b cs) (a ++ active_ended limit b cs) (h ++ unit_ended limit b cs)
  turns-run {cs = cs} done t {a} {h} b r p =
      let q = stage-run cs b r p in
      subst (λ (left : List Call). StageAt left (run b cs) (a ++ active_ended limit b cs) (h ++ unit_ended limit b cs)) (none_last q.behind) q.stage
  turns-run (these c {cs = cs} turns) t {a} {h} b r p =
      joined (StageAt []) b c cs a h (turns-run turns t.1 (step b c) (turn-reaches c (step b c) r.behind t.0 (stage-call b r.stage c p.0)) p.1)
  turns-run (other c {cs = cs} turns) t {a} {h} b r p =
      joined (StageAt []) b c cs a h (turns-run turns t (step b c) (call-reaches c (step b c) r.behind (stage-call b r.stage c p.0)) p.1)
