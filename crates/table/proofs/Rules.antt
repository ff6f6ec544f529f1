-- The rules of a table in other words: its places as the numbers 0 to 7, phases, units and IDs as numbers, and records field by field, none through the definitions that they speak of.
-- Here: opening. Arriving frames and the calls that name a place stand in Places.antt, worked tables in Worked.antt.
use Prim.Native.Nat.{ℕ, ◌≤◌, ◌<◌}
use native.Mathlib.Omega.{arith}
use mathlib.Core.Bool.{true, false, not, ◌||◌, true≢false}
use mathlib.Core.Logic.{◌≢◌, ◌⊎◌, inl, inr, ◌↔◌}
use mathlib.Core.Path.{◌≡◌, refl, sym, ◌∙◌, ap}
use lib.Dec.{leb, eqb}
use lib.ListN.{length, get_or, length-set}
use lib.Seq.{get_or-set_same, get_or-set_other}
use borrow.Author.Tests.{eq-eqb, ne_eqb, eqb-true, eqb-false, le-leb, lt-leb, leb-true, not-true}
use Rattle.laws.proofs.Branches.{and-on, or-on, or-on', not_on}
use Rattle.laws.proofs.Cases.{by, by-not, by-lt, by_le, both, either}
use Rattle.settings.specs.Settings.{allowed}
use Rattle.settings.specs.declared.Settings.{Settings}
use Rattle.settings.proofs.Rules.{InRange, allowed-exactly}
use Rattle.channel.specs.declared.Answer.TheVariants.{Good}
use Rattle.open_end.specs.declared.answers.Answer.TheVariants.{OutOfRange, Full}
use Rattle.open_end.proofs.Rules.{no_channel, plainly}
use Rattle.connection.specs.declared.Connection.{Connection}
use Rattle.connection.specs.Calls.{opening}
use Rattle.connection.proofs.Rules.{plain, opening-leaves}
use Rattle.table.specs.declared.Table.{Table}
use Rattle.std.specs.Prelude.{Some, None}
use Rattle.table.specs.declared.Opened.{Opened}
use Rattle.table.specs.Table.{with, free_of, uses_either, is_used, reserved}
use Rattle.table.specs.Calls.{opens}
use Rattle.table.proofs.Found.{free-closed, free-first, used-at, unused-at}

-- ---- places

-- past the last place: closed, with every number 0
abbrev pub past : Connection
past =
    record {
      phase = 0;
      profile =
          record {
            request = 0;
            reply = 0;
            offset = 0;
            units = record { least = 0; most = 0 };
            receives = record { least = 0; most = 0 };
            transmits = record { least = 0; most = 0 };
            short = false;
            tests = false;
            least_t3 = 0;
            bounded = false;
          };
      settings = record { receive = 0; unit = 0; block = 0; t1 = 0; t3 = 0; t_e = 0; mntc = 0; mntb = 0; t_wait = 0; t_ct = 0; mnct = 0 };
      attempt = record { due = false; asked = false; wait = 0; repeats = 0 };
      leaving = false;
      end = record { transmit = 0; receive = 0; channel = no_channel };
    }

-- the record at a place
abbrev pub record_at : Table → ℕ → Connection
record_at t p = get_or t.places p past

-- of a table of eight records the one at a place is now c, and every other is as it was
pub record Alone (t : Table) (p : ℕ) (c : Connection) (after : Table) : Type 0 where
  pub there : length t.places ≡ 8 → record_at after p ≡ c
  pub others : (j : ℕ) → j ≢ p → record_at after j ≡ record_at t j
  pub many : length after.places ≡ length t.places

pub alone : (t : Table) (p : ℕ) (b c : Connection) → p < 8 → b ≡ c → Alone t p c (with t p b)
alone t p b c h e =
    record {
      there = λ eight. get_or-set_same t.places p b past (omega arith) ∙ e;
      others = λ j other. get_or-set_other t.places p j b past other;
      many = length-set t.places p b;
    }

-- ---- open

-- "all eight places are open or opening"
abbrev pub AllInUse : Table → Type 0
AllInUse t = (p : ℕ) → p < 8 → (record_at t p).phase ≢ 0

-- some place is closed
abbrev pub SomeClosed : Table → Type 0
SomeClosed t = (p : ℕ) × (p < 8) × ((record_at t p).phase ≡ 0)

-- "a unit or a receive ID in use": a record that is open or opening has it, its D0 here or not; a closed one's do not count, nor does any transmit ID
abbrev pub Uses : Settings → Connection → Type 0
Uses s c = (c.phase ≢ 0) × ((c.settings.unit ≡ s.unit) ⊎ (c.settings.receive ≡ s.receive))

-- "a receive ID from 0x200 to 0x2EF"
abbrev pub Reserved : ℕ → Type 0
Reserved id = (0x200 ≤ id) × (id ≤ 0x2EF)

-- what gives 10: a range of 01, a receive ID from 0x200 to 0x2EF, a unit or a receive ID in use
abbrev pub Barred : Table → Settings → Type 0
Barred t s = (InRange plain s → ⊥) ⊎ (Reserved s.receive ⊎ ((p : ℕ) × (p < 8) × Uses s (record_at t p)))

-- what an opening leaves at its place: TP 2.0, these settings, the C0 due, unasked and unrepeated, no wait running, no A8, no ID known
abbrev pub asking : Settings → Connection
asking s =
    record {
      phase = 1;
      profile = plain;
      settings = s;
      attempt = record { due = true; asked = false; wait = 0; repeats = 0 };
      leaving = false;
      end = record { transmit = 0; receive = 0; channel = no_channel };
    }

-- 13 and 10: nothing changed, and no place named
abbrev pub thirteen : Table → Opened
thirteen t = record { told = record { answer = Full; said = record { number = 13; done = false; opcode = 0 } }; place = None; left = t }

abbrev pub ten : Table → Opened
ten t = record { told = record { answer = OutOfRange; said = record { number = 10; done = false; opcode = 0 } }; place = None; left = t }

-- "otherwise the lowest closed place is used and named", A8 due there or not
pub record Took (t : Table) (s : Settings) (p : ℕ) (r : Opened) : Type 0 where
  pub within : p < 8
  pub closed : (record_at t p).phase ≡ 0
  pub lowest : (j : ℕ) → j < p → (record_at t j).phase ≢ 0
  pub told : r.told ≡ plainly Good 0
  pub place : r.place ≡ Some p
  pub left : Alone t p (asking s) r.left

-- an opening that is none of these
pub record Fits (t : Table) (s : Settings) : Type 0 where
  pub ranges : InRange plain s
  pub receive : Reserved s.receive → ⊥
  pub unused : (p : ℕ) → p < 8 → Uses s (record_at t p) → ⊥

-- the three outcomes
abbrev Outcome : Table → Settings → Opened → Type 0
Outcome t s r = (AllInUse t × (r ≡ thirteen t)) ⊎ ((SomeClosed t × Barred t s × (r ≡ ten t)) ⊎ (Fits t s × ((p : ℕ) × Took t s p r)))

reserved-exactly : (id : ℕ) → reserved id ≡ true ↔ Reserved id
unfolding reserved
reserved-exactly id = (λ e. let h = both (leb 0x200 id) (leb id 0x2EF) e in (leb-true 0x200 id h.0, leb-true id 0x2EF h.1), λ h. and-on _ _ (le-leb 0x200 id h.0) (le-leb id 0x2EF h.1))

one_of : (a b c d : ℕ) → (a ≡ b) ⊎ (c ≡ d) → (eqb a b || eqb c d) ≡ true
one_of a b c d (inl e) = or-on (eqb a b) (eqb c d) (eq-eqb a b e)
one_of a b c d (inr e) = or-on' (eqb a b) (eqb c d) (eq-eqb c d e)

uses-exactly : (s : Settings) (c : Connection) → uses_either s.unit s.receive c ≡ true ↔ Uses s c
unfolding uses_either
uses-exactly s c = (told, used)
  where
    told : uses_either s.unit s.receive c ≡ true → Uses s c
    told e =
        let h = both (not (eqb c.phase 0)) (eqb c.settings.unit s.unit || eqb c.settings.receive s.receive) e in (
          eqb-false c.phase 0 (not-true (eqb c.phase 0) h.0),
          either (eqb c.settings.unit s.unit) (λ u. inl (eqb-true _ _ u)) (λ u. inr (eqb-true _ _ (rw u at h.1))),
        )

    used : Uses s c → uses_either s.unit s.receive c ≡ true
    used h = and-on _ _ (not_on _ (ne_eqb c.phase 0 h.0)) (one_of c.settings.unit s.unit c.settings.receive s.receive h.1)

opens-outcome : (t : Table) (s : Settings) → Outcome t s (opens t s)
unfolding opens
opens-outcome t s =
    by_le (Outcome t s) 8 (free_of t) (λ none. inl (λ p h. eqb-false _ 0 (free-first t p (omega arith)), refl)) λ some.
    let closed : (record_at t (free_of t)).phase ≡ 0 = eqb-true _ 0 (free-closed t some) in
    by (Outcome t s) (reserved s.receive) (λ e. inr (inl ((free_of t, some, closed), inr (inl ((reserved-exactly s.receive).0 e)), refl))) λ kept.
    by (Outcome t s) (is_used t s.unit s.receive)
    (λ e. let at_place = used-at t s.unit s.receive e in
    inr (inl ((free_of t, some, closed), inr (inr (at_place.0, at_place.1, (uses-exactly s (record_at t at_place.0)).0 at_place.2)), refl))) λ unused.
    by-not (Outcome t s) (allowed s)
    (λ e. inr (inl ((free_of t, some, closed), inl (λ k. true≢false (sym ((allowed-exactly plain s).1 k) ∙ e)), refl))) λ k.
    let leaves = opening-leaves (record_at t (free_of t)) s closed k in
    inr (inr (
      record {
        ranges = (allowed-exactly plain s).0 k;
        receive = λ h. true≢false (sym ((reserved-exactly s.receive).1 h) ∙ kept);
        unused = λ p h u. true≢false (sym ((uses-exactly s (record_at t p)).1 u) ∙ unused-at t s.unit s.receive p unused h);
      },
      (
        free_of t,
        record {
          within = some;
          closed = closed;
          lowest = λ j h. eqb-false _ 0 (free-first t j h);
          told = ap (λ r. r.told) leaves;
          place = rw (lt-leb 8 (free_of t) some);
          left = alone t (free_of t) (opening (record_at t (free_of t)) s).left (asking s) some (ap (λ r. r.left) leaves);
        },
      ),
    ))

nowhere-not-at : (p : ℕ) → None ≡ Some p → ⊥
nowhere-not-at p e = let z : ◌≡◌ {A = ℕ} 0 1 = cc in omega arith

at_one : (q p : ℕ) → Some q ≡ Some p → q ≡ p
at_one q p e = cc

module _ (t : Table) (s : Settings) where
  cases : {R : Type 0} (r : Opened) → Outcome t s r → (AllInUse t → r ≡ thirteen t → R) → (SomeClosed t → Barred t s → r ≡ ten t → R)
      → (Fits t s → (p : ℕ) → Took t s p r → R) → R
  cases r (inl h) f g k = f h.0 h.1
  cases r (inr (inl h)) f g k = g h.0 h.1 h.2
  cases r (inr (inr h)) f g k = k h.0 h.1.0 h.1.1

  fits-not-barred : Fits t s → Barred t s → ⊥
  fits-not-barred f (inl out) = out f.ranges
  fits-not-barred f (inr (inl in_reach)) = f.receive in_reach
  fits-not-barred f (inr (inr used)) = f.unused used.0 used.1 used.2

  took-closed : {r : Opened} (p : ℕ) → Took t s p r → SomeClosed t
  took-closed p took = (p, took.within, took.closed)

  -- "A new answer 13, table full, nothing changed": no place is named, whatever the settings, so it "comes before 10"
  pub open-13 : AllInUse t → opens t s ≡ thirteen t
  open-13 all =
      cases (opens t s) (opens-outcome t s) (λ _ e. e) (λ some _ _. absurd (all some.0 some.1 some.2)) (λ _ p took. absurd (all p took.within took.closed))

  -- "is given to an opening exactly when all eight places are open or opening"
  pub open-13-exactly : (opens t s).told.said.number ≡ 13 ↔ AllInUse t
  open-13-exactly = (
    (λ n. cases (opens t s) (opens-outcome t s) (λ all _. all)
        (λ _ _ e. absurd (omega (arith, ap (λ r. r.told.said.number) e)))
        (λ _ p took. absurd (omega (arith, ap (λ r. r.said.number) took.told)))),
    λ all. ap (λ r. r.told.said.number) (open-13 all),
  )

  -- "gives answer 10": nothing changed, and no place is named
  pub open-10 : SomeClosed t → Barred t s → opens t s ≡ ten t
  open-10 some barred =
      cases (opens t s) (opens-outcome t s) (λ all _. absurd (all some.0 some.1 some.2)) (λ _ _ e. e) (λ fits _ _. absurd (fits-not-barred fits barred))

  -- 10 for nothing else, and only where some place is closed
  pub open-10-exactly : (opens t s).told.said.number ≡ 10 ↔ (SomeClosed t × Barred t s)
  open-10-exactly = (
    (λ n. cases (opens t s) (opens-outcome t s)
        (λ _ e. absurd (omega (arith, ap (λ r. r.told.said.number) e)))
        (λ some barred _. (some, barred))
        (λ _ p took. absurd (omega (arith, ap (λ r. r.said.number) took.told)))),
    λ h. ap (λ r. r.told.said.number) (open-10 h.0 h.1),
  )

  -- "Opening with .. a receive ID from 0x200 to 0x2EF, gives answer 10"
  pub open-reserved : SomeClosed t → 0x200 ≤ s.receive → s.receive ≤ 0x2EF → opens t s ≡ ten t
  open-reserved some low high = open-10 some (inr (inl (low, high)))

  -- "Opening with a unit .. in use": in phase 1, 2 or 3, so also after its D0
  pub open-unit-in-use : SomeClosed t → (p : ℕ) → p < 8 → 1 ≤ (record_at t p).phase → (record_at t p).settings.unit ≡ s.unit → opens t s ≡ ten t
  open-unit-in-use some p h busy e = open-10 some (inr (inr (p, h, (λ z. omega arith, inl e))))

  -- "or a receive ID in use"
  pub open-receive-in-use : SomeClosed t → (p : ℕ) → p < 8 → 1 ≤ (record_at t p).phase → (record_at t p).settings.receive ≡ s.receive → opens t s ≡ ten t
  open-receive-in-use some p h busy e = open-10 some (inr (inr (p, h, (λ z. omega arith, inr e))))

  -- a range of 01
  pub open-out-of-range : SomeClosed t → (InRange plain s → ⊥) → opens t s ≡ ten t
  open-out-of-range some out = open-10 some (inl out)

  -- "otherwise the lowest closed place is used and named"
  pub open-0 : (p : ℕ) → p < 8 → (record_at t p).phase ≡ 0 → ((j : ℕ) → j < p → (record_at t j).phase ≢ 0) → Fits t s → Took t s p (opens t s)
  open-0 p h closed lower fits =
      cases (opens t s) (opens-outcome t s) (λ all _. absurd (all p h closed)) (λ _ barred _. absurd (fits-not-barred fits barred)) (λ _ q took.
      by-lt (λ (_ : ℕ). Took t s p (opens t s)) q p {x = 0} {y = 0} (λ less. absurd (lower q less took.closed)) λ most.
      by-lt (λ (_ : ℕ). Took t s p (opens t s)) p q {x = 0} {y = 0} (λ less. absurd (took.lowest p less closed)) λ least.
      let same : q ≡ p = omega arith in rw same at took)

  -- 0 exactly where some place is closed and nothing gives 10
  pub open-0-exactly : (opens t s).told.said.number ≡ 0 ↔ (SomeClosed t × Fits t s)
  open-0-exactly = (
    (λ n. cases (opens t s) (opens-outcome t s)
        (λ _ e. absurd (omega (arith, ap (λ r. r.told.said.number) e)))
        (λ _ _ e. absurd (omega (arith, ap (λ r. r.told.said.number) e)))
        (λ fits p took. (took-closed p took, fits))),
    λ h. cases (opens t s) (opens-outcome t s) (λ all _. absurd (all h.0.0 h.0.1 h.0.2)) (λ _ barred _. absurd (fits-not-barred h.1 barred))
        (λ _ p took. ap (λ r. r.said.number) took.told),
  )

  -- "used and named": a place is named exactly by an opening that took it
  pub open-named : (p : ℕ) → (opens t s).place ≡ Some p → Took t s p (opens t s)
  open-named p n =
      cases (opens t s) (opens-outcome t s)
      (λ _ e. absurd (nowhere-not-at p (sym (ap (λ r. r.place) e) ∙ n)))
      (λ _ _ e. absurd (nowhere-not-at p (sym (ap (λ r. r.place) e) ∙ n)))
      (λ _ q took. let same : q ≡ p = at_one q p (sym took.place ∙ n) in rw same at took)

  -- an opening says 0, 10 or 13: "never 4", whichever places are closed
  pub open-says : ((opens t s).told.said.number ≡ 0) ⊎ (((opens t s).told.said.number ≡ 10) ⊎ ((opens t s).told.said.number ≡ 13))
  open-says =
      cases (opens t s) (opens-outcome t s) (λ _ e. inr (inr (ap (λ r. r.told.said.number) e))) (λ _ _ e. inr (inl (ap (λ r. r.told.said.number) e)))
      (λ _ p took. inl (ap (λ r. r.said.number) took.told))
