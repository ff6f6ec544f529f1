-- The rules of 01, "Settings, with default", and of 02, 10, for the rows of TP 1.6, in numbers.
use Prim.Native.Nat.{ℕ, ◌%◌, ◌≤◌, ◌<◌}
use native.Mathlib.Nat.{mod-eq_of_lt}
use mathlib.Core.Bool.{Bool, true, false, not, ◌&&◌, ◌||◌, false≢true}
use mathlib.Core.Logic.{◌↔◌, ◌≢◌}
use mathlib.Core.Path.{◌≡◌, refl}
use mathlib.Core.List.{[], ◌∷◌, map}
use lib.Dec.{ltb, eqb}
use lib.ListN.{replicate}
use borrow.Author.Tests.{leb-true, le-leb, ltb-true, lt-ltb, eqb-false, ne_eqb, not-true}
use Rattle.laws.proofs.Cases.{and_first, and_second}
use Rattle.telegram.specs.Kinds.{bad_block}
use Rattle.telegram.specs.Time.{tenths_of}
use Rattle.telegram.proofs.Rules.{block-passes}
use Rattle.profile.specs.Profile.{within, tp20, drive, comfort, high, low}
use Rattle.profile.specs.declared.Profile.{Profile}
use Rattle.profile.proofs.Rules.{rows, within-exactly}
use Rattle.settings.specs.Settings.{defaults, defaults16, wait_allowed, allowed_by, allowed, used}
use Rattle.settings.specs.declared.Settings.{Settings}

-- ---- defaults

-- "Settings, with default: own receive ID .. (0x300); unit address .. (0x01); block size .. [8, by request 3 of 02]; T1 code .. (0x8A); T3 code (0x32); T_E .. (1,000); MNTC .. (10); block repeats .. (5, house); T_WAIT .. (1,000, house); test interval .. (10,000, house); unanswered tests allowed .. (5, house)"
pub default-values : defaults
    ≡ record {
      receive = 0x300;
      unit = 0x01;
      block = 8;
      t1 = 0x8A;
      t3 = 0x32;
      t_e = 1000;
      mntc = 10;
      mntb = 5;
      t_wait = 1000;
      t_ct = 10000;
      mnct = 5;
    }
default-values = refl

-- settings of TP 1.6 with these five: MNTC 20, and the others, of which 02 says nothing, as above
abbrev pub with-five : (receive unit t1 t3 wait : ℕ) → Settings
with-five r u t1 t3 w = record { receive = r; unit = u; block = 8; t1 = t1; t3 = t3; t_e = 1000; mntc = 20; mntb = 5; t_wait = w; t_ct = 10000; mnct = 5 }

-- "The profile's defaults are MNTC 20, T3 0x4A, T1 0x8A, T_WAIT 500 tenths and the lowest unit and receive ID of the drive ranges" (02, 10), and so for each row
pub default16-values : map defaults16 rows
    ≡ with-five 0x740 0x00 0x8A 0x4A 500 ∷ with-five 0x300 0x00 0x8A 0x4A 500 ∷ with-five 0x4E0 0x30 0x8A 0x4A 500 ∷ with-five 0x690 0x30 0x8A 0x4A 500 ∷ []
default16-values = refl

-- the lowest of every profile whose units have eight bits
pub default16-lowest : (p : Profile) → p.units.least < 256 → ((defaults16 p).unit ≡ p.units.least) × ((defaults16 p).receive ≡ p.receives.least)
default16-lowest p h = (mod-eq_of_lt h, refl)

-- ---- ranges

-- receive ID and unit address as the profile has them, block size 1..15, T1 code with a scale not 0, T_E 1..10,000 tenths, T_WAIT from 1;
-- "a T_WAIT not strictly between our own T3 and T1 settings is answer 10, as is a T3 setting below 10 ms" (02, 10), where the profile asks for it; the others are free in their widths
pub record InRange (p : Profile) (s : Settings) : Type 0 where
  pub receive : (p.receives.least ≤ s.receive) × (s.receive ≤ p.receives.most)
  pub unit : (p.units.least ≤ s.unit) × (s.unit ≤ p.units.most)
  pub block : (1 ≤ s.block) × (s.block ≤ 15)
  pub t1 : s.t1 % 64 ≢ 0
  pub t_e : (1 ≤ s.t_e) × (s.t_e ≤ 10000)
  pub t_wait : 1 ≤ s.t_wait
  pub t3 : p.least_t3 ≤ tenths_of s.t3
  pub bounded : p.bounded ≡ true → (tenths_of s.t3 < s.t_wait) × (s.t_wait < tenths_of s.t1)

-- a number strictly between two others, if it must be
between : (must : Bool) (m n k : ℕ) → (not must || (ltb m n && ltb n k)) ≡ true ↔ (must ≡ true → (m < n) × (n < k))
between true m n k = (λ e _. (ltb-true m n (search and_first), ltb-true n k (search and_second)), λ h. rw (lt-ltb m n (h refl).0, lt-ltb n k (h refl).1))
between false m n k = (λ _ e. absurd (false≢true e), λ _. refl)

-- what a test joined by "and" says of its parts
ruleset parts = (and_first, and_second)

-- the settings are taken exactly in these ranges
pub allowed-exactly : (p : Profile) (s : Settings) → allowed_by p s ≡ true ↔ InRange p s
unfolding allowed_by
allowed-exactly p s = (ranges, taken)
  where
    waits : wait_allowed p s ≡ true ↔ (p.bounded ≡ true → (tenths_of s.t3 < s.t_wait) × (s.t_wait < tenths_of s.t1))
    waits = between p.bounded (tenths_of s.t3) s.t_wait (tenths_of s.t1)

    ranges : allowed_by p s ≡ true → InRange p s
    ranges e =
        record {
          receive = (within-exactly p.receives s.receive).0 (search parts depth 9);
          unit = (within-exactly p.units s.unit).0 (search parts depth 9);
          block = (block-passes s.block).0 (not-true (bad_block s.block) (search parts depth 9));
          t1 = eqb-false (s.t1 % 64) 0 (not-true (eqb (s.t1 % 64) 0) (search parts depth 9));
          t_e = (leb-true 1 s.t_e (search parts depth 9), leb-true s.t_e 10000 (search parts depth 9));
          t_wait = leb-true 1 s.t_wait (search parts depth 9);
          t3 = leb-true p.least_t3 (tenths_of s.t3) (search parts depth 9);
          bounded = waits.0 (search parts depth 9);
        }

    taken : InRange p s → allowed_by p s ≡ true
    taken r =
        rw (
          (within-exactly p.receives s.receive).1 r.receive,
          (within-exactly p.units s.unit).1 r.unit,
          (block-passes s.block).1 r.block,
          ne_eqb (s.t1 % 64) 0 r.t1,
          le-leb 1 s.t_e r.t_e.0,
          le-leb s.t_e 10000 r.t_e.1,
          le-leb 1 s.t_wait r.t_wait,
          le-leb p.least_t3 (tenths_of s.t3) r.t3,
        ) (waits.1 r.bounded)

-- ---- the ends of the ranges, TP 2.0

-- settings with these six, and the free ones at 0
abbrev pub with-six : (receive unit block t1 te wait : ℕ) → Settings
with-six r u b t e w = record { receive = r; unit = u; block = b; t1 = t; t3 = 0; t_e = e; mntc = 0; mntb = 0; t_wait = w; t_ct = 0; mnct = 0 }

-- both ends of every range pass
pub ends-allowed : map allowed (with-six 0 0x00 1 0x01 1 1 ∷ with-six 0x7FF 0xEF 15 0xFF 10000 65535 ∷ []) ≡ true ∷ true ∷ []
unfolding allowed_by within bad_block tenths_of
ends-allowed = refl

-- "T1 code 0x40 (scale 0) gives 10", and so does one beyond each end
pub beyond-refused :
    map allowed
    (with-six 0x800 0x01 15 0x8A 1000 1000 ∷ with-six 0x300 0xF0 15 0x8A 1000 1000
    ∷ with-six 0x300 0x01 0 0x8A 1000 1000 ∷ with-six 0x300 0x01 16 0x8A 1000 1000 ∷ with-six 0x300 0x01 15 0x40 1000 1000
    ∷ with-six 0x300 0x01 15 0x8A 0 1000 ∷ with-six 0x300 0x01 15 0x8A 10001 1000 ∷ with-six 0x300 0x01 15 0x8A 1000 0 ∷ [])
    ≡ false ∷ false ∷ false ∷ false ∷ false ∷ false ∷ false ∷ false ∷ []
unfolding allowed_by within bad_block tenths_of
beyond-refused = refl

-- ---- the same, TP 1.6

-- the defaults of TP 2.0 and of each row, in TP 2.0 and in each row: a row takes its own and no others
pub defaults-allowed : map (λ (p : Profile). map (allowed_by p) (defaults ∷ map defaults16 rows)) (tp20 ∷ rows)
    ≡ (true ∷ true ∷ true ∷ true ∷ true ∷ [])
    ∷ (false ∷ true ∷ false ∷ false ∷ false ∷ [])
    ∷ (false ∷ false ∷ true ∷ false ∷ false ∷ [])
    ∷ (false ∷ false ∷ false ∷ true ∷ false ∷ [])
    ∷ (false ∷ false ∷ false ∷ false ∷ true ∷ [])
    ∷ []
unfolding allowed_by within bad_block tenths_of
defaults-allowed = refl

-- settings with these IDs, and else a row's defaults, by a profile
abbrev ids-pass : Profile → (receive unit : ℕ) → Bool
ids-pass p r u = allowed_by p (with-five r u 0x8A 0x4A 500)

-- "a setting outside is answer 10": both ends of the receive IDs (001, table 5) and units (table 3) pass, and one beyond each does not
pub drive-ends : ids-pass drive 0x740 0x00 ∷ ids-pass drive 0x7BF 0x1F ∷ ids-pass drive 0x73F 0x00 ∷ ids-pass drive 0x7C0 0x00 ∷ ids-pass drive 0x740 0x20 ∷ []
    ≡ true ∷ true ∷ false ∷ false ∷ false ∷ []
unfolding allowed_by within bad_block tenths_of
drive-ends = refl

pub comfort-ends : ids-pass comfort 0x300 0x00 ∷ ids-pass comfort 0x31F 0x1F ∷ ids-pass comfort 0x2FF 0x00 ∷ ids-pass comfort 0x320 0x00 ∷ ids-pass comfort 0x300 0x20 ∷ []
    ≡ true ∷ true ∷ false ∷ false ∷ false ∷ []
unfolding allowed_by within bad_block tenths_of
comfort-ends = refl

pub high-ends : ids-pass high 0x4E0 0x30 ∷ ids-pass high 0x4EF 0x3F ∷ ids-pass high 0x4DF 0x30 ∷ ids-pass high 0x4F0 0x30 ∷ ids-pass high 0x4E0 0x2F ∷ ids-pass high 0x4E0 0x40 ∷ []
    ≡ true ∷ true ∷ false ∷ false ∷ false ∷ false ∷ []
unfolding allowed_by within bad_block tenths_of
high-ends = refl

pub low-ends : ids-pass low 0x690 0x30 ∷ ids-pass low 0x69F 0x3F ∷ ids-pass low 0x68F 0x30 ∷ ids-pass low 0x6A0 0x30 ∷ ids-pass low 0x690 0x2F ∷ ids-pass low 0x690 0x40 ∷ []
    ≡ true ∷ true ∷ false ∷ false ∷ false ∷ false ∷ []
unfolding allowed_by within bad_block tenths_of
low-ends = refl

-- a T3 and a T_WAIT, and else a row's defaults, by that row
abbrev times-pass : Profile → (t3 wait : ℕ) → Bool
times-pass p t3 w = allowed_by p (with-five p.receives.least p.units.least 0x8A t3 w)

-- T3 in every row: 10 ms pass, as 10 units of 1 ms or 1 of 10 ms; 9 ms and 6.3 ms do not; between T3's 100 tenths and T1's 1,000 T_WAIT passes, and at neither
pub times-ends :
    map
    (λ (p : Profile).
    times-pass p 0x4A 500 ∷ times-pass p 0x81 500 ∷ times-pass p 0x49 500 ∷ times-pass p 0x3F 500
    ∷ times-pass p 0x4A 101 ∷ times-pass p 0x4A 999 ∷ times-pass p 0x4A 100 ∷ times-pass p 0x4A 1000 ∷ [])
    rows
    ≡ replicate 4 (true ∷ true ∷ false ∷ false ∷ true ∷ true ∷ false ∷ false ∷ [])
unfolding allowed_by within bad_block tenths_of
times-ends = refl

-- ---- what is made use of

module _ (p : Profile) (s : Settings) where
  -- with tests, every setting
  pub used-tests : p.tests ≡ true → used p s ≡ s
  used-tests t = rw t

  -- "no test (those settings lie unused)": without, the interval is 0, which is no tests, and the others stand
  pub used-none : p.tests ≡ false → used p s
      ≡ record {
        receive = s.receive;
        unit = s.unit;
        block = s.block;
        t1 = s.t1;
        t3 = s.t3;
        t_e = s.t_e;
        mntc = s.mntc;
        mntb = s.mntb;
        t_wait = s.t_wait;
        t_ct = 0;
        mnct = s.mnct;
      }
  used-none t = rw t
