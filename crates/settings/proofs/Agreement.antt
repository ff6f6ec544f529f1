-- The rules of what is agreed, in other words: field by field, and the block size by which of the two is smaller.
use Prim.Native.Nat.{ℕ, zero, suc, ◌*◌, ◌/◌, ◌%◌, ◌^◌, ◌<◌, ◌≤◌, min}
use native.Mathlib.Omega.{arith}
use mathlib.Core.Path.{◌≡◌, refl}
use Rattle.telegram.specs.Time.{tenths_of}
use Rattle.telegram.specs.declared.kinds.Parameters.{Parameters as Fields}
use Rattle.settings.specs.Agreed.{agreed}
use Rattle.settings.specs.declared.Settings.{Settings}

-- ---- time codes

-- "unit 1, 10, 100 or 1,000 tenths"
abbrev pub unit : ℕ → ℕ
unit zero = 1
unit (suc zero) = 10
unit (suc (suc zero)) = 100
unit (suc (suc (suc n))) = 1000

-- "Bits 7-6: unit .. Bits 5-0: multiplier"
pub tenths-are : (code : ℕ) → code < 256 → tenths_of code ≡ code % 64 * unit (code / 64)
unfolding tenths_of
tenths-are code h = go (code / 64) (omega arith)
  where
    go : (q : ℕ) → q < 4 → code % 64 * 10 ^ q ≡ code % 64 * unit q
    go zero h = refl
    go (suc zero) h = refl
    go (suc (suc zero)) h = refl
    go (suc (suc (suc zero))) h = refl
    go (suc (suc (suc (suc q)))) h = absurd (omega arith)

-- ---- what is agreed

module _ (s : Settings) (p : Fields) where
  -- "The smaller block size holds": ours, or the peer's
  pub agreed-block-ours : s.block ≤ p.block → (agreed s p).terms.block ≡ s.block
  agreed-block-ours h = omega arith

  pub agreed-block-theirs : p.block ≤ s.block → (agreed s p).terms.block ≡ p.block
  agreed-block-theirs h = omega arith

  -- our own T1, and the peer's T3, in tenths; repeats, T_WAIT, interval and allowance are ours, and our A1 to a test has the fields of our A0
  pub agreed-are : s.t1 < 256 → p.t3 < 256
      → agreed s p
      ≡ record {
        terms =
            record {
              block = min s.block p.block;
              t1 = s.t1 % 64 * unit (s.t1 / 64);
              t3 = p.t3 % 64 * unit (p.t3 / 64);
              repeats = s.mntb;
              t_wait = s.t_wait;
            };
        interval = s.t_ct;
        allowed = s.mnct;
        own = record { block = s.block; t1 = s.t1; t3 = s.t3 };
      }
  agreed-are h k = rw (tenths-are s.t1 h, tenths-are p.t3 k)
