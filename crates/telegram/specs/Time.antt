-- 01, "Time codes".
use Rattle.std.specs.Prelude.{ℕ, ◌*◌, ◌/◌, ◌%◌, ◌^◌}

-- bits 7-6: unit 1, 10, 100 or 1,000 tenths; bits 5-0: multiplier
unfoldable pub tenths_of : ℕ → ℕ
tenths_of code = code % 64 * 10 ^ (code / 64)
