-- Twenty digits hold a number of 64 bits.
use native.Mathlib.Omega.{arith}
use Rattle.text.proofs.Decimal.{at-most-twenty, decimal-is, prefix_len}
use Rattle.text.proofs.writing.digits_of.Goals as goal

pub put_digits-requires : goal.put_digits-requires
put_digits-requires c = omega (arith, at-most-twenty c.args.n c.digit_count-k.result c.digit_count-k.ensures (omega arith))

pub returns-clause-prefix_len : goal.returns-clause-prefix_len
returns-clause-prefix_len c = prefix_len _ _ (omega (arith, at-most-twenty c.args.n c.digit_count-k.result c.digit_count-k.ensures (omega arith)))

pub returns-clause-digits_after : goal.returns-clause-digits_after
returns-clause-digits_after c = decimal-is _ _ _ c.digit_count-k.ensures (omega arith) c.put_digits.ensures
