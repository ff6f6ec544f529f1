-- The next character is a digit, is none, or there is none.
use Rattle.laws.proofs.Branches.{flag}
use Rattle.text.proofs.Numbers.{stays, is-broken, is-too-large}
use Rattle.text.proofs.reading.too_large.Goals as goal

pub returns-then-not-is_digit : goal.returns-then-not-is_digit
returns-then-not-is_digit c = is-broken _ _ _ _ c.loop-c.invariant c.loop-c-test.true (flag _ _ _ c.is_digit.ensures c.if-not-is_digit.true)

pub loop-c-preserved : goal.loop-c-preserved
loop-c-preserved c = stays _ _ _ _ c.loop-c.invariant c.requires c.loop-c-test.true (flag _ _ _ c.is_digit.ensures c.if-not-is_digit.false)

pub returns : goal.returns
returns c = is-too-large _ _ _ _ c.loop-c.invariant c.loop-c-test.false
