-- The next character is a digit, is none, or there is none; or the digit makes the number too large.
use native.Mathlib.Omega.{arith}
use mathlib.Core.Path.{◌∙◌}
use borrow.Author.Rules.{rules}
use Rattle.text.proofs.Numbers.{starts, no-digits, more-fits, goes_on, breaks, grows, fits}
use Rattle.text.proofs.reading.in_base.Goals as goal

pub returns-then-s-eq0 : goal.returns-then-s-eq0
returns-then-s-eq0 c = no-digits _ _ (omega arith)

pub loop-i-init : goal.loop-i-init
loop-i-init c = (starts _ _ (omega arith), omega arith)

pub returns-then-base-d : goal.returns-then-base-d
returns-then-base-d c = breaks _ _ _ _ _ _ c.loop-i.invariant.0 c.loop-i-test.true (c.from-d.ensures ∙ c.digit.ensures) c.if-base-d.true

pub returns-then-d-base : goal.returns-then-d-base
returns-then-d-base c =
    grows _ _ _ _ _ _ c.loop-i.invariant.0 c.loop-i-test.true (c.from-d.ensures ∙ c.digit.ensures) c.requires c.if-base-d.false c.if-d-base.true _ c.too_large.ensures

pub loop-i-preserved : goal.loop-i-preserved
loop-i-preserved c =
    (goes_on _ _ _ _ _ _ c.loop-i.invariant.0 c.loop-i-test.true (c.from-d.ensures ∙ c.digit.ensures) c.if-base-d.false, more-fits _ _ _ (search rules) (search rules) (search rules))

pub returns : goal.returns
returns c = search fits
