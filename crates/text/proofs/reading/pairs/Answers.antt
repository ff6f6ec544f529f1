-- The rest starts with a blank or a pair, or with something else, or there is none.
use Rattle.std.proofs.Common.{refl}
use Rattle.laws.proofs.Branches.{flag}
use Rattle.text.proofs.Pairs.{first, second, alone, none, skips, takes, ends, lone, bad, no_room, ends-into, lone-into, bad-into, no-room-into}
use Rattle.text.proofs.reading.pairs.Goals as goal

pub loop-rest-preserved-then-is_blank : goal.loop-rest-preserved-then-is_blank
loop-rest-preserved-then-is_blank c =
    skips _ _ _ _ _ c.loop-rest.invariant _ _ (first _ c.in-len1-up.len_at_least) (flag _ _ _ c.is_blank.ensures c.if-is_blank.true)

pub returns-in_default-after-clause-value : goal.returns-in_default-after-clause-value
returns-in_default-after-clause-value c =
    lone _ _ _ _ _ c.loop-rest.invariant _ (alone _ _ c.in-len1-up.len_at_least refl c.in_default-after.len_below) (flag _ _ _ c.is_blank.ensures c.if-is_blank.false)

pub returns-in_default-after-clause-bytes_after : goal.returns-in_default-after-clause-bytes_after
returns-in_default-after-clause-bytes_after c =
    lone-into _ _ _ _ _ c.loop-rest.invariant _ (alone _ _ c.in-len1-up.len_at_least refl c.in_default-after.len_below)

pub returns-then-not-are_digits-clause-value : goal.returns-then-not-are_digits-clause-value
returns-then-not-are_digits-clause-value c =
    bad _ _ _ _ _ c.loop-rest.invariant _ _ _ (second _ _ c.in-len1-up.len_at_least refl c.in-len1-up-after.len_at_least)
    (flag _ _ _ c.is_blank.ensures c.if-is_blank.false) (flag _ _ _ c.are_digits.ensures c.if-not-are_digits.true)

pub returns-then-not-are_digits-clause-bytes_after : goal.returns-then-not-are_digits-clause-bytes_after
returns-then-not-are_digits-clause-bytes_after c =
    bad-into _ _ _ _ _ c.loop-rest.invariant _ _ _ (second _ _ c.in-len1-up.len_at_least refl c.in-len1-up-after.len_at_least)
    (flag _ _ _ c.is_blank.ensures c.if-is_blank.false) (flag _ _ _ c.are_digits.ensures c.if-not-are_digits.true)

pub returns-then-bytes-n-clause-value : goal.returns-then-bytes-n-clause-value
returns-then-bytes-n-clause-value c =
    no_room _ _ _ _ _ c.loop-rest.invariant _ _ _ (second _ _ c.in-len1-up.len_at_least refl c.in-len1-up-after.len_at_least)
    (flag _ _ _ c.is_blank.ensures c.if-is_blank.false) (flag _ _ _ c.are_digits.ensures c.if-not-are_digits.false) c.if-bytes-n.true

pub returns-then-bytes-n-clause-bytes_after : goal.returns-then-bytes-n-clause-bytes_after
returns-then-bytes-n-clause-bytes_after c =
    no-room-into _ _ _ _ _ c.loop-rest.invariant _ _ _ (second _ _ c.in-len1-up.len_at_least refl c.in-len1-up-after.len_at_least)
    (flag _ _ _ c.is_blank.ensures c.if-is_blank.false) (flag _ _ _ c.are_digits.ensures c.if-not-are_digits.false) c.if-bytes-n.true

pub loop-rest-preserved : goal.loop-rest-preserved
loop-rest-preserved c =
    takes _ _ _ _ _ c.loop-rest.invariant _ _ _ (second _ _ c.in-len1-up.len_at_least refl c.in-len1-up-after.len_at_least)
    (flag _ _ _ c.is_blank.ensures c.if-is_blank.false) (flag _ _ _ c.are_digits.ensures c.if-not-are_digits.false) c.if-bytes-n.false _ c.byte_of.ensures

pub returns-clause-value : goal.returns-clause-value
returns-clause-value c = ends _ _ _ _ _ c.loop-rest.invariant (none _ c.in_default.len_below)

pub returns-clause-bytes_after : goal.returns-clause-bytes_after
returns-clause-bytes_after c = ends-into _ _ _ _ _ c.loop-rest.invariant (none _ c.in_default.len_below)
