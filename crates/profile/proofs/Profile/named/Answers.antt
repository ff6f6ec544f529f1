use Rattle.std.proofs.Common.{Ok, Err}
use Rattle.std.proofs.lemmas.Result.{err_from_is_err_and}
use Prim.Native.Nat.{ℕ, ◌+◌, ◌≤◌}
use mathlib.Core.Bool.{Bool, true, false}
use mathlib.Core.Path.{◌≡◌, refl, sym, ◌∙◌}
use borrow.Author.Rules.{rules}
use borrow.Author.Tests.{leb-true}
use Rattle.laws.proofs.Cases.{and_second}
use Rattle.opening.specs.Opening.{Reply, Positive, NoReply}
use Rattle.opening.specs.declared.ReplyError.{ReplyError}
use Rattle.opening.specs.declared.ReplyError.TheVariants.{Refused, Malformed}
use Rattle.profile.specs.declared.Range.{Range}
use Rattle.profile.specs.declared.Profile.{Profile}
use Rattle.profile.specs.Profile.{within}
use Rattle.profile.specs.Opening.{named}
use Rattle.profile.proofs.Profile.named.Goals as goal

-- what lies in a range has as many bits as its end
at_most : (r : Range) (n : ℕ) → within r n ≡ true → n ≤ r.most
unfolding within
at_most r n e = leb-true n r.most (search and_second)

module _ (p : Profile) where
  -- all but a positive reply is left as it is
  left : (e : ReplyError) → Err e ≡ named p (Err e)
  unfolding named
  left (Refused opcode) = refl
  left Malformed = refl

  -- a positive reply, by whether the sum is a transmit ID
  module _ (reply : Reply) (id : ℕ) (read : reply ≡ Ok id) (b : Bool) (is : b ≡ within p.transmits (p.offset + id)) where
    inside : b ≡ true → Positive (p.offset + id) ≡ named p reply
    unfolding named
    inside e = rw (read, ← is, e)

    outside : b ≡ false → NoReply ≡ named p reply
    unfolding named
    outside e = rw (read, ← is, e)

pub returns-in_err-transmit : goal.returns-in_err-transmit
returns-in_err-transmit c =
    let e = err_from_is_err_and c.from_residual.result c.from_residual.ensures.1 in
    rw (e.1, e.2, c.in_err-transmit.was) (left c.args.self c.in_err-transmit.field-0.0)

pub overflow_cast-result : goal.overflow_cast-result
overflow_cast-result c = let most = at_most _ _ (sym c.has.ensures ∙ c.if-has.true) in search rules

pub returns-then-has : goal.returns-then-has
returns-then-has c = inside _ _ _ c.in_ok-transmit.was _ c.has.ensures c.if-has.true

pub returns-else-has : goal.returns-else-has
returns-else-has c = outside _ _ _ c.in_ok-transmit.was _ c.has.ensures c.if-has.false
