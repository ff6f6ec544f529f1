use Prim.Native.Nat.{ℕ, ◌+◌, ◌-◌, ◌<◌, ◌≤◌}
use native.Mathlib.Omega.{arith}
use mathlib.Core.Bool.{Bool, true, false, not}
use mathlib.Core.Path.{◌≡◌}
use Rattle.laws.proofs.Branches.{branches}
use Rattle.sender.specs.Sending.{passed}
use Rattle.sender.specs.declared.Passed.{Passed}
use Rattle.channel.specs.declared.Tests.{Tests}
use Rattle.channel.specs.declared.Channel.{Channel}
use Rattle.channel.specs.declared.Answered.{Answered}
use Rattle.channel.specs.Opened.{wait_ends, repeats_used_up, later, used_up, went, elapsed}
use Rattle.channel.proofs.Channel.elapse.Goals as goal

-- one more test fits its byte where fewer than are allowed went unanswered
one-more-fits : (unanswered allowed : ℕ) → unanswered < allowed → allowed < 256 → unanswered + 1 < 256
one-more-fits u a less byte = omega arith

-- what the callees found: the sending half after n tenths, whether its repeats are used up, and whether a test's wait ends
module _ (c : Channel) (n : ℕ) {p : Passed} {spent : Bool} (e : p ≡ passed c.parameters.terms c.sender n) (s : spent ≡ repeats_used_up p.note) where
  repeats-out : spent ≡ true → used_up c ≡ elapsed c n
  unfolding elapsed
  repeats-out is = rw (← e) (search branches)

  module _ {ends : Bool} (no : spent ≡ false) (w : ends ≡ wait_ends c.tests n) (r : Answered) where
    runs_on : {t : Tests} → not ends ≡ true → t ≡ later c.tests n → r ≡ went c p.sender t → r ≡ elapsed c n
    unfolding elapsed
    runs_on not_yet l k = rw (k, l, ← e) (search branches)

    one_more : {i : ℕ} → not ends ≡ false → c.tests.unanswered < c.parameters.allowed → i ≡ c.tests.interval - n
        → r ≡ went c p.sender (record { out = c.tests.out; again = true; wait = 0; unanswered = c.tests.unanswered + 1; interval = i }) → r ≡ elapsed c n
    unfolding elapsed
    one_more now less l k = rw (k, l, ← e) (search branches)

    tests-out : not ends ≡ false → c.parameters.allowed ≤ c.tests.unanswered → r ≡ used_up c → r ≡ elapsed c n
    unfolding elapsed
    tests-out now most k = rw (k, ← e) (search branches)

pub returns-then-repeats_used_up : goal.returns-then-repeats_used_up
returns-then-repeats_used_up c = search repeats-out

pub returns-then-not-wait_ends : goal.returns-then-not-wait_ends
returns-then-not-wait_ends c = search runs_on

pub overflow_add-tests : goal.overflow_add-tests
overflow_add-tests c = record { fits = one-more-fits _ _ c.if-tests-self.true (omega arith) }

pub returns-then-tests-self : goal.returns-then-tests-self
returns-then-tests-self c = search one_more

pub returns : goal.returns
returns c = search tests-out
