-- What demand 3 and 02, 14 say of the two lists of calls that meet all that they assume.
use native.Mathlib.Omega.{arith}
use mathlib.Core.List.{List}
use Rattle.delivery.specs.System.{Call, turned, run}
use Rattle.delivery.specs.Claim.{WholeOrNone, AllDone}
use Rattle.delivery.specs.BothWays.{OneWay}
use Rattle.delivery.proofs.Channels.{channels-demand3, channels-both-ways}
use Rattle.delivery.proofs.Example.{start, calls}
use Rattle.delivery.proofs.NotEmpty.{example}
use Rattle.delivery.proofs.TwoWays.{start as two_start, calls as two_calls, both-ways-run}

pub example-demand3 : AllDone 1 (run start calls).forth
example-demand3 = let e = example in (channels-demand3 1024 (omega arith) start e.0 calls e.1).second e.2 e.4 e.5 e.6 e.7

pub example-both-ways : OneWay (run two_start two_calls) × OneWay (turned (run two_start two_calls))
example-both-ways =
    let b = channels-both-ways 1024 (omega arith) two_start both-ways-run.fresh two_calls in
    (b.forth both-ways-run.roomy_forth, b.back both-ways-run.roomy_back)

-- the message that its tests gave up
pub example-given-up : (cs : List Call) → WholeOrNone (run two_start two_calls) cs
example-given-up = example-both-ways.0.given_up both-ways-run.forth_eight both-ways-run.one_not_done
