use mathlib.Core.Path.{◌≡◌}
use Rattle.laws.proofs.Branches.{branches}
use Rattle.channel.specs.declared.Channel.{Channel}
use Rattle.channel.specs.declared.Answer.{Answer}
use Rattle.channel.specs.declared.Answered.{Answered}
use Rattle.channel.specs.declared.Said.{Said}
use Rattle.channel.specs.Numbers.{said}
use Rattle.channel.specs.Opened.{restarted}
use Rattle.arrival.specs.Arrived.{answered}
use Rattle.arrival.proofs.answered.Goals as goal

-- the number that is said picks what is left
module _ (a : Answer) (c : Channel) {s : Said} (e : s ≡ said a) where
  good : {x : Channel} → s.number ≡ 0 → x ≡ restarted c → ◌≡◌ {A = Answered} (record { answer = a; channel = x }) (answered a c)
  unfolding answered
  good z x = rw (x, ← e) (search branches)

  not_good : (s.number ≡ 0 → ⊥) → ◌≡◌ {A = Answered} (record { answer = a; channel = c }) (answered a c)
  unfolding answered
  not_good n = rw (← e) (search branches)

pub returns-then-say-eq0 : goal.returns-then-say-eq0
returns-then-say-eq0 c = search good

pub returns : goal.returns
returns c = search not_good
