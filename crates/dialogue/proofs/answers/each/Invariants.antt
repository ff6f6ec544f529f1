-- What the places passed say is written behind the first.
use Rattle.std.proofs.Common.{take}
use Rattle.text.specs.Written.{Writes}
use Rattle.dialogue.specs.Answers.{saids_of}
use Rattle.dialogue.proofs.answers.each.Given as goal

abbrev pub invariant-loop-next : goal.invariant-loop-next
invariant-loop-next l = Writes l.initial.text l.initial.at (saids_of (take l.next-index l.next-items)) l.text l.at
