use Prim.Native.Nat.{ℕ}
use mathlib.Core.List.{List}
use mathlib.Core.Path.{◌≡◌, ap, sym, ◌∙◌}
use Rattle.sender.specs.Sending.{handed}
use Rattle.sender.specs.declared.Handing.{Handing}
use Rattle.sender.specs.declared.Handed.{Handed}
use Rattle.channel.specs.declared.Channel.{Channel}
use Rattle.channel.specs.declared.Due.{Due}
use Rattle.channel.specs.Opened.{hand_by, hand_data}
use Rattle.channel.proofs.Channel.hand_data.Goals as goal

-- the sending half's note picks what is handed over
by-note : (c : Channel) (m : List ℕ) (r : Due) (h : Handed) (note : Handing) → h ≡ handed c.parameters.terms c.sender m → h.note ≡ note → r ≡ hand_by c h note → r ≡ hand_data c m
unfolding hand_data
by-note c m r h note e n k = rw (← e) (k ∙ ap (λ (x : Handing). hand_by c h x) (sym n))

pub returns-in-Frame : goal.returns-in-Frame
returns-in-Frame c = search by-note

pub returns-in-Nothing : goal.returns-in-Nothing
returns-in-Nothing c = search by-note

pub returns-in-OtherLength : goal.returns-in-OtherLength
returns-in-OtherLength c = search by-note
