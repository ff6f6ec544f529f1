use mathlib.Core.Path.{◌≡◌}
use mathlib.Core.List.{List}
use Prim.Native.Nat.{ℕ}
use Rattle.std.specs.declared.option.Option.{Option}
use Rattle.channel.specs.declared.Due.{Due}
use Rattle.channel.specs.Opened.{due}
use Rattle.open_end.specs.declared.Frame.{Frame}
use Rattle.open_end.specs.declared.OpenEnd.{OpenEnd}
use Rattle.open_end.specs.OpenEnd.{with_channel, frame_on, due_at}
use Rattle.open_end.proofs.OpenEnd.due.Goals as goal

-- what the channel has due, as a frame of the end
hands : (e : OpenEnd) (m : List ℕ) (d : Due) (f : Option Frame) → d ≡ due e.channel m → f ≡ frame_on e.transmit d.payload
    → record { answer = d.answer; frame = f; end = with_channel e d.channel } ≡ due_at e m
unfolding due_at
hands e m d f is framed = rw (framed, is)

pub returns : goal.returns
returns c = search hands
