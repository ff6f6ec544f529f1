use Prim.Native.Nat.{ℕ}
use mathlib.Core.Path.{◌≡◌}
use mathlib.Core.List.{List}
use lib.ListN.{drop}
use Rattle.telegram.specs.Cutting.{longest}
use Rattle.telegram.specs.declared.kinds.Telegram.{Telegram}
use Rattle.channel.specs.declared.Answered.{Answered}
use Rattle.arrival.specs.Arrived.{arrived, buffered_by}
use Rattle.open_end.specs.declared.OpenEnd.{OpenEnd}
use Rattle.open_end.specs.OpenEnd.{with_channel, arrived_at, buffered_at}
use Rattle.open_end.proofs.OpenEnd.arrive.Goals as goal

-- of a telegram and the bytes behind its first
module _ (e : OpenEnd) (t : Telegram) (s : List ℕ) (p : List ℕ) (behind : p ≡ drop 1 s) where
  arrives : (room : ℕ) (r : Answered) → r ≡ arrived longest e.channel t p room → record { answer = r.answer; end = with_channel e r.channel } ≡ arrived_at longest e t s room
  unfolding arrived_at
  arrives room r is = rw (is, behind)

  buffers : (b b' : List ℕ) → b' ≡ buffered_by longest e.channel t p b → b' ≡ buffered_at longest e t s b
  unfolding buffered_at
  buffers b b' is = rw (is, behind)

pub returns : goal.returns
returns c = record { value = search arrives; buffer_after = search buffers }
