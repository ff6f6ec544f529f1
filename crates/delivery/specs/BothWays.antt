-- 02, 14, sentence by sentence: both ends send and tests run. What holds after every list of calls, for each direction.
use Rattle.std.specs.Prelude.{◌+◌, ◌≤◌, true, not, ◌≡◌, ◌⊎◌, List, map, length, take}
use Rattle.delivery.specs.End.{End}
use Rattle.delivery.specs.System.{plain, System, Call, turned, step, run}
use Rattle.delivery.specs.System.Side.{far}
use Rattle.delivery.specs.System.Act.{take as takes}
use Rattle.delivery.specs.System.Call.{at}
use Rattle.delivery.specs.Claim.{Fresh, Roomy, WholeOrNone}

-- a message complete at the far end and not handed out: it is the only one, and while that end is open a take shows it now
pub record Untaken {N F : End} (s : System N F) : Type 0 where
  pub one : length s.forth.complete ≡ length s.forth.handed_out + 1
  pub shows : F.open' s.far.state ≡ true → (step s (at far takes)).forth.handed_out ≡ s.forth.complete

-- what holds of the direction from the near end to the far one
pub record OneWay {N F : End} (s : System N F) : Type 0 where
  -- "what is handed out is the first so many accepted, once and whole"; "the bytes and flags 0 arrive" (02, 1)
  pub in_order : s.forth.handed_out ≡ map plain (take (length s.forth.handed_out) s.forth.accepted)
  -- those complete are the first so many accepted too: those handed out, and perhaps one more
  pub complete : s.forth.complete ≡ map plain (take (length s.forth.complete) s.forth.accepted)
  pub next : (s.forth.complete ≡ s.forth.handed_out) ⊎ Untaken s
  -- "done (it has been complete there)"
  pub done : s.forth.done ≤ length s.forth.complete
  -- at most the last message accepted is not done
  pub last : length s.forth.accepted ≤ s.forth.done + 1
  -- "given up": 8 was answered before it was done, for whatever cause; it is handed out whole or no part of it ever is, after every continuation
  pub given_up : s.forth.eight ≡ true → length s.forth.accepted ≡ s.forth.done + 1 → (cs : List Call) → WholeOrNone s cs
  -- the sending end is open exactly as long as it did not answer 8
  pub closed : N.open' s.near.state ≡ not s.forth.eight

-- "for each direction", with a buffer that holds every message accepted in it
pub record BothWays {N F : End} (s : System N F) (cs : List Call) : Type 0 where
  pub forth : Roomy s (run s cs) → OneWay (run s cs)
  pub back : Roomy (turned s) (turned (run s cs)) → OneWay (turned (run s cs))

-- for two such ends: every fresh start, and every list of calls
abbrev pub BothWaysHolds : End → End → Type 0
BothWaysHolds N F = (s : System N F) → Fresh s → (cs : List Call) → BothWays s cs
