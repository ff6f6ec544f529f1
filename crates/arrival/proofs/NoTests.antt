-- "0 means no tests": no arrival makes one go out or due.
use Prim.Native.Nat.{ℕ}
use mathlib.Core.Bool.{true≢false}
use mathlib.Core.List.{List}
use mathlib.Core.Path.{◌≡◌, refl, sym, ◌∙◌}
use Rattle.telegram.specs.declared.kinds.Telegram.{Telegram}
use Rattle.sender.specs.declared.Heard.{Heard}
use Rattle.receiver.specs.declared.Received.{Received}
use Rattle.channel.specs.declared.Channel.{Channel}
use Rattle.channel.specs.declared.Answered.{Answered}
use Rattle.channel.proofs.NoTests.{NoTests}
use Rattle.arrival.specs.Arrived.{arrived}
use Rattle.arrival.proofs.Arriving.{ArrivalOutcome, data-came, ack-came, test-came, break-came, disconnect-came, setup-came, accept-undue, accept-bad, accept-came, malformed-came, arrival-outcome}

-- whatever arrives: none is out or due again, and no test's wait runs
pub arrived-untested : (limit : ℕ) (c : Channel) (t : Telegram) (p : List ℕ) (room : ℕ) → NoTests c → NoTests (arrived limit c t p room).channel
arrived-untested limit c t p room h = go (arrival-outcome limit c p room t)
  where
    kept : (ch : Channel) → ch.parameters ≡ c.parameters → ch.tests.out ≡ c.tests.out → ch.tests.again ≡ c.tests.again
        → ch.tests.wait ≡ c.tests.wait → NoTests ch
    kept ch p o a w = record { off = rw p h.off; none = o ∙ h.none; undue = a ∙ h.undue; still = w ∙ h.still }

    go : {r : Received} {g : Heard} {t : Telegram} {x : Answered} → ArrivalOutcome c r g t x → NoTests x.channel
    go data-came = kept _ refl refl refl refl
    go ack-came = kept _ refl refl refl refl
    go test-came = kept _ refl refl refl refl
    go break-came = kept _ refl refl refl refl
    go disconnect-came = kept _ refl refl refl refl
    go setup-came = kept _ refl refl refl refl
    go (accept-undue o) = kept _ refl refl refl refl
    go (accept-bad o b) = kept _ refl refl refl refl
    go (accept-came o b) = absurd (true≢false (sym o ∙ h.none))
    go malformed-came = kept _ refl refl refl refl
