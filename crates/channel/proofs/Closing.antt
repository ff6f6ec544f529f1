-- What an answer closes.
use mathlib.Core.Bool.{true, false, true≢false}
use mathlib.Core.Path.{◌≡◌, refl, sym, ◌∙◌}
use lib.Dec.{eqb}
use Rattle.laws.proofs.Cases.{or-second}
use Rattle.channel.specs.declared.Answer.{Answer}
use Rattle.channel.specs.declared.Answer.TheVariants.{UsedUp}
use Rattle.channel.specs.declared.Channel.{Channel}
use Rattle.channel.specs.Numbers.{said, closes}

-- an answer other than to a disconnect: only 8 closes, and leaves the channel as it was
pub record Settles (c : Channel) (x : Answer) (ch : Channel) : Type 0 where
  pub stays : (said x).disconnected ≡ false
  pub kept : closes x ≡ true → ch ≡ c

pub gives_up : (c : Channel) → Settles c UsedUp c
gives_up c = record { stays = refl; kept = λ _. refl }

-- every other goes on, with whatever channel
pub goes_on : (c ch : Channel) (x : Answer) → closes x ≡ false → Settles c x ch
goes_on c ch x e = record { stays = or-second (eqb (said x).number 8) (said x).disconnected e; kept = λ y. absurd (true≢false (sym y ∙ e)) }
