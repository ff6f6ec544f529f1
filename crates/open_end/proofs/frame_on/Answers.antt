use borrow.Author.Rules.{rules}
use mathlib.Core.Path.{◌≡◌, ap}
use Prim.Native.Nat.{ℕ}
use Rattle.std.specs.Prelude.{MatchOption, IsSomeAnd}
use Rattle.std.specs.declared.option.Option.{Option}
use Rattle.std.specs.declared.option.Option.TheVariants.{None, Some}
use Rattle.telegram.specs.declared.payload.Payload.{Payload}
use Rattle.open_end.specs.declared.Frame.{Frame}
use Rattle.open_end.specs.OpenEnd.{frame_on}
use Rattle.open_end.proofs.frame_on.Goals as goal

-- a frame where there is a telegram, and none where there is none
frames : {Made : Payload → Frame → Type 0} (id : ℕ) (o : Option Payload) (r : Option Frame) → ((p : Payload) (f : Frame) → Made p f → f ≡ record { id = id; payload = p })
    → MatchOption o (r ≡ None) (λ p. IsSomeAnd r (Made p)) → r ≡ frame_on id o
unfolding frame_on
frames id None r made e = e
frames id (Some p) None made e = absurd e
frames id (Some p) (Some f) made e = ap Some (made p f e)

pub returns : goal.returns
returns c = frames c.args.id c.args.payload c.map.result (λ p f l. search rules) c.map.ensures.cases
