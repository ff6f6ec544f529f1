use Prim.Native.Nat.{◌<◌}
use mathlib.Core.Bool.{Bool, false, not}
use mathlib.Core.Path.{◌≡◌, sym, ◌∙◌}
use native.Mathlib.Omega.{arith}
use borrow.Author.Tests.{not-false}
use Rattle.telegram.specs.Cutting.{frames_of}
use Rattle.sender.specs.declared.Sender.{Sender}
use Rattle.sender.specs.Sending.{frame_due}
use Rattle.sender.proofs.Frames.{frame_due-shows}
use Rattle.sender.proofs.Sender.hand.Goals as goal

-- a due frame has a number below the message's frames, and these are few
next_fits : (s : Sender) {due : Bool} → due ≡ frame_due s → not due ≡ false → s.length < 65536 → s.next < 65535
unfolding frames_of
next_fits s d is l = let h = frame_due-shows s (sym d ∙ not-false _ is) in omega arith

pub advanced-requires : goal.advanced-requires
advanced-requires c = search next_fits
