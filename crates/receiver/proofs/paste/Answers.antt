use Rattle.std.proofs.Common.{◌≡◌, ℕ, ◌+◌, ◌-◌, List, length, arith}
use Rattle.std.proofs.lemmas.List.{drop-drop}
use borrow.Rule.Slice.PartMut.{put_mid}
use Rattle.receiver.specs.Receiving.{pasted}
use Rattle.receiver.proofs.paste.Goals as goal

-- the part that was lent to the copy, put back
put_back : (b p part : List ℕ) (at : ℕ) → part ≡ p → put_mid at (at + length p - at) b part ≡ pasted b at p
put_back b p part at e = let n : at + length p - at ≡ length p = omega arith in rw (e, n, drop-drop)

pub returns : goal.returns
returns c = put_back _ _ _ _ c.copy_from_slice.ensures.after
