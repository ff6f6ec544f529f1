-- No bytes, or some.
use Rattle.std.proofs.Common.{◌≡◌, length, arith}
use Rattle.text.proofs.Written.{worded, joined3}
use Rattle.dialogue.proofs.Sentences.{some-contents, no-contents}
use Rattle.dialogue.proofs.answers.contents.Goals as goal

pub returns-in-empty : goal.returns-in-empty
returns-in-empty c =
    let h : length c.args.bytes.now ≡ 0 = omega arith in
    let e = no-contents c.args.bytes.now h in
    search (worded, e)

pub returns-in-len1-up : goal.returns-in-len1-up
returns-in-len1-up c = joined3 _ _ _ _ _ _ _ _ _ _ _ _ c.pair-at.ensures c.pairs-at.ensures c.byte-in-len1-up.ensures (some-contents _ (λ z. omega arith))
