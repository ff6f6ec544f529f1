-- The line is what was read of it.
use Rattle.std.proofs.Common.{rules, take}
use Rattle.dialogue.proofs.driven.Console.turn.Goals as goal

pub returns : goal.returns
returns g c =
    let read = c.read_line-line in
    record {
      line = take read.result.fill read.new.line;
      ended = read.result.ended;
      text = read.new.line;
      ran = search rules;
    }
