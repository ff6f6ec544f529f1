-- What is written where a word is wrong, and where the file cannot be opened.
use Rattle.log_tools.specs.Words.{refused, unopened}
use Rattle.std.proofs.Common.{rules}
use Rattle.log_tools.proofs.words.open_log.Goals as goal

pub returns-in-Some : goal.returns-in-Some
returns-in-Some g c = refused _ _ _ _ c.take_words-options.ensures c.in-Some.is c.refusal_line-at.ensures

pub returns-in-Err : goal.returns-in-Err
returns-in-Err g c =
    unopened _ _ _ _ _ _ (record { words = c.take_words-options.ensures; right = search rules }) c.in-Some-file.is c.unopened_text-at.ensures c.error_text-at.ensures
