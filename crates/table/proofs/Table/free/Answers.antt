use Rattle.std.proofs.Common.{◌∙◌, rules, tests}
use Rattle.std.proofs.lemmas.Iterator.{YieldsList-from_slice}
use Rattle.std.proofs.lemmas.Iterator.Search.{position_from_yields_List}
use Rattle.connection.specs.Record.{is_closed}
use Rattle.table.specs.Table.{free_of}
use Rattle.table.proofs.Found.{lowest-named}
use Rattle.table.proofs.Table.free.Goals as goal

pub returns : goal.returns
unfolding free_of
returns c =
    position_from_yields_List is_closed _ _ _ c.position.ensures.ran (YieldsList-from_slice _ c.iter.ensures.rest) (λ x b q k. search (rules, tests))
    ∙ lowest-named is_closed c.args.self (search rules)
