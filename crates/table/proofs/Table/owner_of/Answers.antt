use Rattle.std.proofs.Common.{◌∙◌, rules, tests}
use Rattle.std.proofs.lemmas.Iterator.{YieldsList-from_slice}
use Rattle.std.proofs.lemmas.Iterator.Search.{position_from_yields_List}
use Rattle.connection.specs.Record.{hears}
use Rattle.table.specs.Table.{owner_of}
use Rattle.table.proofs.Found.{lowest-named}
use Rattle.table.proofs.Table.owner_of.Goals as goal

pub returns : goal.returns
unfolding owner_of
returns c =
    position_from_yields_List (λ x. hears x c.args.id) _ _ _ c.position.ensures.ran (YieldsList-from_slice _ c.iter.ensures.rest) (λ x b q k. search (rules, tests))
    ∙ lowest-named (λ x. hears x c.args.id) c.args.self (search rules)
