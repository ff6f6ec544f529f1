use Rattle.std.proofs.Common.{◌∙◌, rules, tests}
use Rattle.std.proofs.lemmas.Iterator.{YieldsList-from_slice}
use Rattle.std.proofs.lemmas.Iterator.Search.{any_from_yields_List}
use Rattle.table.specs.Table.{uses_either, is_used}
use Rattle.table.proofs.Found.{lowest-used}
use Rattle.table.proofs.Table.is_used.Goals as goal

pub returns : goal.returns
unfolding is_used
returns c =
    any_from_yields_List (uses_either c.args.unit c.args.receive) _ _ _ c.any.ensures.ran (YieldsList-from_slice _ c.iter.ensures.rest) (λ x b q k. search (rules, tests))
    ∙ lowest-used (uses_either c.args.unit c.args.receive) c.args.self (search rules)
