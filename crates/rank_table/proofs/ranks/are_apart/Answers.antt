use Rattle.std.proofs.Common.{rules, tests, ◌∙◌}
use Rattle.std.proofs.lemmas.Iterator.{YieldsList-from_slice}
use Rattle.std.proofs.lemmas.Iterator.Consumers.{YieldsList-from_enumerate}
use Rattle.std.proofs.lemmas.Iterator.Search.{all_from_yields_List}
use Rattle.rank_table.proofs.Lists.{all_new, is_new}
use Rattle.rank_table.proofs.ranks.are_apart.Goals as goal

pub returns : goal.returns
returns c =
    let ranks = c.args.ranks.now in
    let road = YieldsList-from_enumerate (YieldsList-from_slice ranks cc) (cc) in
    all_from_yields_List (is_new ranks) _ _ _ c.all.ensures.ran road (λ x b q k. search (rules, tests)) ∙ all_new ranks c.told-ranks
