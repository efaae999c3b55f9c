use Rattle.std.proofs.Common.{◌∙◌, rules, tests}
use Rattle.std.proofs.lemmas.Iterator.{YieldsList-from_slice}
use Rattle.std.proofs.lemmas.Iterator.Search.{all_from_yields_List}
use Rattle.rank_table.specs.Apart.{apart}
use Rattle.rank_table.proofs.Lists.{all_rows}
use Rattle.rank_table.proofs.ranks.are_all_apart.Goals as goal

pub returns : goal.returns
returns c = all_from_yields_List apart _ _ _ c.all.ensures.ran (YieldsList-from_slice c.args.ranks.now cc) (λ x b q k. search (rules, tests)) ∙ all_rows c.args.ranks.now c.told-ranks
