-- What a table of ranks means.
use Rattle.std.specs.Prelude.{ℕ, cond, List, Some, None, Option}
use Rattle.rank_table.specs.Apart.{all_apart}
use Rattle.rank_table.specs.declared.ranks.RankTable.{RankTable}

-- the ranks of what is made, if it is made
abbrev pub made : Option RankTable → Option (List (List ℕ))
made (Some t) = Some t.ranks
made None = None

-- a table is made exactly if no two tasks of a partition have the same rank
abbrev pub allowed_ranks : List (List ℕ) → Option (List (List ℕ))
allowed_ranks ranks = cond (all_apart ranks) (Some ranks) None
