-- What the maker's order means.
use Rattle.model.specs.Orders.{Order, by_rank}
use Rattle.rank_table.specs.declared.ranks.RankTable.{RankTable}
use Rattle.rank_table.specs.Apart.{rank}

-- the lower rank goes first
abbrev pub ranked : RankTable → Order
ranked table = by_rank (rank table.ranks)
