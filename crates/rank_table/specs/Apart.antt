-- Tables of ranks in which no two tasks of a partition have the same rank.
use Rattle.std.specs.Prelude.{ℕ, Bool, cond, not, ◌&&◌, List, [], ◌==◌, nat_lt, slice_index, slice_index_or}
use Rattle.model.specs.Ranges.{all_below}

-- rank i differs from the first n ranks
abbrev pub apart_below : List ℕ → ℕ → ℕ → Bool
apart_below ranks i n = all_below (λ j. not (slice_index ranks i == slice_index ranks j)) n

-- each of 16 ranks differs from those before it
abbrev pub apart : List ℕ → Bool
apart ranks = all_below (λ i. apart_below ranks i i) 16

-- so it is in each of 8 partitions
abbrev pub all_apart : List (List ℕ) → Bool
all_apart ranks = all_below (λ p. apart (slice_index_or ranks p [])) 8

-- the rank of task i of partition p; 0 where there is no such partition or task
abbrev pub rank : List (List ℕ) → ℕ → ℕ → ℕ
rank ranks p i = cond (nat_lt p 8 && nat_lt i 16) (slice_index (slice_index_or ranks p []) i) 0
