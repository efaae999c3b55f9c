-- The places of a frame that one partition owns.
use Rattle.std.specs.Prelude.{ℕ, ◌%◌, Bool, false, cond, ◌&&◌, List, Some, None, Option, nat_le, slice_index_or}
use Rattle.model.specs.declared.task.Task.{Task}
use Rattle.model.specs.InTime.{Partition, partition_of}
use Rattle.model.specs.Orders.{Order}
use Rattle.model.specs.Planning.{first_places}
use Rattle.analysis.specs.declared.places.Places.{Places}

-- whether the partition owns the tick u
abbrev pub ticks_of : Places → ℕ → Bool
ticks_of places u = slice_index_or places.owned (u % places.frame) false

-- partition p with the tasks ks under an order, when it owns these places
abbrev pub owning : Order → ℕ → List Task → Places → Partition
owning order p ks places = partition_of order p ks (ticks_of places)

-- the ticks at places 0 to q - 1 of a frame of f places; none unless f is 1 to 1024
abbrev pub first_ticks : ℕ → ℕ → Option (ℕ → Bool)
first_ticks f q = cond (nat_le 1 f && nat_le f 1024) (Some (first_places f q)) None
