-- A partition as the analysis sees it.
use Rattle.model.specs.InTime as seen_as
use Rattle.model.specs.Orders.{Order}
use Rattle.analysis.specs.declared.partition.Partition.{Partition}
use Rattle.analysis.specs.Places.{owning}

-- the partition that it stands for, where its order means what `meaning` says
abbrev pub seen : {O : Type 0} → (O → Order) → Partition O → seen_as.Partition
seen meaning p = owning (meaning p.order.now) p.number p.tasks.now p.places.now
