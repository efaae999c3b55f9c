use Rattle.std.proofs.Common.{◌≡◌, not}
use Rattle.model.specs.InTime.{Partition, in_time}
use Rattle.model.specs.Ranges.{first_such}
use Rattle.analysis.specs.Partitions.{seen}
use Rattle.analysis.proofs.partition.Partition.first_late.Given as goal

abbrev pub invariant-loop-number : goal.invariant-loop-number
invariant-loop-number g l =
    let p : Partition = seen g.O.LocalOrder.order l.self in
    l.first ≡ first_such p.before (λ i. not (in_time p l.self.places.now.frame i)) l.number
