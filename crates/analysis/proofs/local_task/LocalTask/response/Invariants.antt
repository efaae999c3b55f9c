use Rattle.std.proofs.Common.{◌≡◌, ◌-◌, ◌≤◌, None}
use Rattle.model.specs.InTime.{Partition}
use Rattle.analysis.specs.Partitions.{seen}
use Rattle.analysis.specs.Responses.{wants_first}
use Rattle.analysis.specs.Stretches.{TooShort}
use Rattle.analysis.proofs.Tried.{TriedPass}
use Rattle.analysis.proofs.local_task.LocalTask.response.Given as goal

abbrev pub invariant-starts : goal.invariant-starts
invariant-starts g l =
    let p : Partition = seen g.O.LocalOrder.order l.self.partition.now in
    record { none_fails : l.failing ≡ None; within : l.longest ≤ l.deadline; pass : TriedPass p (wants_first l.wanted) l.self.number l.longest l.start }

abbrev pub invariant-lengths : goal.invariant-lengths
invariant-lengths g l =
    let p : Partition = seen g.O.LocalOrder.order l.self.partition.now in
    record { none_fails : l.failing ≡ None; within : l.stretch.ticks ≤ l.deadline; short : TooShort p l.self.number l.places.frame l.start l.stretch }

abbrev pub decreases-lengths : goal.decreases-lengths
decreases-lengths g l = l.deadline - l.stretch.ticks
