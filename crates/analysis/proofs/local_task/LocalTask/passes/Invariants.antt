use Rattle.std.proofs.Common.{◌-◌, ◌≤◌}
use Rattle.analysis.specs.Partitions.{seen}
use Rattle.analysis.specs.Stretches.{TooShort}
use Rattle.analysis.proofs.local_task.LocalTask.passes.Given as goal

abbrev pub invariant-loop-stretch : goal.invariant-loop-stretch
invariant-loop-stretch g l =
    (l.stretch.ticks ≤ l.deadline) ×
    TooShort (seen g.O.LocalOrder.order l.self.partition.now) l.self.number l.self.partition.now.places.now.frame l.start l.stretch

abbrev pub decreases-loop-stretch : goal.decreases-loop-stretch
decreases-loop-stretch g l = l.deadline - l.stretch.ticks
