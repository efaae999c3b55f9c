use Rattle.std.proofs.Common.{◌≡◌, ◌+◌, ◌*◌, ◌≤◌}
use Rattle.analysis.proofs.Demands.{summed}
use Rattle.analysis.proofs.local_task.LocalTask.demand.Given as goal

abbrev pub invariant-loop-j : goal.invariant-loop-j
invariant-loop-j g l =
    (l.sum ≡ summed (g.O.LocalOrder.order l.partition.order.now) l.partition.number l.partition.tasks.now l.self.number l.ticks l.j) × (l.sum ≤ 4096 + l.j * 268431360)
