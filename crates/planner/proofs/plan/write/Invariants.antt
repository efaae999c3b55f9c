use Rattle.std.proofs.Common.{◌≡◌, ◌+◌, ◌≤◌, ◌++◌, take, drop, sum}
use Rattle.model.specs.Planning.{end_to_end}
use Rattle.planner.proofs.plan.write.Given as goal

abbrev pub invariant-loop-partition : goal.invariant-loop-partition
invariant-loop-partition l =
    (l.count ≤ l.partition) ×
    (l.start + sum (drop l.partition l.shares) ≡ sum l.shares) ×
    (take l.count l.windows ++ end_to_end l.partition l.start (drop l.partition l.shares) ≡ end_to_end 0 0 l.shares) ×
    (drop l.count l.windows ≡ drop l.count l.initial.windows)
