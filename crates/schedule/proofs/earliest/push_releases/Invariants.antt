use Rattle.std.proofs.Common.{◌≡◌, ◌++◌, drop, vec_items}
use Rattle.schedule.specs.Earliest.{partition_releases}
use Rattle.schedule.proofs.earliest.push_releases.Given as goal

abbrev pub invariant-loop-number : goal.invariant-loop-number
invariant-loop-number l =
    vec_items l.calls ++ partition_releases l.tick l.partition l.number (drop l.number l.tasks) ≡ vec_items l.initial.calls ++ partition_releases l.tick l.partition 0 l.tasks
