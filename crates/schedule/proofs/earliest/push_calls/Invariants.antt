use Rattle.std.proofs.Common.{◌≡◌, ◌++◌, drop, vec_items}
use Rattle.draft.specs.Drafts.{module_of}
use Rattle.schedule.specs.Earliest.{module_releases}
use Rattle.schedule.proofs.earliest.push_calls.Given as goal

abbrev pub invariant-loop-partition : goal.invariant-loop-partition
invariant-loop-partition l =
    vec_items l.calls ++ module_releases l.tick l.partition (drop l.partition (module_of l.draft)) ≡ vec_items l.initial.calls ++ module_releases l.tick 0 (module_of l.draft)
