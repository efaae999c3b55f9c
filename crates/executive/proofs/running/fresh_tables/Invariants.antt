use Rattle.std.proofs.Common.{◌≡◌, map, take, replicate, vec_items}
use Rattle.model.specs.Machine.{untouched}
use Rattle.draft.specs.Drafts.{module_of}
use Rattle.jobs.specs.Tables.{state_of, tasks_in}
use Rattle.executive.proofs.running.fresh_tables.Given as goal

abbrev pub invariant-loop-partition : goal.invariant-loop-partition
invariant-loop-partition l =
    (map tasks_in (vec_items l.tables) ≡ take l.partition (module_of l.draft)) ×
    (map state_of (vec_items l.tables) ≡ replicate l.partition untouched)
