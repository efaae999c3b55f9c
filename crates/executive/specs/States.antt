-- What a sealed module and a running one stand for.
use Rattle.std.specs.Prelude.{ℕ, Bool, true, false, List, map, vec_items, slice_index_or}
use Rattle.model.specs.declared.verdict.Verdict.{Verdict}
use Rattle.model.specs.declared.verdict.Verdict.TheVariants.{Cleared, Foreign, Late}
use Rattle.model.specs.Machine.{DispatchRule, Engine, MachineState, PartitionState, untouched}
use Rattle.model.specs.Modules.{Module}
use Rattle.model.specs.Promises.{executive}
use Rattle.model.specs.Timetables.{Timetable}
use Rattle.draft.specs.Drafts.{module_of}
use Rattle.analysis.specs.Findings.{told_by}
use Rattle.jobs.specs.declared.job_table.JobTable.{JobTable}
use Rattle.jobs.specs.Tables.{state_of}
use Rattle.executive.specs.declared.sealed.Sealed.{Sealed}
use Rattle.executive.specs.declared.running.Running.{Running}

-- whether a verdict clears
abbrev pub clears : Verdict → Bool
clears Cleared = true
clears (Foreign x) = false
clears (Late k) = false

-- the states of the partitions that have these tables
abbrev pub partitions_of : List JobTable → ℕ → PartitionState
partitions_of ts p = slice_index_or (map state_of ts) p untouched

module _ {T D : Type 0} where
  abbrev pub sealed_module : Sealed T D → Module
  sealed_module s = module_of s.draft

  -- the verdict that a sealed module tells
  abbrev pub told_verdict : Sealed T D → Verdict
  told_verdict s = told_by s.findings

  -- the machine's state
  abbrev pub state_in : Running T D → MachineState
  state_in r = record { now = r.clock; partitions = partitions_of (vec_items r.tables) }

-- the engine of a sealed module, by what timetable and dispatch rule mean: its ticks never look for late jobs
abbrev pub engine_of : {T D : Type 0} → (T → Timetable) → (D → DispatchRule) → Sealed T D → Engine
engine_of means rule s = executive (means s.table) (rule s.dispatch)
