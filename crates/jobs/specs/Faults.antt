-- Fault entries: what a fault log holds, and the state of the partition that has it.
use Rattle.std.specs.Prelude.{ℕ, List, []}
use Rattle.model.specs.declared.job.TaskState.{TaskState}
use Rattle.model.specs.declared.refusal.Fault.{Fault}
use Rattle.model.specs.Machine.{PartitionState}

-- The fault entries, oldest first, and how many more were lost.
pub record NotedFaults : Type 0 where
  pub entries : List Fault
  pub lost : ℕ

abbrev pub no_faults : NotedFaults
no_faults = record { entries = []; lost = 0 }

-- the state of the partition with these states of its tasks and these faults
abbrev pub state_with : (ℕ → TaskState) → NotedFaults → PartitionState
state_with xs l = record { tasks = xs; faults = l.entries; lost = l.lost }
