-- Modules: partitions with their tasks, and the limits that both keep.
use Rattle.std.specs.Prelude.{ℕ, ◌<◌, Bool, true, cond, ◌&&◌, List, [], ◌∷◌, length, Some, None, Option, nat_le, nat_lt, slice_index_or}
use Rattle.model.specs.declared.task.Task.{Task}

-- a task by its cost, period and deadline
abbrev pub task : ℕ → ℕ → ℕ → Task
task c t d = record { cost = c; period = t; deadline = d }

-- 1 ≤ cost ≤ deadline ≤ period ≤ 4096
abbrev pub within_limits : Task → Bool
within_limits k = nat_le 1 k.cost && (nat_le k.cost k.deadline && (nat_le k.deadline k.period && nat_le k.period 4096))

-- the task of these numbers, if they are within the limits
abbrev pub task_within : ℕ → ℕ → ℕ → Option Task
task_within c t d = cond (within_limits (task c t d)) (Some (task c t d)) None

-- A module: the tasks of each partition. Partitions and tasks are numbered from 0, in the order of adding.
abbrev pub Module : Type 0
Module = List (List Task)

-- the tasks of partition p; none if the module lacks it
abbrev pub tasks_of : Module → ℕ → List Task
tasks_of m p = slice_index_or m p []

-- every task is within the limits
abbrev pub all_within : List Task → Bool
all_within [] = true
all_within (k ∷ ks) = within_limits k && all_within ks

-- a partition that keeps the limits: at most 16 tasks, each within the limits
abbrev pub partition_within : List Task → Bool
partition_within ks = nat_le (length ks) 16 && all_within ks

-- every partition keeps the limits
abbrev pub partitions_within : Module → Bool
partitions_within [] = true
partitions_within (ks ∷ m) = partition_within ks && partitions_within m

-- a module that keeps the limits: at most 8 partitions
abbrev pub module_within : Module → Bool
module_within m = nat_le (length m) 8 && partitions_within m

-- task i of a list
unfoldable pub task_of : List Task → ℕ → Task
task_of ks i = slice_index_or ks i (task 0 0 0)

-- task i of partition p
abbrev pub task_in : Module → ℕ → ℕ → Task
task_in m p i = task_of (tasks_of m p) i

-- partition p has a task i
abbrev pub HasTask : Module → ℕ → ℕ → Type 0
HasTask m p i = i < length (tasks_of m p)

-- the module has partition p
abbrev pub has_partition : Module → ℕ → Bool
has_partition m p = nat_lt p (length m)
