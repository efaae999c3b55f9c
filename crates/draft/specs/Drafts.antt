-- Drafts: the module that a draft holds, and what adding to it answers and leaves.
use Rattle.std.specs.Prelude.{◌≡◌, ℕ, ◌≤◌, cond, List, [], ◌∷◌, ◌++◌, map, length, vec_items, vec_len, vec_capacity, nat_lt, slice_index_or, slice_set}
use Rattle.model.specs.declared.task.Task.{Task}
use Rattle.model.specs.Answers.{Answer, granted, refused}
use Rattle.model.specs.Modules.{Module, tasks_of, within_limits}
use Rattle.draft.specs.declared.draft.Partition.{Partition}
use Rattle.draft.specs.declared.draft.Draft.{Draft}

abbrev pub tasks_in : Partition → List Task
tasks_in p = vec_items p.tasks

abbrev pub module_of : Draft → Module
module_of d = map tasks_in (vec_items d.partitions)

-- adding a partition answers its number; 11 for the ninth
abbrev pub partition_answer : Module → Answer ℕ
partition_answer m = cond (nat_lt (length m) 8) (granted (length m)) (refused 11 [])

abbrev pub with_partition : Module → Module
with_partition m = m ++ ([] ∷ [])

-- adding a task to the tasks of a partition answers its number; 13 for the seventeenth, 14 outside the limits
abbrev pub task_answer_in : List Task → Task → Answer ℕ
task_answer_in ks k =
    cond (nat_lt (length ks) 16) (cond (within_limits k) (granted (length ks)) (refused 14 [])) (refused 13 [])

-- the same in partition p of a module; 12 if the module lacks it
abbrev pub task_answer : Module → ℕ → Task → Answer ℕ
task_answer m p k = cond (nat_lt p (length m)) (task_answer_in (tasks_of m p) k) (refused 12 [])

abbrev pub with_task : Module → ℕ → Task → Module
with_task m p k = slice_set m p (tasks_of m p ++ (k ∷ []))

-- Memory is wanting only where a table has to grow. The partition's table of tasks has no place left:
abbrev pub Full : Partition → Type 0
Full p = vec_capacity p.tasks ≤ vec_len p.tasks

-- the draft's table of partitions has no place left
abbrev pub NoRoom : Draft → Type 0
NoRoom d = vec_capacity d.partitions ≤ vec_len d.partitions

-- the table of tasks of partition p has no place left
abbrev pub NoRoomIn : Draft → ℕ → Type 0
NoRoomIn d p = (x : Partition) → x ≡ slice_index_or (vec_items d.partitions) p x → Full x
