-- What can happen to a task, and what it does to the task's state.
use Rattle.std.specs.Prelude.{ℕ, cond, List, is_some, None, Ok, Err, Result, length, map, nat_le, nat_lt, slice_index_or, slice_set}
use Rattle.model.specs.declared.job.TaskState.{TaskState}
use Rattle.model.specs.declared.refusal.Refusal.{Refusal}
use Rattle.model.specs.declared.task.Task.{Task}
use Rattle.model.specs.declared.refusal.Refusal.TheVariants.{NoSuchTask, TooSoon, NoOpenJob}
use Rattle.model.specs.Machine.{ready, ran_of, released, closed, one_on}
use Rattle.model.specs.Modules.{task}
use Rattle.jobs.specs.declared.event.Event.{Event}
use Rattle.jobs.specs.declared.event.Event.TheVariants.{Release, End, Tick}
use Rattle.jobs.specs.declared.running_task.RunningTask.{RunningTask}

-- a task that was never released
abbrev pub at_rest : TaskState
at_rest = record { last = None; job = None }

-- the task, never released
abbrev pub resting : Task → RunningTask
resting k = record { task = k; state = at_rest }

-- task i of a list; past its end, a task with no numbers, at rest
abbrev pub task_at : List RunningTask → ℕ → RunningTask
task_at xs i = slice_index_or xs i (resting (task 0 0 0))

-- the tasks that a list holds
abbrev pub tasks_of_list : List RunningTask → List Task
tasks_of_list xs = map (λ x. x.task) xs

-- the states of the tasks that a list holds; past its end, at rest
abbrev pub states_of : List RunningTask → ℕ → TaskState
states_of xs i = (task_at xs i).state

-- what the event answers, or why it is refused
abbrev pub outcome : RunningTask → Event → Result ℕ Refusal
outcome x (Release now) = cond (nat_le (ready x.task.period x.state.last) now) (Ok x.task.deadline) (Err TooSoon)
outcome x End = cond (is_some x.state.job) (Ok (ran_of x.state.job)) (Err NoOpenJob)
outcome x Tick = Ok (ran_of x.state.job)

-- the same of task i; a task that is not there is refused
abbrev pub outcome_in : List RunningTask → ℕ → Event → Result ℕ Refusal
outcome_in xs i e = cond (nat_lt i (length xs)) (outcome (task_at xs i) e) (Err NoSuchTask)

-- the state of the task after the event, if it is not refused
abbrev pub changed : RunningTask → Event → TaskState
changed x (Release now) = released now
changed x End = closed x.state
changed x Tick = record { last = x.state.last; job = one_on x.task.cost x.state.job }

-- the tasks after the event at task i, if it is not refused
abbrev pub with_event : List RunningTask → ℕ → Event → List RunningTask
with_event xs i e = slice_set xs i (record { task = (task_at xs i).task; state = changed (task_at xs i) e })
