-- Job tables: the state of the partition that a table stands for, and what the machine answers and leaves in that state.
use Rattle.std.specs.Prelude.{◌≡◌, ℕ, false, List, Some, None, vec_items, Option, Result, MatchResult}
use Rattle.std.specs.Option.{option_map}
use Rattle.std.specs.Result.{result_map_both}
use Rattle.model.specs.declared.call.Request.{Request}
use Rattle.model.specs.declared.refusal.Refusal.{Refusal}
use Rattle.model.specs.declared.reply.Progress.{Progress}
use Rattle.model.specs.declared.reply.Reply.{Reply}
use Rattle.model.specs.declared.reply.Turn.{Turn}
use Rattle.model.specs.declared.reply.Turn.TheVariants.{Idle, Ran}
use Rattle.model.specs.declared.task.Task.{Task}
use Rattle.model.specs.Machine.{PartitionState, told, refusal, answered, asked, is_runner, noted, put}
use Rattle.jobs.specs.declared.event.Event.{Event}
use Rattle.jobs.specs.declared.job_table.JobTable.{JobTable}
use Rattle.jobs.specs.Events.{changed, states_of, task_at, tasks_of_list}
use Rattle.jobs.specs.Faults.{state_with}

abbrev pub tasks_in : JobTable → List Task
tasks_in t = tasks_of_list (vec_items t.tasks)

-- the state of the partition
abbrev pub state_of : JobTable → PartitionState
state_of t = state_with (states_of (vec_items t.tasks)) t.faults

-- the state of the partition after the event at task i, if it is not refused
abbrev pub state_by : JobTable → ℕ → Event → PartitionState
state_by t i e = state_with (put (states_of (vec_items t.tasks)) i (changed (task_at (vec_items t.tasks) i) e)) t.faults

-- what an event at task i leaves of the partition at the tick `now`, where its answer is r: if it is refused, that is noted
abbrev pub Leaves : JobTable → ℕ → ℕ → Event → Result ℕ Refusal → JobTable → Type 0
Leaves old now i e r new =
    MatchResult r
    (λ _. state_of new ≡ state_by old i e)
    (λ n. state_of new ≡ noted (state_of old) (record { refusal = n; task = i; tick = now }))

-- what the machine answers to a request at the tick `now`, in the table's state
abbrev pub answer_to : JobTable → ℕ → Request → Result Reply Refusal
answer_to t now a = told (refusal (tasks_in t) now (state_of t) a) (answered (tasks_in t) now (state_of t) a)

-- the state of the partition after the request
abbrev pub state_after : JobTable → ℕ → Request → PartitionState
state_after t now a = asked now (state_of t) a (refusal (tasks_in t) now (state_of t) a)

-- A request at the tick `now` has the machine's answer r, and leaves the machine's state. The tasks stay as they are.
pub record Answered (old new : JobTable) (now : ℕ) (a : Request) (r : Result Reply Refusal) : Type 0 where
  pub answer : r ≡ answer_to old now a
  pub state : state_of new ≡ state_after old now a
  pub tasks : tasks_in new ≡ tasks_in old

-- a table's answer as the machine's: the reply that is made of its value, or the same refusal
abbrev pub reply_of : {A : Type 0} → (A → Reply) → Result A Refusal → Result Reply Refusal
reply_of reply answer = result_map_both reply (λ n. n) answer

-- what ran in a tick of partition p, as its turn
abbrev pub tick_reply_of : ℕ → Option (ℕ × Progress) → Turn
tick_reply_of p None = Idle p
tick_reply_of p (Some ran) = Ran p ran.0 ran.1

-- Of two tables, the second has no other record than the first but that of the task that ran: the states of the other
-- tasks, the fault entries and the lost count are the same.
pub record OnlyRunnerWritten (old new : JobTable) (ran : Option (ℕ × Progress)) : Type 0 where
  pub others : (i : ℕ) → is_runner (option_map (λ x. x.0) ran) i ≡ false → (state_of new).tasks i ≡ (state_of old).tasks i
  pub faults : (state_of new).faults ≡ (state_of old).faults
  pub lost : (state_of new).lost ≡ (state_of old).lost
