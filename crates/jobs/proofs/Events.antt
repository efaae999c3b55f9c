-- What an event leaves of the tasks that a list holds, and of their states.
use Rattle.std.proofs.Common.{◌≡◌, ℕ, zero, suc, ◌<◌, List, [], ◌∷◌, length, map, set, Ok, Err, sym, refl, ap, ◌∙◌, inl, inr}
use mathlib.Core.Path.{fun_ext}
use Rattle.std.proofs.lemmas.List.{get_or-set_same, get_or-set_other}
use Rattle.std.proofs.lemmas.Bool.{cases_eq, cases_lt, cond-false, le-ltb}
use Rattle.model.specs.declared.job.TaskState.{TaskState}
use Rattle.model.specs.declared.refusal.Refusal.TheVariants.{NoSuchTask}
use Rattle.model.specs.declared.task.Task.{Task}
use Rattle.model.specs.Machine.{put}
use Rattle.model.specs.Modules.{task, task_of}
use Rattle.model.proofs.Turns.{put_same, put_other}
use Rattle.jobs.specs.declared.event.Event.{Event}
use Rattle.jobs.specs.declared.running_task.RunningTask.{RunningTask}
use Rattle.jobs.specs.Events.{at_rest, changed, outcome_in, resting, states_of, task_at, tasks_of_list, with_event}

-- the numbers of task i
pub task_read : (xs : List RunningTask) (i : ℕ) → task_of (tasks_of_list xs) i ≡ (task_at xs i).task
unfolding task_of
task_read [] i = refl
task_read (x ∷ xs) zero = refl
task_read (x ∷ xs) (suc i) = task_read xs i

-- a state that is stored leaves the tasks
pub tasks_kept : (x : TaskState) (xs : List RunningTask) (i : ℕ) → tasks_of_list (set xs i (record { task = (task_at xs i).task; state = x })) ≡ tasks_of_list xs
tasks_kept x [] i = refl
tasks_kept x (y ∷ ys) zero = refl
tasks_kept x (y ∷ ys) (suc i) = ap (λ ks. y.task ∷ ks) (tasks_kept x ys i)

pub states_set : (xs : List RunningTask) (i : ℕ) (y : RunningTask) → i < length xs → states_of (set xs i y) ≡ put (states_of xs) i y.state
states_set xs i y l = fun_ext (λ j. elim (cases_eq j i) [
  | inl z ↦ rw z (ap (λ (w : RunningTask). w.state) (get_or-set_same xs i y (resting (task 0 0 0)) l) ∙ sym (put_same (states_of xs) i y.state))
  | inr d ↦ ap (λ (w : RunningTask). w.state) (get_or-set_other xs i j y (resting (task 0 0 0)) d) ∙ sym (put_other (states_of xs) i y.state j d)
])

-- a task that an event is not refused to is there
pub is_there : (xs : List RunningTask) (i : ℕ) (e : Event) (k : ℕ) → Ok k ≡ outcome_in xs i e → i < length xs
is_there xs i e k is = elim (cases_lt i (length xs)) [
  | inl l ↦ l
  | inr l ↦
      let past : outcome_in xs i e ≡ Err NoSuchTask = cond-false _ _ _ (le-ltb i (length xs) l) in
      let no : Ok k ≡ Err NoSuchTask = is ∙ past in cc
]

module _ (xs : List RunningTask) (i : ℕ) (e : Event) where
  pub event_tasks : tasks_of_list (with_event xs i e) ≡ tasks_of_list xs
  event_tasks = tasks_kept (changed (task_at xs i) e) xs i

  pub event_states : i < length xs → states_of (with_event xs i e) ≡ put (states_of xs) i (changed (task_at xs i) e)
  event_states l = states_set xs i _ l

-- Tasks that were never released.
pub tasks_resting : (ks : List Task) → tasks_of_list (map resting ks) ≡ ks
tasks_resting [] = refl
tasks_resting (k ∷ ks) = ap (λ ls. k ∷ ls) (tasks_resting ks)

pub states_resting : (ks : List Task) (i : ℕ) → states_of (map resting ks) i ≡ at_rest
states_resting [] i = refl
states_resting (k ∷ ks) zero = refl
states_resting (k ∷ ks) (suc i) = states_resting ks i
