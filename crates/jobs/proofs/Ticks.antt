-- The tick of an engine that does not look for late jobs, in the partition that owns it.
use Rattle.std.proofs.Common.{◌≡◌, ℕ, ◌<◌, false, cond, List, length, Some, None, Option, sym, refl, ap, ◌∙◌, inl, inr}
use mathlib.Core.Path.{fun_ext}
use Rattle.std.proofs.lemmas.Bool.{cond-true, cond-false, eq-eqb, ne_eqb, cases_eq}
use Rattle.model.specs.declared.job.TaskState.{TaskState}
use Rattle.model.specs.declared.reply.Progress.{Progress}
use Rattle.model.specs.declared.reply.Turn.TheVariants.{Idle, Ran}
use Rattle.model.specs.declared.task.Task.{Task}
use Rattle.model.specs.Machine.{DispatchRule, PartitionState, chosen, runner, is_runner, one_on, worked, late, ticked, progress, turn_reply, put}
use Rattle.model.specs.Modules.{task_of}
use Rattle.model.specs.Promises.{executive}
use Rattle.model.specs.Timetables.{Timetable, bare_frame, owner_at, owned_by}
use Rattle.model.proofs.Firsts.{first_below}
use Rattle.model.proofs.Turns.{put_same, put_other}
use Rattle.jobs.specs.declared.event.Event.TheVariants.{Tick}
use Rattle.jobs.specs.declared.running_task.RunningTask.{RunningTask}
use Rattle.jobs.specs.Events.{changed, states_of, task_at, tasks_of_list}
use Rattle.jobs.proofs.Events.{task_read}

-- task i of the tasks ks when its job has run one tick more
abbrev pub run_on : List Task → (ℕ → TaskState) → ℕ → TaskState
run_on ks xs i = record { last = (xs i).last; job = one_on (task_of ks i).cost (xs i).job }

-- the partition with x for the state of task i
abbrev pub with_state : PartitionState → ℕ → TaskState → PartitionState
with_state h i x = record { tasks = put h.tasks i x; faults = h.faults; lost = h.lost }

pub run_is : (xs : List RunningTask) (i : ℕ) → changed (task_at xs i) Tick ≡ run_on (tasks_of_list xs) (states_of xs) i
run_is xs i = ap (λ (k : Task). record { last = (task_at xs i).state.last; job = one_on k.cost (task_at xs i).state.job }) (sym (task_read xs i))

pub others_same : (h : PartitionState) (i : ℕ) (x : TaskState) (j : ℕ) → is_runner (Some i) j ≡ false → (with_state h i x).tasks j ≡ h.tasks j
unfolding is_runner put
others_same h i x j e = cond-false _ _ _ e

module _ (rule : DispatchRule) (p : ℕ) (ks : List Task) (h : PartitionState) where
  -- the choice does not ask for the timetable
  chosen_any : (t : Timetable) → chosen (executive bare_frame rule) p ks h.tasks ≡ chosen (executive t rule) p ks h.tasks
  unfolding chosen
  chosen_any t = refl

  -- the states of the tasks when the task o runs
  work : Option ℕ → ℕ → TaskState
  work o i = cond (is_runner o i) (run_on ks h.tasks i) (h.tasks i)

  with_tasks : (ℕ → TaskState) → PartitionState
  with_tasks xs = record { tasks = xs; faults = h.faults; lost = h.lost }

  module _ (o : Option ℕ) (c : o ≡ chosen (executive bare_frame rule) p ks h.tasks) where
    ticked_is : (t : Timetable) (u : ℕ) → owner_at t u ≡ Some p → with_tasks (work o) ≡ ticked (executive t rule) p ks u h
    unfolding ticked late worked runner owned_by work with_tasks
    ticked_is t u own =
        let owned : runner (executive t rule) p ks u h.tasks ≡ chosen (executive t rule) p ks h.tasks = ap (λ q. cond (owned_by p q) (chosen (executive t rule) p ks h.tasks) None) own ∙ cond-true _ _ _ (eq-eqb p p refl) in
        ap (λ q. with_tasks (work q)) (c ∙ (chosen_any t ∙ sym owned))

    replies : (t : Timetable) → turn_reply p ks h.tasks o ≡ turn_reply p ks h.tasks (chosen (executive t rule) p ks h.tasks)
    replies t = ap (turn_reply p ks h.tasks) (c ∙ chosen_any t)

  module _ (c : None ≡ chosen (executive bare_frame rule) p ks h.tasks) where
    pub idle_reply : (t : Timetable) → Idle p ≡ turn_reply p ks h.tasks (chosen (executive t rule) p ks h.tasks)
    unfolding turn_reply
    idle_reply t = replies None c t

    pub idle_tick : (t : Timetable) (u : ℕ) → owner_at t u ≡ Some p → h ≡ ticked (executive t rule) p ks u h
    unfolding work with_tasks is_runner
    idle_tick t u own = ticked_is None c t u own

  module _ (i : ℕ) (c : Some i ≡ chosen (executive bare_frame rule) p ks h.tasks) where
    pub chosen_below : i < length ks
    unfolding chosen
    chosen_below = first_below _ _ (length ks) i (sym c)

    pub ran_reply : (f : Progress) → f ≡ progress (run_on ks h.tasks i).job → (t : Timetable) → Ran p i f ≡ turn_reply p ks h.tasks (chosen (executive t rule) p ks h.tasks)
    unfolding turn_reply
    ran_reply f e t = ap (Ran p i) e ∙ replies (Some i) c t

    work_some : work (Some i) ≡ put h.tasks i (run_on ks h.tasks i)
    unfolding work is_runner
    work_some = fun_ext (λ j. elim (cases_eq j i) [
      | inl z ↦ cond-true _ _ _ (eq-eqb j i z) ∙ rw z (sym (put_same h.tasks i (run_on ks h.tasks i)))
      | inr d ↦ cond-false _ _ _ (ne_eqb j i d) ∙ sym (put_other h.tasks i (run_on ks h.tasks i) j d)
    ])

    pub ran_tick : (t : Timetable) (u : ℕ) → owner_at t u ≡ Some p → with_state h i (run_on ks h.tasks i) ≡ ticked (executive t rule) p ks u h
    unfolding with_tasks
    ran_tick t u own = sym (ap with_tasks work_some) ∙ ticked_is (Some i) c t u own
