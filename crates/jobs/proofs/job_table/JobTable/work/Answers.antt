use Rattle.std.proofs.Common.{◌≡◌, ◌<◌, length, vec_items, vec_len, refl, ap, ◌∙◌, arith, length-set}
use Rattle.std.proofs.lemmas.List.{length-map, with_items_is}
use Rattle.model.specs.declared.job.TaskState.{TaskState}
use Rattle.model.specs.Machine.{PartitionState, progress}
use Rattle.jobs.specs.declared.event.Event.TheVariants.{Tick}
use Rattle.jobs.specs.Events.{changed, states_of, task_at, tasks_of_list, with_event}
use Rattle.jobs.specs.Faults.{state_with}
use Rattle.jobs.specs.Tables.{tasks_in, state_of}
use Rattle.jobs.proofs.Events.{event_states, event_tasks}
use Rattle.jobs.proofs.Ticks.{idle_reply, idle_tick, chosen_below, ran_reply, ran_tick, others_same, run_is, run_on, with_state}
use Rattle.jobs.proofs.job_table.JobTable.work.Goals as goal

pub returns-in_err-task : goal.returns-in_err-task
returns-in_err-task g c =
    let t = c.args.self.now in
    let rule = g.D.Dispatch.rule c.args.dispatch.now in
    let none = rw c.deref.ensures.value at c.in_err-task.ensures in
    rw c.from_residual.ensures (record {
      answer = idle_reply rule c.args.partition (tasks_in t) (state_of t) none;
      after = idle_tick rule c.args.partition (tasks_in t) (state_of t) none;
      tasks = refl;
      only = record { others = λ _ _. refl; faults = refl; lost = refl };
    })

pub run-requires : goal.run-requires
run-requires g c =
    let t = c.args.self.now in
    let rule = g.D.Dispatch.rule c.args.dispatch.now in
    let goes = rw c.deref.ensures.value at c.in_ok-task.ensures in
    omega (arith, chosen_below rule c.args.partition (tasks_in t) (state_of t) c.in_ok-task.task goes, length-map (vec_items t.tasks) (λ x. x.task), ap length c.deref_mut.ensures.value)

pub returns : goal.returns
returns g c =
    let t = c.args.self.now in
    let xs = vec_items t.tasks in
    let i = c.in_ok-task.task in
    let rule = g.D.Dispatch.rule c.args.dispatch.now in
    let p = c.args.partition in
    let goes = rw c.deref.ensures.value at c.in_ok-task.ensures in
    let there : i < length xs = omega (arith, chosen_below rule p (tasks_in t) (state_of t) i goes, length-map xs (λ x. x.task)) in
    let lent = c.deref_mut.ensures.value in
    let same : length c.run.new.tasks ≡ vec_len t.tasks = ap length c.run.ensures.after ∙ (length-set _ _ _ ∙ c.deref_mut.ensures.len) in
    let items = with_items_is t.tasks c.run.new.tasks same ∙ (c.run.ensures.after ∙ ap (λ ys. with_event ys i Tick) lent) in
    let stored = ap (λ ys. state_with (states_of ys) t.faults) items ∙ (ap (λ f. state_with f t.faults) (event_states xs i Tick there) ∙ ap (with_state (state_of t) i) (run_is xs i)) in
    record {
      answer = ran_reply rule p (tasks_in t) (state_of t) i goes c.run.result (c.run.ensures.answer ∙ (ap (λ ys. progress (changed (task_at ys i) Tick).job) lent ∙ ap (λ (x : TaskState). progress x.job) (run_is xs i)));
      after = λ u v own. stored ∙ ran_tick rule p (tasks_in t) (state_of t) i goes u v own;
      tasks = ap tasks_of_list items ∙ event_tasks xs i Tick;
      only = record {
        others = λ j e. ap (λ (h : PartitionState). h.tasks j) stored ∙ others_same (state_of t) i (run_on (tasks_in t) (state_of t).tasks i) j e;
        faults = refl;
        lost = refl;
      };
    }
