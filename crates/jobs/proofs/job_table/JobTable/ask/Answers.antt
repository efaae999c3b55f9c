use Rattle.std.proofs.Common.{◌≡◌, length, vec_items, vec_len, ap, ◌∙◌, length-set}
use Rattle.std.proofs.lemmas.List.{with_items_is}
use Rattle.jobs.specs.Events.{outcome_in, states_of, tasks_of_list, with_event}
use Rattle.jobs.specs.Faults.{state_with}
use Rattle.jobs.proofs.Events.{event_states, event_tasks, is_there}
use Rattle.jobs.proofs.job_table.JobTable.ask.Goals as goal

pub returns-in_default : goal.returns-in_default
returns-in_default c =
    let t = c.args.self.now in
    let i = c.args.task in
    let e = c.args.event in
    let lent = c.deref_mut.ensures.value in
    let by = c.in_default.ensures in
    let same : length c.happen-answer.new.tasks ≡ vec_len t.tasks = ap length by.after ∙ (length-set _ _ _ ∙ c.deref_mut.ensures.len) in
    let items = with_items_is t.tasks c.happen-answer.new.tasks same ∙ (by.after ∙ ap (λ xs. with_event xs i e) lent) in
    let there = is_there (vec_items t.tasks) i e c.in_default.field-0 (by.answer ∙ ap (λ xs. outcome_in xs i e) lent) in
    rw c.in_default.is (record {
      answer = by.answer ∙ ap (λ xs. outcome_in xs i e) lent;
      after = ap (λ xs. state_with (states_of xs) t.faults) items ∙ ap (λ f. state_with f t.faults) (event_states (vec_items t.tasks) i e there);
      tasks = ap tasks_of_list items ∙ event_tasks (vec_items t.tasks) i e;
    })
