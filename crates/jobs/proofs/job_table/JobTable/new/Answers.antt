use Rattle.std.proofs.Common.{length, ap, ◌∙◌, arith}
use mathlib.Core.Path.{fun_ext}
use Rattle.std.proofs.lemmas.List.{length-map}
use Rattle.model.proofs.Limits.{limits}
use Rattle.draft.specs.Drafts.{module_of}
use Rattle.draft.proofs.Modules.{draft_within}
use Rattle.jobs.specs.Events.{at_rest, resting, states_of, tasks_of_list}
use Rattle.jobs.specs.Faults.{state_with}
use Rattle.jobs.proofs.Events.{states_resting, tasks_resting}
use Rattle.jobs.proofs.job_table.JobTable.new.Goals as goal

pub invariant_of-result : goal.invariant_of-result
invariant_of-result c =
    let d = c.args.draft.now in
    let few = (limits (module_of d) (draft_within d)).sizes c.args.partition in
    record { few = omega (arith, c.in_ok-tasks.tasks.ok.0, ap length c.in_ok-tasks.ensures, length-map c.tasks.result.now resting, ap length c.tasks.ensures, few) }

pub returns : goal.returns
returns c =
    let ks = c.tasks.result.now in (
      ap tasks_of_list c.in_ok-tasks.ensures ∙ (tasks_resting ks ∙ c.tasks.ensures),
      ap (λ f. state_with f c.in_ok-faults.faults) (ap states_of c.in_ok-tasks.ensures ∙ fun_ext (states_resting ks)) ∙ ap (state_with (λ _. at_rest)) c.in_ok-faults.ensures,
    )
