use Rattle.std.proofs.Common.{is_ok, vec_items, sym, ap, ◌∙◌, arith}
use Rattle.model.specs.Modules.{all_within}
use Rattle.draft.proofs.Modules.{all_within_pushed, within_limits_of}
use Rattle.draft.proofs.draft.Partition.add.Goals as goal

pub invariant_of-self : goal.invariant_of-self
invariant_of-self c =
    let old = c.args.self.now in
    let w = within_limits_of c.args.cost c.args.period c.args.deadline c.in_ok-task.task (sym c.in_ok-task.ensures.ok_part ∙ c.within_limits.ensures) in
    record { ok = (omega (arith, c.push.ensures.upper_bound), ap all_within c.push.ensures.items ∙ all_within_pushed (is_ok c.push.result) (vec_items old.tasks) c.in_ok-task.task old.ok.1 w) }
