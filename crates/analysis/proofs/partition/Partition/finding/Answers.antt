use Rattle.std.proofs.Common.{not, sym, ◌∙◌}
use Rattle.model.specs.InTime.{Partition, in_time, size}
use Rattle.model.specs.Verdicts.{first_late}
use Rattle.model.proofs.Firsts.{first_below}
use Rattle.analysis.specs.Partitions.{seen}
use Rattle.analysis.proofs.Verdicts.{never_fails, nothing_found, task_found}
use Rattle.analysis.proofs.partition.Partition.finding.Goals as goal

pub returns-in_err-number : goal.returns-in_err-number
returns-in_err-number g c = c.from_residual.ensures ∙ nothing_found _ _ _ (sym c.first_late.ensures ∙ c.in_err-number.was)

pub invariant_of-late : goal.invariant_of-late
unfolding first_late size
invariant_of-late g c =
    let p : Partition = seen g.O.LocalOrder.order c.args.self.now in
    record { known = first_below p.before (λ i. not (in_time p c.args.self.now.places.now.frame i)) (size p) c.in_ok-number.number (sym c.first_late.ensures ∙ c.in_ok-number.was) }

pub returns-in_err-start : goal.returns-in_err-start
returns-in_err-start g c =
    c.from_residual-in_err-start.ensures ∙ never_fails _ _ _ c.in_ok-number.number (sym c.first_late.ensures ∙ c.in_ok-number.was) (sym c.first_failing_start.ensures ∙ c.in_err-start.was)

pub returns : goal.returns
returns g c = task_found _ _ _ c.in_ok-number.number c.in_ok-start.start (sym c.first_late.ensures ∙ c.in_ok-number.was) (sym c.first_failing_start.ensures ∙ c.in_ok-start.was)
