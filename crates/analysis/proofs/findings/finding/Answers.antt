use Rattle.std.proofs.Common.{◌≡◌, ℕ, ap, ◌∙◌}
use Rattle.model.specs.InTime.{Partition, partition}
use Rattle.model.specs.Orders.{Order}
use Rattle.model.specs.Modules.{Module}
use Rattle.model.specs.Timetables.{Timetable}
use Rattle.model.specs.Verdicts.{first_late, late_task}
use Rattle.draft.specs.Drafts.{module_of}
use Rattle.analysis.specs.Owners.{drawn}
use Rattle.analysis.specs.Partitions.{seen}
use Rattle.analysis.proofs.Verdicts.{finding_by, same_partition}
use Rattle.analysis.proofs.findings.finding.Goals as goal

pub returns : goal.returns
returns g c =
    let t : Timetable = drawn c.args.owners.now in
    let order : Order = g.O.LocalOrder.order c.args.order.now in
    let m : Module = module_of c.args.draft.now in
    let n : ℕ = c.args.partition in
    let p : Partition = seen g.O.LocalOrder.order c.of.result in
    let f : ℕ = c.of.result.places.now.frame in
    let same : p ≡ partition t order m n = same_partition t order m n p c.of-places.result c.of.ensures.is c.of-places.ensures.ticks in
    c.finding.ensures ∙ ap (λ k. late_task p f k (first_late p f)) c.of.ensures.numbered
    ∙ finding_by t order m n p f same (ap (λ x. x.frame) c.of.ensures.placed ∙ c.of-places.ensures.frame)
