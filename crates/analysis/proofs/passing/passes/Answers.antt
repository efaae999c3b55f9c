use Rattle.std.proofs.Common.{rules, ◌≡◌, ◌≤◌, length, false, sym, ap, ◌∙◌, arith}
use Rattle.model.specs.InTime.{Partition, passes}
use Rattle.analysis.specs.Partitions.{seen}
use Rattle.analysis.proofs.Options.{mapped_or}
use Rattle.analysis.proofs.Growing.{absent_never}
use Rattle.analysis.proofs.passing.passes.Goals as goal

pub returns : goal.returns
returns g c =
    let p : Partition = seen g.O.LocalOrder.order c.of-partition.result in
    mapped_or c.is_some_and.result false _ c.task.result (length c.of-partition.result.tasks.now ≤ c.from.result) (λ t. (t.partition.now ≡ c.of-partition.result) × (t.number ≡ c.from.result)) _ c.task.ensures c.is_some_and.ensures
    (λ n. sym (absent_never p c.args.task c.args.start (omega (arith, n, c.from.ensures))) ∙ ap (λ q. passes q c.args.task c.args.start) c.of-partition.ensures.is)
    (λ x k e. search rules)
