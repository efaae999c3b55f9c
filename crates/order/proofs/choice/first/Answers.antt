use Rattle.std.proofs.Common.{◌≡◌, Some, rules, ◌∙◌}
use Rattle.std.specs.List.{reduce}
use Rattle.std.proofs.iter.runs.Made.{chains}
use Rattle.order.specs.Choices.{better}
use Rattle.order.proofs.Firsts.{goes_first, reduce_better}
use Rattle.order.proofs.Laws.{lawful_by_keys}
use Rattle.order.proofs.choice.first.Goals as goal

pub returns : goal.returns
returns g c =
    let o = c.args.order.now in
    let order = g.O.LocalOrder.order o in
    let chosen : c.reduce.result ≡ reduce (λ a b. better (order c.args.partition) (Some a) b) c.args.tasks.now = search (rules, chains) in
    let e = chosen ∙ reduce_better (order c.args.partition) c.args.tasks.now in
    let met = g.met.O.LocalOrder in
    let ok = lawful_by_keys order (g.O.LocalOrder.keyed o) (g.O.LocalOrder.precedes o) (met.decides o) (met.irreflexive o) (met.transitive o) (met.total o) in
    record { is = e; goes = rw e (goes_first order ok c.args.partition c.args.tasks.now) }
