use Rattle.std.proofs.Common.{sym, ◌∙◌, ap₂}
use Rattle.model.specs.Orders.{record_of}
use Rattle.analysis.specs.declared.partition.Partition.{Partition}
use Rattle.analysis.proofs.partition.Partition.goes_before.Goals as goal

pub returns : goal.returns
returns g c =
    let p : Partition _ = c.args.self.now in
    let ks = p.tasks.now in
    c.before-2.ensures ∙ ap₂ (g.O.LocalOrder.precedes p.order.now) c.key.ensures c.key-2.ensures
    ∙ sym (g.met.O.LocalOrder.decides p.order.now p.number (record_of ks c.args.number) (record_of ks c.args.other))
