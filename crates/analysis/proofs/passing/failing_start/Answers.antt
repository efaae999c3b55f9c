use Rattle.std.proofs.Common.{ℕ, ◌≤◌, length, sym, ap, ◌∙◌, ap₂, arith}
use Rattle.model.specs.InTime.{Partition, partition}
use Rattle.model.specs.Modules.{Module, tasks_of}
use Rattle.model.specs.Orders.{Order}
use Rattle.model.specs.Timetables.{Timetable}
use Rattle.model.specs.Verdicts.{failing_start}
use Rattle.draft.specs.Drafts.{module_of}
use Rattle.analysis.specs.declared.places.Places.{Places}
use Rattle.analysis.specs.Partitions.{seen}
use Rattle.analysis.proofs.Responding.{absent_start}
use Rattle.analysis.proofs.Verdicts.{drawn_start}
use Rattle.analysis.proofs.passing.failing_start.Goals as goal

pub returns-then-number-tasks : goal.returns-then-number-tasks
returns-then-number-tasks g c =
    let t : Timetable = g.T.Timetable.means c.args.table.now in
    let m : Module = module_of c.args.draft.now in
    let p : Partition = partition t (g.O.LocalOrder.order c.args.order.now) m c.args.partition in
    let past : length (tasks_of m c.args.partition) ≤ c.args.task = omega (arith, c.if-number-tasks.true, c.from-number.ensures, ap length c.tasks.ensures) in
    sym (absent_start p t.frame c.args.task (g.met.T.Timetable.lawful c.args.table.now).frame_within.0 past)

pub returns : goal.returns
returns g c =
    let t : Timetable = g.T.Timetable.means c.args.table.now in
    let order : Order = g.O.LocalOrder.order c.args.order.now in
    let some : 1 ≤ t.frame = (g.met.T.Timetable.lawful c.args.table.now).frame_within.0 in
    let places : Places = c.of-places.result in
    let p : Partition = seen g.O.LocalOrder.order c.of-partition.result in
    c.first_failing_start.ensures
    ∙ ap₂ (λ (q : Places) (i : ℕ). failing_start p q.frame i) c.of-partition.ensures.placed c.from-number.ensures
    ∙ drawn_start t _ c.draw-owners.ensures some order (module_of c.args.draft.now) c.args.partition p places c.of-partition.ensures.is c.of-places.ensures.frame c.of-places.ensures.ticks c.args.task
