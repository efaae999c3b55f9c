use Rattle.std.proofs.Common.{◌≡◌, true, false, List, length, ◌%◌, ap, arith, rules}
use Rattle.std.proofs.lemmas.Iterator.{cases_from_all, YieldsList-from_range}
use Rattle.model.specs.declared.task.Task.{Task}
use Rattle.model.specs.InTime.{Partition, passes}
use Rattle.model.specs.Modules.{tasks_of}
use Rattle.model.specs.Orders.{Order}
use Rattle.model.specs.Planning.{with_first}
use Rattle.draft.specs.Drafts.{module_of}
use Rattle.analysis.proofs.Demands.{draft_tasks, few}
use Rattle.planner.proofs.Shares.{decided, next_decides}
use Rattle.planner.proofs.share.FramedDraft.is_enough.Goals as goal

pub overflow_cast-tasks : goal.overflow_cast-tasks
overflow_cast-tasks g c =
    let d = c.args.self.now.draft.now in
    let ks : List Task = tasks_of (module_of d) c.args.partition in
    omega (arith, few ks (draft_tasks d c.args.partition), ap length c.tasks.ensures)

pub returns : goal.returns
returns g c =
    let d = c.args.self.now in
    let order : Order = g.O.LocalOrder.order d.order.now in
    let ks : List Task = tasks_of (module_of d.draft.now) c.args.partition in
    let p : Partition = with_first order c.args.partition ks d.frame c.args.share in
    decided order c.args.partition ks d.frame c.args.share _ (length c.tasks.result.now) (next_decides order c.args.partition ks d.frame c.args.share d.framed.0 c.requires) (ap length c.tasks.ensures) c.all.result
    (cases_from_all _ _ _ (λ i. passes p i (c.args.share % d.frame) ≡ true) (λ i. passes p i (c.args.share % d.frame) ≡ false) c.all.ensures.ran (YieldsList-from_range 0 (length c.tasks.result.now) (length c.tasks.result.now) (cc) (omega arith)) (λ x q k. search rules) (λ x q k. search rules))
