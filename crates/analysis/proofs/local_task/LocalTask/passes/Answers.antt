use Rattle.std.proofs.Common.{◌≡◌, ℕ, ◌≤◌, ap, sym, arith}
use Rattle.std.proofs.lemmas.Bool.Decides.{when_true}
use Rattle.model.specs.InTime.{D, Partition}
use Rattle.model.proofs.Decisions.{decides_passes}
use Rattle.analysis.specs.Partitions.{seen}
use Rattle.analysis.proofs.Growing.{begun_short, never_passes, passes_no, passes_wider}
use Rattle.analysis.proofs.local_task.LocalTask.passes.Goals as goal

pub loop-stretch-init : goal.loop-stretch-init
loop-stretch-init g c = (omega (arith, ap (λ x. x.ticks) c.at-stretch.ensures), begun_short _ _ _ _ _ c.at-stretch.ensures)

pub returns-then-grow : goal.returns-then-grow
returns-then-grow g c =
    let p : Partition = seen g.O.LocalOrder.order c.args.self.now.partition.now in
    let i : ℕ = c.args.self.now.number in
    let l : c.grow.new.self.ticks ≤ D p i = omega (arith, c.grow.ensures.grown, c.loop-stretch.invariant.0, c.loop-stretch-test.true, c.deadline-deadline.ensures) in
    sym ((decides_passes p i c.args.start).1 (passes_wider p i c.grow.new.self.ticks (D p i) c.args.start l (when_true _ _ c.if-grow.true c.grow.ensures.tells)))

pub returns : goal.returns
returns g c =
    let p : Partition = seen g.O.LocalOrder.order c.args.self.now.partition.now in
    let i : ℕ = c.args.self.now.number in
    let e : c.loop-stretch.stretch.ticks ≡ D p i = omega (arith, c.loop-stretch.invariant.0, c.loop-stretch-test.false, c.deadline-deadline.ensures) in
    sym (passes_no p i c.args.start (never_passes p i c.args.self.now.partition.now.places.now.frame c.args.start c.loop-stretch.stretch c.loop-stretch.invariant.1 e))
