use Rattle.std.proofs.Common.{◌≡◌, ℕ, ◌+◌, ◌*◌, ◌/◌, ◌%◌, ◌≤◌, min, List, length, get_or, sym, ap, ◌∙◌, ap₂, mul-le-mul, arith}
use Rattle.model.specs.declared.task.Task.{Task}
use Rattle.model.specs.Modules.{task}
use Rattle.model.specs.Orders.{Order, record_of}
use Rattle.analysis.specs.declared.partition.Partition.{Partition}
use Rattle.analysis.proofs.Demands.{few, limits_at, summed, summed_none, summed_all, summed_before, summed_other}
use Rattle.analysis.proofs.local_task.LocalTask.demand.Goals as goal
use Rattle.analysis.proofs.local_task.LocalTask.demand.Goals.{then-before, else-before}

pub loop-j-init : goal.loop-j-init
loop-j-init g c =
    let p : Partition _ = c.args.self.now.partition.now in
    let w = limits_at p.tasks.now p.limits c.args.self.now.number c.args.self.now.known in
    (c.from-sum.ensures ∙ sym (summed_none (g.O.LocalOrder.order p.order.now) p.number p.tasks.now c.args.self.now.number c.args.ticks), omega (arith, c.from-sum.ensures))

pub div_ceil-requires : goal.div_ceil-requires
div_ceil-requires g c =
    let p : Partition _ = c.args.self.now.partition.now in
    let w = limits_at p.tasks.now p.limits c.loop-j.j c.loop-j-test.true in omega arith

pub overflow_add-sum : goal.overflow_add-sum
overflow_add-sum g c =
    let p : Partition _ = c.args.self.now.partition.now in
    let w = limits_at p.tasks.now p.limits c.loop-j.j c.loop-j-test.true in
    let m : c.from.result * c.from-then-before.result ≤ 268431360 = mul-le-mul {n₂ = 4096} {m₂ = 65535} (omega arith) (omega arith) in
    omega (arith, few p.tasks.now p.limits)

pub loop-j-preserved : goal.loop-j-preserved
loop-j-preserved g c =
    let p : Partition _ = c.args.self.now.partition.now in
    let ks : List Task = p.tasks.now in
    let i : ℕ = c.args.self.now.number in
    let t : ℕ = c.args.ticks in
    let j : ℕ = c.loop-j.j in
    let k : Task = get_or ks j (task 0 0 0) in
    let o = p.order.now in
    let order : Order = g.O.LocalOrder.order o in
    let within = limits_at ks p.limits j c.loop-j-test.true in
    let d = g.met.O.LocalOrder.decides o p.number (record_of ks j) (record_of ks i) in
    let b : c.before-in-loop-j.result ≡ order p.number (record_of ks j) (record_of ks i) = c.before-in-loop-j.ensures ∙ ap₂ (g.O.LocalOrder.precedes o) c.key.ensures c.key-own.ensures ∙ sym d in
    elim c.if-before.branch [
      | then-before w ↦
          let y : w.from-then-before.result ≡ t / k.period + min 1 (t % k.period) = w.from-then-before.ensures ∙ w.div_ceil.ensures in
          let s = summed_before order p.number ks i t j (sym b ∙ w.if-before.true) (omega arith) w.from.result w.from-then-before.result w.from.ensures y in
          let m : w.from.result * w.from-then-before.result ≤ 268431360 = mul-le-mul {n₂ = 4096} {m₂ = 65535} (omega arith) (omega arith) in
          (omega (arith, s, w.sum-is, c.loop-j.invariant.0), omega (arith, m, w.sum-is, c.loop-j.invariant.1))
      | else-before w ↦
          let s = summed_other order p.number ks i t j (sym b ∙ w.if-before.false) in
          (omega (arith, s, w.sum-is, c.loop-j.invariant.0), omega (arith, w.sum-is, c.loop-j.invariant.1))
    ]

pub returns : goal.returns
returns g c =
    let p : Partition _ = c.args.self.now.partition.now in
    let sums : ℕ → ℕ = summed (g.O.LocalOrder.order p.order.now) p.number p.tasks.now c.args.self.now.number c.args.ticks in
    let n : c.loop-j.j ≡ length p.tasks.now = omega arith in
    c.loop-j.invariant.0 ∙ ap sums n ∙ summed_all _ p.number p.tasks.now c.args.self.now.number c.args.ticks _
