use Rattle.std.proofs.Common.{◌≡◌, ℕ, not, length, Some, sym, ap, ◌∙◌, arith}
use Rattle.model.specs.InTime.{Partition, in_time, size}
use Rattle.model.specs.Ranges.{first_of, first_such}
use Rattle.model.specs.Verdicts.{first_late}
use Rattle.model.proofs.Firsts.{first_below}
use Rattle.analysis.specs.Partitions.{seen}
use Rattle.analysis.proofs.Verdicts.{such_none, such_skip, such_found}
use Rattle.analysis.proofs.partition.Partition.first_late.Goals as goal

pub loop-number-init : goal.loop-number-init
loop-number-init g c = sym (such_none _ _)

pub loop-number-preserved-then-is_in_time : goal.loop-number-preserved-then-is_in_time
loop-number-preserved-then-is_in_time g c = c.loop-number.invariant ∙ sym (such_skip _ _ c.loop-number.number (ap not (sym c.is_in_time.ensures ∙ c.if-is_in_time.true)))

pub goes_first-requires-clause-also : goal.goes_first-requires-clause-also
goes_first-requires-clause-also g c = λ k e. omega (arith, c.loop-number-test.true, first_below _ _ c.loop-number.number k (sym c.loop-number.invariant ∙ e))

pub loop-number-preserved : goal.loop-number-preserved
loop-number-preserved g c =
    let p : Partition = seen g.O.LocalOrder.order c.args.self.now in
    let n : ℕ = c.loop-number.number in
    ap Some (c.goes_first.ensures ∙ ap (first_of p.before n) c.loop-number.invariant) ∙ sym (such_found p.before _ n (ap not (sym c.is_in_time.ensures ∙ c.if-is_in_time.false)))

pub returns : goal.returns
unfolding first_late size
returns g c =
    let p : Partition = seen g.O.LocalOrder.order c.args.self.now in
    let n : c.loop-number.number ≡ length c.args.self.now.tasks.now = omega (arith, c.loop-number-test.false) in
    c.loop-number.invariant ∙ ap (first_such p.before (λ i. not (in_time p c.args.self.now.places.now.frame i))) n
