use Rattle.std.proofs.Common.{cond, sym, ap, ◌∙◌}
use Rattle.model.specs.Ranges.{first_of}
use Rattle.analysis.specs.Partitions.{seen}
use Rattle.analysis.proofs.partition.Partition.goes_first.Goals as goal

pub returns-in_default : goal.returns-in_default
unfolding first_of
returns-in_default g c = sym (ap (first_of (seen g.O.LocalOrder.order c.args.self.now).before c.args.number) c.in_default.is)

pub returns-then-goes_before : goal.returns-then-goes_before
unfolding first_of
returns-then-goes_before g c =
    sym (ap (first_of (seen g.O.LocalOrder.order c.args.self.now).before c.args.number) c.in-Some.is ∙ ap (λ x. cond x c.args.number c.in-Some.rival) (sym c.goes_before.ensures ∙ c.if-goes_before.true))

pub returns-else-goes_before : goal.returns-else-goes_before
unfolding first_of
returns-else-goes_before g c =
    sym (ap (first_of (seen g.O.LocalOrder.order c.args.self.now).before c.args.number) c.in-Some.is ∙ ap (λ x. cond x c.args.number c.in-Some.rival) (sym c.goes_before.ensures ∙ c.if-goes_before.false))
