use Rattle.std.proofs.Common.{ℕ, get_or, None, Option, sym, ap, ap₂, arith}
use Rattle.model.specs.declared.verdict.LateTask.{LateTask}
use Rattle.model.specs.Ranges.{first_found}
use Rattle.model.specs.Verdicts.{verdict_by}
use Rattle.model.proofs.Ranges.{none_found, some_found}
use Rattle.analysis.proofs.findings.Findings.verdict.Goals as goal

pub returns-in-Some : goal.returns-in-Some
unfolding verdict_by
returns-in-Some c = sym (ap (λ x. verdict_by x (first_found (λ p. get_or c.args.self.now.partitions p None) 8)) c.in-Some.is)

pub returns-in-Some-found : goal.returns-in-Some-found
unfolding verdict_by
returns-in-Some-found c =
    let f : ℕ → Option LateTask = λ p. get_or c.args.self.now.partitions p None in
    sym (ap₂ verdict_by c.in_default.is (some_found f 8 c.loop-found.found-index c.in-Some-found.task (omega (arith, c.loop-found-test.true)) c.loop-found.invariant c.in-Some-found.is))

pub returns : goal.returns
unfolding verdict_by
returns c =
    let f : ℕ → Option LateTask = λ p. get_or c.args.self.now.partitions p None in
    sym (ap₂ verdict_by c.in_default.is (none_found f 8 (λ p l. c.loop-found.invariant p (omega (arith, c.loop-found-test.false)))))
