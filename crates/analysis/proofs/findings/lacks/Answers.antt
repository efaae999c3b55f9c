use Rattle.std.proofs.Common.{◌≡◌, ℕ, Bool, false, not, Some, None, Option, arith}
use Rattle.std.specs.Option.{MatchOption}
use Rattle.std.proofs.lemmas.Bool.Decides.{nat_tests}
use Rattle.model.specs.Modules.{Module, has_partition}
use Rattle.model.specs.Verdicts.{owner_known}
use Rattle.analysis.proofs.findings.lacks.Goals as goal

by : (m : Module) (r : Bool) (o : Option ℕ) (P : ℕ → Type 0) → ((x : ℕ) → P x → r ≡ not (has_partition m x)) → MatchOption o (r ≡ false) P → r ≡ not (owner_known m o)
unfolding owner_known
by m r None P h e = e
by m r (Some x) P h e = h x e

pub returns : goal.returns
returns c = by _ _ _ _ (λ x k. grind (arith, nat_tests)) c.is_some_and.ensures
