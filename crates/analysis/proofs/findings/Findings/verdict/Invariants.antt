use Rattle.std.proofs.Common.{◌≡◌, ℕ, ◌<◌, get_or, None}
use Rattle.analysis.proofs.findings.Findings.verdict.Given as goal

abbrev pub invariant-loop-found : goal.invariant-loop-found
invariant-loop-found l = (p : ℕ) → p < l.found-index → get_or l.self.partitions p None ≡ None
