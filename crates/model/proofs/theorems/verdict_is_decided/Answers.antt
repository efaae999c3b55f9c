use Rattle.model.proofs.Verdicts.{decided}
use Rattle.model.proofs.theorems.verdict_is_decided.Goals as goal

pub returns : goal.returns
returns c = decided
