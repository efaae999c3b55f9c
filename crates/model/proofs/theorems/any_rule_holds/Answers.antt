use Rattle.model.proofs.Punctuality.{any_rule}
use Rattle.model.proofs.theorems.any_rule_holds.Goals as goal

pub returns : goal.returns
returns c = any_rule
