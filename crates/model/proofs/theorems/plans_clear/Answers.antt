use Rattle.model.proofs.Plans.{plans_clear}
use Rattle.model.proofs.theorems.plans_clear.Goals as goal

pub returns : goal.returns
returns c = plans_clear
