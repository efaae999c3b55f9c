use Rattle.model.proofs.Punctuality.{faithful}
use Rattle.model.proofs.theorems.faithful_holds.Goals as goal

pub returns : goal.returns
returns c = faithful
