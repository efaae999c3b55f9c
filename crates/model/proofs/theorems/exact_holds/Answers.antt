use Rattle.model.proofs.Exactness.{exact}
use Rattle.model.proofs.theorems.exact_holds.Goals as goal

pub returns : goal.returns
returns c = exact
