use Rattle.model.proofs.Isolation.{isolated}
use Rattle.model.proofs.theorems.isolated_holds.Goals as goal

pub returns : goal.returns
returns c = isolated
