use Rattle.model.proofs.Punctuality.{punctual}
use Rattle.model.proofs.theorems.punctual_holds.Goals as goal

pub returns : goal.returns
returns c = punctual
