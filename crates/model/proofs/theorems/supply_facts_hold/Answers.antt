use Rattle.model.proofs.Supplies.{supply_facts}
use Rattle.model.proofs.theorems.supply_facts_hold.Goals as goal

pub returns : goal.returns
returns c = supply_facts
