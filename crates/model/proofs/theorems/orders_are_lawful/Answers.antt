use Rattle.model.proofs.Orders.{orders_lawful}
use Rattle.model.proofs.theorems.orders_are_lawful.Goals as goal

pub returns : goal.returns
returns c = orders_lawful
