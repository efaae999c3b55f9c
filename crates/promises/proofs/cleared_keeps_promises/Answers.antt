use Rattle.promises.proofs.Promises.{promised}
use Rattle.promises.proofs.cleared_keeps_promises.Goals as goal

pub returns : goal.returns
returns c = λ given running order m law. promised law
