use Rattle.model.proofs.Planning.{least_q_decided}
use Rattle.model.proofs.theorems.least_q_is_decided.Goals as goal

pub returns : goal.returns
returns c = least_q_decided
