use Rattle.model.proofs.Gaps.{starts}
use Rattle.model.proofs.theorems.deciding_starts_hold.Goals as goal

pub returns : goal.returns
returns c = starts
