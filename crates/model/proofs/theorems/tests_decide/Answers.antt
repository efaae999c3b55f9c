use Rattle.model.proofs.Decisions.{tests_decide}
use Rattle.model.proofs.theorems.tests_decide.Goals as goal

pub returns : goal.returns
returns c = tests_decide
