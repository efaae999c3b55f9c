use Rattle.cases.proofs.WorkedModules.{worked_modules}
use Rattle.cases.proofs.worked_modules_hold.Goals as goal

pub returns : goal.returns
returns c = worked_modules
