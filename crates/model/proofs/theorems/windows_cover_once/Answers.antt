use Rattle.model.proofs.Timetables.{covered_once}
use Rattle.model.proofs.theorems.windows_cover_once.Goals as goal

pub returns : goal.returns
returns c = covered_once
