use Rattle.model.proofs.Timetables.{timetables_lawful}
use Rattle.model.proofs.theorems.timetables_are_lawful.Goals as goal

pub returns : goal.returns
returns c = timetables_lawful
