use Rattle.std.proofs.Common.{rules}
use Rattle.model.specs.Modules.{task_of}
use Rattle.analysis.proofs.local_task.LocalTask.deadline.Goals as goal

pub returns : goal.returns
unfolding task_of
returns g c = search rules
