use Rattle.std.proofs.Common.{rules}
use Rattle.model.specs.Modules.{task_of}
use Rattle.model.specs.Orders.{record_of}
use Rattle.analysis.proofs.partition.Partition.key.Goals as goal

pub returns : goal.returns
unfolding record_of task_of
returns g c = search rules
