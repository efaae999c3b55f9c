use Rattle.std.proofs.Common.{ap, ◌∙◌}
use Rattle.model.specs.Modules.{partition_within}
use Rattle.analysis.proofs.Demands.{draft_tasks}
use Rattle.analysis.proofs.partition.Partition.of.Goals as goal

pub invariant_of-result : goal.invariant_of-result
invariant_of-result g c = record { limits = ap partition_within c.tasks.ensures ∙ draft_tasks c.args.draft.now c.args.number }
