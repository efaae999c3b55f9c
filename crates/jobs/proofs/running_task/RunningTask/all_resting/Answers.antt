use Rattle.std.proofs.Common.{rules}
use Rattle.std.proofs.lemmas.Iterator.{YieldsList-from_map, YieldsList-from_slice}
use Rattle.std.proofs.lemmas.Iterator.Adapters.{items_from_extend}
use Rattle.jobs.specs.Events.{resting}
use Rattle.jobs.proofs.running_task.RunningTask.all_resting.Goals as goal

pub returns : goal.returns
returns c =
    let added = items_from_extend c.extend.result c.extend.ensures.ran (YieldsList-from_map _ resting (YieldsList-from_slice c.args.tasks.now cc) (cc) (λ x r q k. search rules)) in
    search rules
