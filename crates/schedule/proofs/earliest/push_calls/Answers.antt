use Rattle.std.proofs.Common.{length, ap, arith}
use Rattle.draft.specs.Drafts.{module_of}
use Rattle.draft.proofs.Modules.{draft_within}
use Rattle.model.proofs.Limits.{limits}
use Rattle.schedule.proofs.earliest.push_calls.Goals as goal

pub push_releases-requires : goal.push_releases-requires
push_releases-requires c =
    let few = (limits (module_of c.args.draft.now) (draft_within c.args.draft.now)).sizes c.loop-partition.partition in
    omega (arith, few, ap length c.tasks.ensures)
