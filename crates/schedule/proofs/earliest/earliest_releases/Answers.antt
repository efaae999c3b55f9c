use Rattle.std.proofs.Common.{◌≡◌, vec_items, ap, ◌∙◌, arith}
use Rattle.draft.specs.Drafts.{module_of}
use Rattle.draft.proofs.Modules.{draft_within}
use Rattle.schedule.specs.Earliest.{earliest_calls}
use Rattle.schedule.proofs.Early.{early}
use Rattle.schedule.proofs.earliest.earliest_releases.Goals as goal

pub returns-clause-early : goal.returns-clause-early
returns-clause-early c =
    let m = module_of c.args.draft.now in
    let all : c.loop-tick.tick ≡ c.args.frame = omega arith in
    let made : vec_items c.loop-tick.calls ≡ earliest_calls m c.args.frame = c.loop-tick.invariant ∙ ap (earliest_calls m) all in
    rw made (early m c.args.frame (draft_within c.args.draft.now) (omega (arith, c.ranges.frame)))
