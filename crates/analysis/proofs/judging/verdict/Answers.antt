use Rattle.std.proofs.Common.{ap, ◌∙◌}
use Rattle.model.specs.Modules.{Module}
use Rattle.model.specs.Timetables.{Timetable}
use Rattle.model.proofs.Limits.{limits}
use Rattle.draft.specs.Drafts.{module_of}
use Rattle.draft.proofs.Modules.{draft_within}
use Rattle.analysis.specs.Findings.{told_by}
use Rattle.analysis.proofs.Verdicts.{verdict_told}
use Rattle.analysis.proofs.judging.verdict.Goals as goal

pub returns : goal.returns
returns g c =
    let t : Timetable = g.T.Timetable.means c.args.table.now in
    let m : Module = module_of c.args.draft.now in
    c.verdict.ensures ∙ ap told_by c.examine.ensures ∙ verdict_told t t (g.O.LocalOrder.order c.args.order.now) m (limits m (draft_within c.args.draft.now)).few
