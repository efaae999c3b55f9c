use Rattle.std.proofs.Common.{sym, refl, ap, ◌∙◌, subst}
use Rattle.analysis.proofs.Verdicts.{verdict_told}
use Rattle.analysis.specs.Findings.{told_by}
use Rattle.draft.proofs.Modules.{draft_within}
use Rattle.draft.specs.Drafts.{module_of}
use Rattle.model.specs.Verdicts.{Lawful}
use Rattle.order.proofs.Laws.{lawful_by_keys}
use Rattle.promises.specs.Promises.{ExactVerdict}
use Rattle.promises.proofs.Promises.{exact_verdict}
use Rattle.executive.proofs.Sealing.{few, clears_never_late}
use Rattle.executive.proofs.sealed.seal.Goals as goal

pub returns : goal.returns
returns g c =
    let o = c.args.order in
    let order = g.O.LocalOrder.order o in
    let t = g.T.Timetable.means c.args.table in
    let m = module_of c.args.draft in
    let met = g.met.O.LocalOrder in
    let law : Lawful t order m = record {
      timetable = g.met.T.Timetable.lawful c.args.table;
      local_order = lawful_by_keys order (g.O.LocalOrder.keyed o) (g.O.LocalOrder.precedes o) (met.decides o) (met.irreflexive o) (met.transitive o) (met.total o);
      limits = draft_within c.args.draft;
    } in
    let told = ap told_by c.examine-findings.ensures ∙ verdict_told t t order m (few c.args.draft) in
    record {
      same_draft = refl;
      same_table = refl;
      same_order = refl;
      verdict = told;
      exact = subst (ExactVerdict t t order m) (sym told) (exact_verdict law);
      never_late = clears_never_late t order m law _ told;
    }
