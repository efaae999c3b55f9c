use Rattle.std.proofs.Common.{◌≡◌, ℕ, ◌≤◌, List, map, None, Option, ◌∙◌, ap₂, rules}
use Rattle.std.specs.List.{range_with_len}
use Rattle.std.proofs.lemmas.List.FromFn.{fill_by_all}
use Rattle.model.specs.declared.verdict.LateTask.{LateTask}
use Rattle.model.specs.Modules.{Module}
use Rattle.model.specs.Orders.{Order}
use Rattle.model.specs.Timetables.{Timetable}
use Rattle.model.specs.Verdicts.{finding}
use Rattle.draft.specs.Drafts.{module_of}
use Rattle.analysis.specs.declared.findings.Findings.{Findings}
use Rattle.analysis.specs.declared.owners.Owners.{Owners}
use Rattle.analysis.specs.Owners.{drawn}
use Rattle.analysis.proofs.Filling.{filled}
use Rattle.analysis.proofs.Verdicts.{drawn_finding, drawn_foreign}
use Rattle.analysis.proofs.findings.examine.Goals as goal

pub returns : goal.returns
returns g c =
    let t : Timetable = g.T.Timetable.means c.args.table.now in
    let order : Order = g.O.LocalOrder.order c.args.order.now in
    let m : Module = module_of c.args.draft.now in
    let o : Owners = c.draw-owners.result in
    let some : 1 ≤ t.frame = (g.met.T.Timetable.lawful c.args.table.now).frame_within.0 in
    let all : c.from_fn.result ≡ map (finding t order m) (range_with_len 0 8) =
    fill_by_all (finding t order m) c.from_fn.result 8 None c.from_fn.ensures.items.long
    (λ p l. filled _ _ (finding (drawn o) order m) (λ x y q k. search rules) _ 8 c.from_fn.ensures.items p None l ∙ drawn_finding t o c.draw-owners.ensures some order m p) in
    let make : Option ℕ → List (Option LateTask) → Findings = λ x ps. record { foreign = x; partitions = ps } in
    ap₂ make (c.foreign_place.ensures ∙ drawn_foreign t o c.draw-owners.ensures m) all
