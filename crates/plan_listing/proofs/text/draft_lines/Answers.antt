use Rattle.std.proofs.Common.{sym, ap, ◌∙◌}
use Rattle.std.proofs.lemmas.List.{length-take-le}
use Rattle.std.proofs.lemmas.Result.{IfOk-weaker}
use Rattle.model.specs.Orders.{listed}
use Rattle.model.specs.Planning.{plan}
use Rattle.draft.specs.Drafts.{module_of}
use Rattle.plan_listing.specs.PlanLines.{plan_lines}
use Rattle.plan_listing.proofs.Planned.{planned_list}
use Rattle.plan_listing.proofs.text.draft_lines.Goals as goal

pub slice_bounds-windows-end : goal.slice_bounds-windows-end
slice_bounds-windows-end c =
    (planned_list (plan listed (module_of c.args.draft.now) c.args.frame 8) _ _ _ c.in-Ok.ensures.answer c.in-Ok.ensures.after).within

pub slice_bounds-window_lines-end : goal.slice_bounds-window_lines-end
slice_bounds-window_lines-end c =
    let held = planned_list (plan listed (module_of c.args.draft.now) c.args.frame 8) _ _ _ c.in-Ok.ensures.answer c.in-Ok.ensures.after in
    sym (length-take-le c.in-Ok.count c.shortest_windows.new.windows held.within)

pub returns-in-Ok : goal.returns-in-Ok
returns-in-Ok c =
    let held = planned_list (plan listed (module_of c.args.draft.now) c.args.frame 8) _ _ _ c.in-Ok.ensures.answer c.in-Ok.ensures.after in
    IfOk-weaker c.window_lines.result _ _ (λ s e. e ∙ sym (ap plan_lines held.are)) c.window_lines.ensures
