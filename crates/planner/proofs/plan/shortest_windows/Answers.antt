use Rattle.std.proofs.Common.{◌≡◌, [], MatchResult, take, Ok, Err, Result, sym, ap, ◌∙◌, arith, rules}
use Rattle.std.proofs.lemmas.Result.{err_from_is_err_and}
use Rattle.model.specs.Answers.{granted}
use Rattle.model.proofs.Timetables.{frame_granted}
use Rattle.draft.proofs.Modules.{draft_within, module_length}
use Rattle.planner.specs.declared.refusal.PlanRefusal.TheVariants.{FrameLength}
use Rattle.planner.proofs.Plans.{frame_good, frame_refused, granted_as, plan_exceeds, plan_granted, plan_infeasible, plan_short, plan_unframed, refused_as}
use Rattle.planner.proofs.plan.shortest_windows.Goals as goal

mapped : {A D E : Type 0} (r : Result A E) (s : Result A D) (d : D) (Q : E → Type 0) → MatchResult r (λ x. s ≡ Ok x) Q → ((e : E) → Q e → s ≡ Err d) → (y : D) → s ≡ Err y → y ≡ d
mapped (Ok x) s d Q m h y e = absurd (cc)
mapped (Err a) s d Q m h y e = let z = h a m in cc

pub returns-in_err-map_err : goal.returns-in_err-map_err
returns-in_err-map_err g c =
    let p = err_from_is_err_and c.from_residual.result c.from_residual.ensures.1 in
    let e : c.in_err-map_err.field-0.0 ≡ FrameLength = mapped c.check_frame.result c.map_err.result FrameLength _ c.map_err.ensures.cases (λ e k. search rules) _ c.in_err-map_err.was in
    rw (p.1, p.2, e) (refused_as _ _ 51 [] (plan_unframed _ _ _ _ (frame_refused c.args.frame _ _ c.map_err.ensures.variant c.check_frame.ensures _ c.in_err-map_err.was)))

pub returns-then-windows-lt8 : goal.returns-then-windows-lt8
returns-then-windows-lt8 g c =
    let framed = frame_good c.args.frame _ _ c.map_err.ensures.variant c.check_frame.ensures _ c.in_ok-map_err.was in
    refused_as _ _ 63 [] (plan_short _ _ _ _ framed c.if-windows-lt8.true)

pub invariant_of-framed : goal.invariant_of-framed
invariant_of-framed g c =
    let framed = frame_good c.args.frame _ _ c.map_err.ensures.variant c.check_frame.ensures _ c.in_ok-map_err.was in
    record { framed = frame_granted c.args.frame (tt, framed) }

pub returns-in_err-shares : goal.returns-in_err-shares
returns-in_err-shares g c =
    let framed = frame_good c.args.frame _ _ c.map_err.ensures.variant c.check_frame.ensures _ c.in_ok-map_err.was in
    let p = err_from_is_err_and c.from_residual-in_err-shares.result c.from_residual-in_err-shares.ensures.1 in
    rw (p.1, p.2) (refused_as _ _ _ _ (plan_infeasible _ _ _ _ framed c.if-windows-lt8.false _ _ c.in_err-shares.ensures))

pub slice_bounds-shares-end : goal.slice_bounds-shares-end
slice_bounds-shares-end g c = let d = c.args.draft.now in omega (arith, module_length d, d.few)

pub returns-then-not-fit : goal.returns-then-not-fit
returns-then-not-fit g c =
    let framed = frame_good c.args.frame _ _ c.map_err.ensures.variant c.check_frame.ensures _ c.in_ok-map_err.was in
    let are = c.in_ok-shares.ensures ∙ ap (λ n. granted (take n c.in_ok-shares.shares)) (sym c.partition_count.ensures) in
    refused_as _ _ 62 [] (plan_exceeds _ _ _ _ framed c.if-windows-lt8.false _ are c.if-not-fit.ensures)

pub returns : goal.returns
returns g c =
    let framed = frame_good c.args.frame _ _ c.map_err.ensures.variant c.check_frame.ensures _ c.in_ok-map_err.was in
    let are = c.in_ok-shares.ensures ∙ ap (λ n. granted (take n c.in_ok-shares.shares)) (sym c.partition_count.ensures) in
    granted_as _ _ _ _ _ _ _ _ (draft_within c.args.draft.now) (plan_granted _ _ _ _ framed c.if-windows-lt8.false _ are c.if-not-fit.ensures) c.write.ensures.count c.write.ensures.after
