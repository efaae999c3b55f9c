use Rattle.std.proofs.Common.{◌≡◌, Err, vec_items, refl, sym, ap, ◌∙◌}
use Rattle.std.specs.Option.{ok_or}
use Rattle.std.proofs.lemmas.Result.{err_from_is_err_and}
use Rattle.model.specs.declared.refusal.Refusal.TheVariants.{LastTick}
use Rattle.executive.specs.States.{sealed_module, state_in}
use Rattle.executive.proofs.Calls.{answered, clock_on, clock_stops}
use Rattle.executive.proofs.Runner.{tick_writes}
use Rattle.executive.proofs.Tables.{last_answer, last_state, state}
use Rattle.executive.proofs.running.Running.tick.Goals as goal

pub returns-in_err-next-clause-answered : goal.returns-in_err-next-clause-answered
returns-in_err-next-clause-answered g c =
    let x = c.args.self.now in
    let t = g.T.Timetable.means x.sealed.table in
    let rule = g.D.Dispatch.rule x.sealed.dispatch in
    let none = c.in_err-next.ensures.ok_part in
    let l = clock_stops x.clock (sym none ∙ c.next.ensures) in
    let p = err_from_is_err_and c.from_residual.result c.from_residual.ensures.1 in
    let last : Err c.in_err-next.field-0.0 ≡ Err LastTick = c.in_err-next.ensures.value ∙ ap (λ o. ok_or o LastTick) none in
    let why : c.in_err-next.field-0.0 ≡ LastTick = cc in
    rw (p.1, p.2, why) (answered g.T.Timetable.means g.D.Dispatch.rule x x _ _ (sym c.if-not-is_cleared.ensures)
    (last_answer t rule (sealed_module x.sealed) (state_in x) l) (last_state t rule (sealed_module x.sealed) (state_in x) l) refl)

pub returns-clause-only : goal.returns-clause-only
returns-clause-only g c =
    let x = c.args.self.now in
    let on = clock_on x.clock c.in_ok-next.next (sym c.in_ok-next.ensures.ok_part ∙ c.next.ensures) in
    tick_writes (g.T.Timetable.means x.sealed.table) (g.D.Dispatch.rule x.sealed.dispatch) (sealed_module x.sealed) (state_in x) on.0 _ _ (c.turn-turn.ensures.answer on.0)
    (ap (λ u. state u (vec_items c.turn-turn.new.self.tables)) on.1 ∙ c.turn-turn.ensures.after on.0)
