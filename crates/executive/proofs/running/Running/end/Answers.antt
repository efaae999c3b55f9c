use Rattle.std.proofs.Common.{refl}
use Rattle.std.proofs.lemmas.Result.{err_from_is_err_and}
use Rattle.model.specs.declared.call.Request.TheVariants.{End}
use Rattle.executive.proofs.Calls.{asks, stays_level, turned_away}
use Rattle.executive.proofs.running.Running.end.Goals as goal

pub returns-in_err-number : goal.returns-in_err-number
returns-in_err-number g c =
    let p = err_from_is_err_and c.from_residual.result c.from_residual.ensures.1 in
    rw (p.1, p.2) (turned_away g.T.Timetable.means g.D.Dispatch.rule c.args.self.now c.args.partition (End c.args.task) c.in_err-number.field-0.0 c.in_err-number.ensures)

pub invariant_of-self : goal.invariant_of-self
invariant_of-self g c =
    record { level = stays_level g.T.Timetable.means g.D.Dispatch.rule c.args.self.now c.args.partition (End c.args.task) c.in_ok-number.number c.in_ok-number.ensures _ c.index_mut.ensures.value c.end.new.self c.end.ensures.tasks }

pub returns : goal.returns
returns g c =
    asks g.T.Timetable.means g.D.Dispatch.rule c.args.self.now c.args.partition (End c.args.task) c.in_ok-number.number c.in_ok-number.ensures _ c.index_mut.ensures.value c.end.new.self _ _ c.end.ensures refl refl
