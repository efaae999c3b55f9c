use Rattle.std.proofs.lemmas.Result.{err_from_is_err_and}
use Rattle.model.specs.declared.call.Request.TheVariants.{Fault}
use Rattle.executive.proofs.Calls.{looks, turned_away}
use Rattle.executive.proofs.running.Running.fault.Goals as goal

pub returns-in_err-number : goal.returns-in_err-number
returns-in_err-number g c =
    let p = err_from_is_err_and c.from_residual.result c.from_residual.ensures.1 in
    rw (p.1, p.2) (turned_away g.T.Timetable.means g.D.Dispatch.rule c.args.self.now c.args.partition (Fault c.args.entry) c.in_err-number.field-0.0 c.in_err-number.ensures)

pub returns : goal.returns
returns g c =
    looks g.T.Timetable.means g.D.Dispatch.rule c.args.self.now c.args.partition (Fault c.args.entry) c.in_ok-number.number c.in_ok-number.ensures _ c.index.ensures _ (c.fault.ensures c.args.self.now.clock)
