use Rattle.std.proofs.Common.{Err, Ok}
use Rattle.std.proofs.lemmas.Result.{err_from_is_err_and}
use Rattle.jobs.proofs.Requests.{by_release}
use Rattle.jobs.proofs.job_table.JobTable.release.Goals as goal

pub returns-in_err-deadline : goal.returns-in_err-deadline
returns-in_err-deadline c =
    let by = c.in_err-deadline.ensures in
    let p = err_from_is_err_and c.from_residual.result c.from_residual.ensures.1 in
    rw (p.1, p.2, ← c.now-now.ensures.tick) (by_release c.args.self.now c.now-now.result c.args.task c.ask.new.self (Err c.in_err-deadline.field-0.0) by.answer by.after by.tasks)

pub returns : goal.returns
returns c =
    let by = c.in_ok-deadline.ensures in
    rw (c.from.ensures, ← c.now-now.ensures.tick) (by_release c.args.self.now c.now-now.result c.args.task c.ask.new.self (Ok c.in_ok-deadline.deadline) by.answer by.after by.tasks)
