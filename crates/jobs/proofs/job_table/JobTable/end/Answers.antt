use Rattle.jobs.proofs.Requests.{by_end}
use Rattle.jobs.proofs.job_table.JobTable.end.Goals as goal

pub returns : goal.returns
returns c =
    let by = c.ask.ensures in
    rw (← c.now.ensures.tick) (by_end c.args.self.now c.now.result c.args.task c.ask.new.self c.ask.result by.answer by.after by.tasks)
