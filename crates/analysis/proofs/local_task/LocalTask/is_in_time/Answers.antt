use Rattle.std.proofs.Common.{false, ◌∙◌}
use Rattle.analysis.specs.Partitions.{seen}
use Rattle.analysis.proofs.Responding.{answers_in_time}
use Rattle.analysis.proofs.local_task.LocalTask.is_in_time.Goals as goal

pub returns : goal.returns
returns g c =
    let p = c.args.self.now.partition.now in
    c.is_ok.ensures.value ∙ answers_in_time (seen g.O.LocalOrder.order p) p.places.now.frame c.args.self.now.number false c.response.result c.response.ensures
