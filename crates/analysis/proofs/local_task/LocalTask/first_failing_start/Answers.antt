use Rattle.std.proofs.Common.{◌≡◌, ap, ◌∙◌, rules}
use Rattle.std.specs.Option.{option_map}
use Rattle.analysis.specs.declared.response.FailingStart.{FailingStart}
use Rattle.analysis.specs.Partitions.{seen}
use Rattle.analysis.proofs.Responding.{answers_start}
use Rattle.analysis.proofs.local_task.LocalTask.first_failing_start.Goals as goal

pub returns : goal.returns
returns g c =
    let p = c.args.self.now.partition.now in
    let mapped : c.map.result ≡ option_map {T = FailingStart} (λ e. e.start) c.err.result = search rules in
    mapped ∙ ap (option_map {T = FailingStart} (λ e. e.start)) c.err.ensures.value
    ∙ answers_start (seen g.O.LocalOrder.order p) p.places.now.frame c.args.self.now.number c.response.result c.response.ensures
