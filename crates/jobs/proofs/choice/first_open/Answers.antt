use Rattle.std.proofs.Common.{◌≡◌, refl, ◌∙◌, arith, rules}
use Rattle.std.specs.Option.{option_map}
use Rattle.std.proofs.lemmas.List.{length-map}
use Rattle.model.specs.Orders.{record_of}
use Rattle.model.specs.Ranges.{first_such}
use Rattle.model.specs.Timetables.{bare_frame}
use Rattle.jobs.specs.Events.{states_of, tasks_of_list}
use Rattle.jobs.proofs.Choices.{one_more, best_chosen}
use Rattle.jobs.proofs.Events.{task_read}
use Rattle.jobs.proofs.choice.first_open.Goals as goal

pub loop-number-init : goal.loop-number-init
unfolding first_such
loop-number-init g c = record { number = refl; held = tt }

pub loop-number-preserved : goal.loop-number-preserved
unfolding record_of
loop-number-preserved g c =
    let d = c.args.dispatch.now in
    one_more (g.D.Dispatch.precedes d) (g.D.Dispatch.keyed d c.args.partition) (tasks_of_list c.args.tasks.now) (states_of c.args.tasks.now) c.loop-number.number c.loop-number.best c.better-best.result c.loop-number.invariant
    (rw (task_read c.args.tasks.now c.loop-number.number) c.better-best.ensures)

pub returns : goal.returns
returns g c =
    let d = c.args.dispatch.now in
    let p = c.args.partition in
    let best : c.map.result ≡ option_map (λ b. b.0) c.loop-number.best = search rules in
    best ∙ best_chosen (g.D.Dispatch.precedes d) (g.D.Dispatch.keyed d p) (tasks_of_list c.args.tasks.now) (states_of c.args.tasks.now) (g.D.Dispatch.rule d) p bare_frame (g.met.D.Dispatch.decides d p) c.loop-number.number c.loop-number.best c.loop-number.invariant (omega (arith, length-map c.args.tasks.now (λ x. x.task)))
