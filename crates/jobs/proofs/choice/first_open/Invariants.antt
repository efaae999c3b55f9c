use Rattle.jobs.specs.Events.{states_of, tasks_of_list}
use Rattle.jobs.proofs.Choices.{Best}
use Rattle.jobs.proofs.choice.first_open.Given as goal

abbrev pub invariant-loop-number : goal.invariant-loop-number
invariant-loop-number g l =
    let d = g.D.Dispatch in
    Best (d.precedes l.dispatch) (d.keyed l.dispatch l.partition) (tasks_of_list l.tasks) (states_of l.tasks) l.number l.best
