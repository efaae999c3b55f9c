use Rattle.std.proofs.Common.{◌-◌}
use Rattle.model.specs.Modules.{tasks_of}
use Rattle.draft.specs.Drafts.{module_of}
use Rattle.planner.proofs.Shares.{Bisects}
use Rattle.planner.proofs.share.FramedDraft.least_share.Given as goal

abbrev pub invariant-loop-low : goal.invariant-loop-low
invariant-loop-low g l =
    Bisects (g.O.LocalOrder.order l.self.order.now) l.partition (tasks_of (module_of l.self.draft.now) l.partition) l.self.frame l.low l.high

abbrev pub decreases-loop-low : goal.decreases-loop-low
decreases-loop-low g l = l.high - l.low
