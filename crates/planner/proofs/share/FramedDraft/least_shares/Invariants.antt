use Rattle.std.proofs.Common.{◌≡◌, length, take, drop}
use Rattle.model.specs.Planning.{least_qs}
use Rattle.draft.specs.Drafts.{module_of}
use Rattle.planner.proofs.Windows.{after}
use Rattle.planner.proofs.share.FramedDraft.least_shares.Given as goal

abbrev pub invariant-loop-partition : goal.invariant-loop-partition
invariant-loop-partition g l =
    let order = g.O.LocalOrder.order l.self.order.now in
    let m = module_of l.self.draft.now in
    (length l.shares ≡ 8) × (least_qs order l.self.frame 0 m ≡ after (take l.partition l.shares) (least_qs order l.self.frame l.partition (drop l.partition m)))
