use Rattle.std.proofs.Common.{arith}
use Rattle.planner.proofs.Shares.{lower_half, none_least, upper_half}
use Rattle.planner.proofs.share.FramedDraft.least_share.Goals as goal

pub returns-then-not-is_enough : goal.returns-then-not-is_enough
returns-then-not-is_enough g c = none_least _ _ _ _ c.if-not-is_enough.ensures

pub loop-low-preserved-then-is_enough : goal.loop-low-preserved-then-is_enough
loop-low-preserved-then-is_enough g c =
    lower_half _ _ _ _ c.loop-low.low c.loop-low.high _ c.loop-low.invariant (omega arith) (omega (arith, c.loop-low-test.true)) c.if-is_enough.ensures

pub loop-low-preserved : goal.loop-low-preserved
loop-low-preserved g c =
    upper_half _ _ _ _ c.loop-low.low c.loop-low.high _ c.loop-low.invariant (omega arith) (omega (arith, c.loop-low-test.true)) c.if-is_enough.ensures
