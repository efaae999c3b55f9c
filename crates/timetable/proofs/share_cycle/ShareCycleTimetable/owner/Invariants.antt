use Rattle.std.proofs.Common.{◌≡◌, ◌%◌, drop}
use Rattle.model.specs.Timetables.{share_owner}
use Rattle.timetable.proofs.share_cycle.ShareCycleTimetable.owner.Given as goal

-- the shares from here on decide what is left of the place
abbrev pub invariant-loop-partition : goal.invariant-loop-partition
invariant-loop-partition l = share_owner 0 l.self.shares (l.tick % l.self.frame) ≡ share_owner l.partition (drop l.partition l.self.shares) l.place
