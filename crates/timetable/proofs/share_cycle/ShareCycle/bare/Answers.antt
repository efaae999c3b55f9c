use Rattle.model.specs.Timetables.{opened}
use Rattle.timetable.proofs.Shares.{no_shares}
use Rattle.timetable.proofs.share_cycle.ShareCycle.bare.Goals as goal

pub returns : goal.returns
unfolding opened
returns c n vs t = no_shares
