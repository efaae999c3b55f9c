use Rattle.std.proofs.Common.{None}
use Rattle.analysis.proofs.Filling.{Filled}
use Rattle.analysis.proofs.owners.Owners.draw.Given as goal

abbrev pub invariant-loop-place : goal.invariant-loop-place
invariant-loop-place g l = Filled (g.T.Timetable.means l.table).owner None 1024 l.place l.places
