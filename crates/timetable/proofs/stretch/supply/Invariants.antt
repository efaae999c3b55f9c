use Rattle.std.proofs.Common.{◌≡◌, ◌≤◌}
use Rattle.model.specs.InTime.{supply}
use Rattle.timetable.specs.Owned.{owning}
use Rattle.timetable.proofs.stretch.supply.Given as goal

abbrev pub invariant-loop-i : goal.invariant-loop-i
invariant-loop-i g l = (l.count ≡ supply (owning (g.T.Timetable.means l.table) l.partition) l.start l.i) × (l.count ≤ l.i)
