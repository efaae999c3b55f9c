use Rattle.std.proofs.Common.{false, get_or, None}
use Rattle.model.specs.Timetables.{owned_by}
use Rattle.analysis.proofs.Filling.{Filled}
use Rattle.analysis.proofs.places.Places.of.Given as goal

abbrev pub invariant-loop-place : goal.invariant-loop-place
invariant-loop-place l = Filled (λ x. owned_by l.partition (get_or l.owners.places x None)) false 1024 l.place l.owned
