-- The owners of a timetable's places, drawn from it once.
use Rattle.std.specs.Prelude.{◌≡◌, ℕ, ◌<◌, None, slice_index_or}
use Rattle.model.specs.Timetables.{Timetable}
use Rattle.analysis.specs.declared.owners.Owners.{Owners}

-- what they are as a timetable
abbrev pub drawn : Owners → Timetable
drawn o = record { frame = o.frame; owner = λ x. slice_index_or o.places x None }

-- they are those of the timetable
pub record DrawnFrom (t : Timetable) (o : Owners) : Type 0 where
  pub frame : o.frame ≡ t.frame
  pub owner : (x : ℕ) → x < t.frame → (drawn o).owner x ≡ t.owner x
