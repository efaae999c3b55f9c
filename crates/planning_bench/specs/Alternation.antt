-- Eight partitions own every place of a frame of 1024 in turn.
use Rattle.std.specs.Prelude.{◌%◌, Some}
use Rattle.model.specs.Timetables.{Timetable}

abbrev pub alternation : Timetable
alternation = record { frame = 1024; owner = λ x. Some (x % 8) }
