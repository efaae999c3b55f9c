-- What an opened window list means.
use Rattle.std.specs.Prelude.{vec_items}
use Rattle.model.specs.WindowLists.{overlap}
use Rattle.model.specs.Timetables.{Timetable, window_timetable}
use Rattle.timetable.specs.declared.window_list.WindowList.{WindowList}

abbrev pub meaning : WindowList → Timetable
meaning t = window_timetable overlap t.frame (vec_items t.windows)
