use Rattle.std.proofs.Common.{ap, ◌∙◌}
use Rattle.model.specs.Timetables.{opened, window_timetable}
use Rattle.model.specs.WindowLists.{overlap}
use Rattle.timetable.proofs.Sequences.{no_windows}
use Rattle.timetable.proofs.window_list.WindowList.bare.Goals as goal

pub returns : goal.returns
unfolding opened
returns c n vs t = ap (window_timetable overlap 1) c.new.ensures.items ∙ no_windows
