-- What a plan comes to for the caller: a number of windows, the list that they were written to, and a cleared module.
use Rattle.std.specs.Prelude.{◌≡◌, ℕ, List, length}
use Rattle.model.specs.declared.window.Window.{Window}
use Rattle.model.specs.Answers.{Answer, granted, refused}
use Rattle.model.specs.Modules.{Module}
use Rattle.model.specs.Orders.{Order}
use Rattle.model.specs.Planning.{written}
use Rattle.model.specs.Timetables.{window_timetable}
use Rattle.model.specs.WindowLists.{list_answer, overlap}
use Rattle.model.specs.Verdicts.{Cleared}

-- how many windows a plan has
abbrev pub counted : Answer (List Window) → Answer ℕ
counted (granted ws) = granted (length ws)
counted (refused n vs) = refused n vs

-- the list after planning: the first windows are the plan's and later ones unchanged; a refusal leaves it as it was
abbrev pub list_after : Answer (List Window) → List Window → List Window
list_after (granted ws) old = written ws old
list_after (refused n vs) old = old

-- the windows are an allowed list for a frame of f ticks, and with them the module is cleared
abbrev pub Clears : Order → Module → ℕ → List Window → Type 0
Clears order m f ws =
    (list_answer overlap f ws ≡ granted tt) × Cleared (window_timetable overlap f ws) (window_timetable overlap f ws) order m
