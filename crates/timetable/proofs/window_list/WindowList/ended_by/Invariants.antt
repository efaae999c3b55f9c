use Rattle.std.proofs.Common.{ℕ, ◌-◌, ◌<◌, ◌≤◌, length, get_or}
use Rattle.model.specs.declared.window.Window.{Window}
use Rattle.model.specs.WindowLists.{end_of}
use Rattle.timetable.proofs.window_list.WindowList.ended_by.Given as goal

-- windows below low have ended, and those from high on have not
abbrev pub invariant-loop-low : goal.invariant-loop-low
invariant-loop-low l =
    (l.low ≤ l.high) × (l.high ≤ length l.self.windows.items) ×
    ((i : ℕ) (d : Window) → i < l.low → end_of (get_or l.self.windows.items i d) ≤ l.place) ×
    ((i : ℕ) (d : Window) → l.high ≤ i → i < length l.self.windows.items → l.place < end_of (get_or l.self.windows.items i d))

abbrev pub decreases-loop-low : goal.decreases-loop-low
decreases-loop-low l = l.high - l.low
