use Rattle.std.proofs.Common.{◌≡◌, drop, None}
use Rattle.model.specs.WindowLists.{windows_answer, overlap}
use Rattle.windows.proofs.check.check_list.Given as goal

-- what is left of the list decides
abbrev pub invariant-loop-i : goal.invariant-loop-i
invariant-loop-i l =
    windows_answer overlap l.frame l.i l.previous (drop l.i l.windows) ≡
    windows_answer overlap l.frame 0 None l.windows
