-- The tests and answers that code computes say what the relations say.
use Rattle.std.specs.Prelude.{◌≡◌, ℕ, ◌≤◌, true, ◌↔◌, List, Some, None, Decides}
use Rattle.model.specs.declared.task.Task.{Task}
use Rattle.model.specs.declared.verdict.Verdict.{Verdict}
use Rattle.model.specs.declared.window.Window.{Window}
use Rattle.model.specs.Modules.{Module, module_within}
use Rattle.model.specs.Answers.{granted}
use Rattle.model.specs.WindowLists.{overlap, list_answer}
use Rattle.model.specs.Timetables.{Timetable, window_timetable}
use Rattle.model.specs.Orders.{Order}
use Rattle.model.specs.InTime.{Partition, passes, Passes, in_time, InTime}
use Rattle.model.specs.Verdicts.{Lawful, cleared, Cleared, verdict_on, Says}
use Rattle.model.specs.Planning.{Enough, least_q, LeastQ, plan}

-- The tests decide whether a task passes, whether it is in time, and whether a module is cleared.
pub record TestsDecide : Type 0 where
  pub passing : (p : Partition) (i s : ℕ) → Decides (passes p i s) (Passes p i s)
  pub being_in_time : (p : Partition) (f i : ℕ) → Decides (in_time p f i) (InTime p f i)
  pub clearing : (given running : Timetable) (order : Order) (m : Module) → Decides (cleared given running order m) (Cleared given running order m)

-- A verdict is the module's exactly when what it says holds.
abbrev pub VerdictIsDecided : Type 0
VerdictIsDecided =
    (given running : Timetable) (order : Order) (m : Module) → Lawful running order m → (v : Verdict) →
    (verdict_on given running order m ≡ v) ↔ Says given running order m v

-- The least q is the least that is enough, and there is none where no q up to f is enough. More than enough is enough.
pub record LeastQIsDecided : Type 0 where
  pub found : (order : Order) (p : ℕ) (ks : List Task) (f q : ℕ) → (least_q order p ks f ≡ Some q) ↔ LeastQ order p ks f q
  pub missing : (order : Order) (p : ℕ) (ks : List Task) (f : ℕ) →
      (least_q order p ks f ≡ None) ↔ ((q : ℕ) → q ≤ f → Enough order p ks f q → ⊥)
  pub more_is_enough : (order : Order) (p : ℕ) (ks : List Task) (f q more : ℕ) → q ≤ more → Enough order p ks f q → Enough order p ks f more

-- The windows of a plan are an allowed list, and with them the module is cleared.
abbrev pub PlansClear : Type 0
PlansClear =
    (order : Order) (m : Module) (f n : ℕ) (ws : List Window) → module_within m ≡ true → plan order m f n ≡ granted ws →
    (list_answer overlap f ws ≡ granted tt) × Cleared (window_timetable overlap f ws) (window_timetable overlap f ws) order m
