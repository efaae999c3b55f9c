-- What is promised of a module that runs, of every flight record.
use Rattle.std.specs.Prelude.{◌≡◌, ℕ, ◌<◌, ◌≤◌, true, false, ◌↔◌, List, ◌∷◌, ◌++◌, length}
use Rattle.model.specs.declared.call.Call.{Call}
use Rattle.model.specs.declared.task.Task.{Task}
use Rattle.model.specs.Modules.{Module, task_in, tasks_of, module_within}
use Rattle.model.specs.Timetables.{Timetable, LawfulTimetable, owned_by}
use Rattle.model.specs.Orders.{Order}
use Rattle.model.specs.Verdicts.{Lawful, NamesOwn, Cleared}
use Rattle.model.specs.Machine.{DispatchRule, open_job, Engine, by_order, new}
use Rattle.model.specs.FlightRecords.{Entry, flown, flight, FlightRecord, LateRecord, releases, ticks, how_many, Served, struck, calls_of, own_entries}

-- the plain machine's engine: its ticks look for late jobs
abbrev pub plain : Timetable → DispatchRule → Engine
plain t rule = record { timetable = t; rule = rule; looks_for_late = true }

-- an executive's engine: its ticks never look for late jobs
abbrev pub executive : Timetable → DispatchRule → Engine
executive t rule = record { timetable = t; rule = rule; looks_for_late = false }

-- No flight record has a late job.
abbrev pub NeverLate : Engine → Module → Type 0
NeverLate g m = (start : ℕ) (r : List Entry) → LateRecord g m start r → ⊥

-- Of every accepted release in a flight record: as soon as D accepted ticks have followed, the entries up to there show
-- that the task has ended the job or that the job has run its full cost.
abbrev pub OnTime : Engine → Module → Type 0
OnTime g m =
    (start p i : ℕ) (earlier within later : List Entry) (e : Entry) → FlightRecord g m start (earlier ++ (e ∷ (within ++ later))) →
    releases p i e ≡ true → (task_in m p i).deadline ≤ how_many ticks within → Served p i (task_in m p i).cost within

-- The executive gives the plain machine's answers, and comes to its states, on every list of calls.
abbrev pub AsPlain : Timetable → DispatchRule → Module → Type 0
AsPlain t rule m =
    (start : ℕ) (cs : List Call) →
    (flight (executive t rule) m (new start) cs ≡ flight (plain t rule) m (new start) cs) ×
    (flown (executive t rule) m (new start) cs ≡ flown (plain t rule) m (new start) cs)

-- Punctual: a cleared module is on time, on the plain machine and on the executive.
abbrev pub Punctual : Type 0
Punctual =
    (given running : Timetable) (order : Order) (m : Module) → Lawful running order m → Cleared given running order m →
    OnTime (plain running (by_order order)) m × OnTime (executive running (by_order order)) m

-- Faithful: on a cleared module the executive does as the plain machine does.
abbrev pub Faithful : Type 0
Faithful =
    (given running : Timetable) (order : Order) (m : Module) → Lawful running order m → Cleared given running order m →
    AsPlain running (by_order order) m

-- Exact: a module whose given timetable names only its own partitions is not cleared exactly when the plain machine, started
-- with it at some tick, has a flight record with a late job.
abbrev pub Exact : Type 0
Exact =
    (given running : Timetable) (order : Order) (m : Module) → Lawful running order m → NamesOwn given m →
    (Cleared given running order m → ⊥) ↔ ((start : ℕ) × (r : List Entry) × LateRecord (plain running (by_order order)) m start r)

-- Under any dispatch rule, a module that is never late is on time, and the executive does as the plain machine does.
abbrev pub AnyRule : Type 0
AnyRule =
    (t : Timetable) (rule : DispatchRule) (m : Module) → module_within m ≡ true → NeverLate (plain t rule) m →
    OnTime (plain t rule) m × OnTime (executive t rule) m × AsPlain t rule m

-- Two engines treat partition p with the tasks ks alike: it owns the same places of one frame, and its jobs go by one rule.
pub record Alike (p : ℕ) (ks : List Task) (g h : Engine) : Type 0 where
  pub frame : g.timetable.frame ≡ h.timetable.frame
  pub places : (x : ℕ) → x < g.timetable.frame → owned_by p (g.timetable.owner x) ≡ owned_by p (h.timetable.owner x)
  pub rule : (i j a b : ℕ) → i < length ks → j < length ks →
      g.rule p (open_job ks i a) (open_job ks j b) ≡ h.rule p (open_job ks i a) (open_job ks j b)
  pub looks_for_late : g.looks_for_late ≡ h.looks_for_late

-- Isolated: two modules with the same tasks in partition p, on engines that treat p alike, started at one tick. Strike from
-- a flight record of each the calls that name other partitions: where the same calls are left in the same order, p's calls
-- and p's ticks have the same answers, refused ones too.
abbrev pub Isolated : Type 0
Isolated =
    (g h : Engine) (m n : Module) (p : ℕ) → LawfulTimetable g.timetable → p < length m → p < length n → tasks_of m p ≡ tasks_of n p →
    Alike p (tasks_of m p) g h → (start : ℕ) (r s : List Entry) → FlightRecord g m start r → FlightRecord h n start s →
    calls_of (struck p r) ≡ calls_of (struck p s) →
    own_entries g.timetable p (new start).now r ≡ own_entries h.timetable p (new start).now s
