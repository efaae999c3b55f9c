-- What is promised of each flight record of a running module, and of the verdict that let it run.
use Rattle.std.specs.Prelude.{◌≡◌, List, ◌∷◌, ◌++◌, true, ◌↔◌, ℕ, ◌≤◌, ◌<◌, length}
use Rattle.model.specs.declared.entry.Entry.{Entry}
use Rattle.model.specs.declared.verdict.Verdict.{Verdict}
use Rattle.model.specs.declared.verdict.Verdict.TheVariants.{Cleared as is_cleared}
use Rattle.model.specs.Modules.{Module, task_in, tasks_of}
use Rattle.model.specs.Timetables.{Timetable}
use Rattle.model.specs.Orders.{Order}
use Rattle.model.specs.Verdicts.{Lawful, NamesOwn, Cleared, verdict_on}
use Rattle.model.specs.Machine.{DispatchRule, by_order, new}
use Rattle.model.specs.FlightRecords.{flight, FlightRecord, LateRecord, releases, ticks, how_many, Served, struck, calls_of, own_entries}
use Rattle.model.specs.Promises.{plain, executive, Alike}

-- What is promised of a flight record of a module that runs on a timetable under a dispatch rule, begun at the start tick.
-- Faithful: its answers are those of a new plain machine to the same calls.
-- Punctual: as soon as D accepted ticks have followed an accepted release, the entries up to there show that the task has
-- ended the job or that the job has run its full cost.
-- Isolated: another module has the same tasks in partition p, on an executive that treats p alike, begun at the same tick.
-- Strike from this record and from one of the other the calls that name other partitions: where the same calls are left in
-- the same order, p's calls and p's ticks have the same answers. The other module need not be cleared.
pub record Promised (running : Timetable) (rule : DispatchRule) (m : Module) (start : ℕ) (r : List Entry) : Type 0 where
  pub faithful : r ≡ flight (plain running rule) m (new start) (calls_of r)
  pub punctual : (p i : ℕ) (earlier within later : List Entry) (e : Entry) → r ≡ earlier ++ (e ∷ (within ++ later)) →
      releases p i e ≡ true → (task_in m p i).deadline ≤ how_many ticks within → Served p i (task_in m p i).cost within
  pub isolated : (other : Timetable) (other_rule : DispatchRule) (n : Module) (p : ℕ) → p < length m → p < length n → tasks_of m p ≡ tasks_of n p →
      Alike p (tasks_of m p) (executive running rule) (executive other other_rule) →
      (s : List Entry) → FlightRecord (executive other other_rule) n start s → calls_of (struck p r) ≡ calls_of (struck p s) →
      own_entries running p (new start).now r ≡ own_entries other p (new start).now s

-- What a verdict says of late jobs: where the given timetable names only partitions of the module, the verdict is not
-- cleared exactly when the plain machine, started with the module at some tick, has a flight record with a late job.
abbrev pub ExactVerdict : Timetable → Timetable → Order → Module → Verdict → Type 0
ExactVerdict given running order m v =
    NamesOwn given m →
    (v ≡ is_cleared → ⊥) ↔ ((start : ℕ) × (r : List Entry) × LateRecord (plain running (by_order order)) m start r)

-- Every flight record of an executive of a cleared module is as promised.
abbrev pub ClearedKeepsPromises : Type 0
ClearedKeepsPromises =
    (given running : Timetable) (order : Order) (m : Module) → Lawful running order m → Cleared given running order m →
    (start : ℕ) (r : List Entry) → FlightRecord (executive running (by_order order)) m start r → Promised running (by_order order) m start r

-- The verdict on a module says when jobs can be late.
abbrev pub VerdictIsExact : Type 0
VerdictIsExact =
    (given running : Timetable) (order : Order) (m : Module) → Lawful running order m → ExactVerdict given running order m (verdict_on given running order m)
