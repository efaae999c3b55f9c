-- What is found on a module, from which its verdict is told.
use Rattle.std.specs.Prelude.{ℕ, cond, map, None, Option, nat_lt, slice_index_or}
use Rattle.std.specs.List.{range_with_len}
use Rattle.model.specs.declared.verdict.LateTask.{LateTask}
use Rattle.model.specs.declared.verdict.Verdict.{Verdict}
use Rattle.model.specs.Modules.{Module}
use Rattle.model.specs.Orders.{Order}
use Rattle.model.specs.Ranges.{first_found}
use Rattle.model.specs.Timetables.{Timetable}
use Rattle.model.specs.Verdicts.{finding, foreign_place, verdict_by}
use Rattle.analysis.specs.declared.findings.Findings.{Findings}

-- the first foreign place of the given timetable, and on the one that runs the finding on each partition 0 to 7
abbrev pub findings_on : Timetable → Timetable → Order → Module → Findings
findings_on given running order m = record { foreign = foreign_place given m; partitions = map (finding running order m) (range_with_len 0 8) }

-- the verdict that the findings tell
abbrev pub told_by : Findings → Verdict
told_by f = verdict_by f.foreign (first_found (λ p. slice_index_or f.partitions p None) 8)

-- the finding on partition p, of 0 to 7
abbrev pub found_on : Findings → ℕ → Option LateTask
found_on f p = cond (nat_lt p 8) (slice_index_or f.partitions p None) None
