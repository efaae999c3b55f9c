-- The trace of a tape.
use Rattle.std.specs.Prelude.{◌≡◌, ℕ, List, Some, None, Option}
use Rattle.model.specs.declared.entry.Entry.{Entry}
use Rattle.model.specs.Answers.{Answer, granted, refused}
use Rattle.model.specs.FlightRecords.{flight}
use Rattle.model.specs.Promises.{plain}
use Rattle.model.specs.Machine.{by_order, new}
use Rattle.model.specs.Modules.{Module}
use Rattle.model.specs.Orders.{listed}
use Rattle.model.specs.Timetables.{Timetable, window_timetable}
use Rattle.model.specs.WindowLists.{overlap}
use Rattle.model.specs.Verdicts.{verdict_answer, verdict_on}
use Rattle.schedule.specs.Earliest.{earliest_calls}
use Rattle.tape.specs.Loading.{Contents, Reading, done, faulty, declined}
use Rattle.listing.specs.Lines.{number_line}
use Rattle.trace_listing.specs.Traces.{trace}

-- the plain machine's flight record in the listed order, from tick 0 on, of the calls that release each task of m as early
-- as allowed over f ticks
abbrev pub earliest_record : Timetable → Module → ℕ → List Entry
earliest_record t m f = flight (plain t (by_order listed)) m (new 0) (earliest_calls m f)

-- a text, where the verdict clears; else the verdict's number
abbrev pub verdict_text : Answer (Unit {0}) → List ℕ → List ℕ
verdict_text (granted u) text = text
verdict_text (refused n vs) text = number_line n

-- the trace of a module in a frame of f ticks
abbrev pub module_trace : Timetable → Module → ℕ → List ℕ
module_trace t m f = verdict_text (verdict_answer (verdict_on t t listed m)) (trace (earliest_record t m f))

-- what a tape gives, traced on its windows over one frame; of a fault the number alone
abbrev pub traced : Reading Contents → List ℕ
traced (done c) = module_trace (window_timetable overlap c.frame c.windows) c.partitions c.frame
traced (faulty n vs y o) = number_line n
traced (declined n) = number_line n

-- the text of a refusal; memory that is wanting gives none
abbrev pub traced_if : Option (Reading Contents) → List ℕ → Type 0
traced_if (Some given) text = text ≡ traced given
traced_if None text = ⊥
