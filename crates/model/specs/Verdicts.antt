-- The verdict on a module. Two timetables decide: the given one, which partitions it names; and the one that runs, which
-- ticks each partition has. Today they are the same.
use Rattle.std.specs.Prelude.{◌≡◌, ℕ, ◌<◌, ◌≤◌, Bool, true, not, ◌&&◌, [], ◌∷◌, length, Some, None, Option}
use Rattle.model.specs.Modules.{Module, HasTask, has_partition, module_within}
use Rattle.model.specs.Answers.{Answer, granted, refused}
use Rattle.model.specs.Timetables.{Timetable, LawfulTimetable}
use Rattle.model.specs.Orders.{Order, LawfulOrder}
use Rattle.model.specs.InTime.{Partition, partition, size, Passes, InTime, passes, in_time, all_in_time}
use Rattle.model.specs.Ranges.{all_below, first_found, least_below, first_such}
use Rattle.model.specs.declared.verdict.LateTask.{LateTask}
use Rattle.model.specs.declared.verdict.Verdict.{Verdict}
use Rattle.model.specs.declared.verdict.Verdict.TheVariants.{Cleared as is_cleared, Foreign as is_foreign, Late as is_late}

-- A timetable, an order and a module that keep their laws and limits.
pub record Lawful (t : Timetable) (order : Order) (m : Module) : Type 0 where
  pub timetable : LawfulTimetable t
  pub local_order : LawfulOrder order
  pub limits : module_within m ≡ true

-- The timetable names only partitions that the module has.
abbrev pub NamesOwn : Timetable → Module → Type 0
NamesOwn t m = (x p : ℕ) → x < t.frame → t.owner x ≡ Some p → p < length m

-- every task of the module is in time
abbrev pub AllInTime : Timetable → Order → Module → Type 0
AllInTime t order m = (p i : ℕ) → HasTask m p i → InTime (partition t order m p) t.frame i

-- A cleared module: the given timetable names only its partitions, and every task is in time on the one that runs.
pub record Cleared (given running : Timetable) (order : Order) (m : Module) : Type 0 where
  pub names_own : NamesOwn given m
  pub in_time : AllInTime running order m

-- whether the module has the owner of a place, if it has one
unfoldable pub owner_known : Module → Option ℕ → Bool
owner_known m None = true
owner_known m (Some p) = has_partition m p

-- whether the module is cleared
unfoldable pub cleared : Timetable → Timetable → Order → Module → Bool
cleared given running order m =
    all_below (λ x. owner_known m (given.owner x)) given.frame &&
    all_below (λ p. all_in_time (partition running order m p) running.frame) (length m)

-- the first place that belongs to a partition which the module lacks
unfoldable pub foreign_place : Timetable → Module → Option ℕ
foreign_place t m = least_below (λ x. not (owner_known m (t.owner x))) t.frame

-- the first start at which task i does not pass
unfoldable pub failing_start : Partition → ℕ → ℕ → Option ℕ
failing_start p f i = least_below (λ s. not (passes p i s)) f

-- of the tasks that are not in time, the one that goes first
unfoldable pub first_late : Partition → ℕ → Option ℕ
first_late p f = first_such p.before (λ i. not (in_time p f i)) (size p)

-- task i of partition n, late at the start s
unfoldable pub late_at : ℕ → ℕ → Option ℕ → Option LateTask
late_at n i None = None
late_at n i (Some s) = Some (record { partition = n; task = i; start = s })

-- the first task that is not in time, if there is one, with the first start at which it does not pass
unfoldable pub late_task : Partition → ℕ → ℕ → Option ℕ → Option LateTask
late_task p f n None = None
late_task p f n (Some i) = late_at n i (failing_start p f i)

-- the finding on partition n
unfoldable pub finding : Timetable → Order → Module → ℕ → Option LateTask
finding t order m n = late_task (partition t order m n) t.frame n (first_late (partition t order m n) t.frame)

-- the verdict by a foreign place, if there is one, and the first finding, if there is one
unfoldable pub verdict_by : Option ℕ → Option LateTask → Verdict
verdict_by (Some x) late = is_foreign x
verdict_by None (Some l) = is_late l
verdict_by None None = is_cleared

-- The first foreign place; failing that, the first late task of the lowest partition that has one; cleared otherwise.
unfoldable pub verdict_on : Timetable → Timetable → Order → Module → Verdict
verdict_on given running order m = verdict_by (foreign_place given m) (first_found (finding running order m) (length m))

-- the number and values that a verdict answers
abbrev pub verdict_answer : Verdict → Answer (Unit {0})
verdict_answer is_cleared = granted tt
verdict_answer (is_foreign x) = refused 21 (x ∷ [])
verdict_answer (is_late l) = refused 22 (l.partition ∷ l.task ∷ l.start ∷ [])

-- A place whose owner the module lacks, the first of the kind.
pub record FirstForeign (t : Timetable) (m : Module) (x : ℕ) : Type 0 where
  pub in_frame : x < t.frame
  pub owner : ℕ
  pub owned : t.owner x ≡ Some owner
  pub lacking : length m ≤ owner
  pub first : (y p : ℕ) → y < x → t.owner y ≡ Some p → p < length m

-- A task with the first start at which it does not pass; tasks that go before it and partitions below it are in time.
pub record FirstLate (t : Timetable) (order : Order) (m : Module) (l : LateTask) : Type 0 where
  pub exists : HasTask m l.partition l.task
  pub in_frame : l.start < t.frame
  pub stuck : Passes (partition t order m l.partition) l.task l.start → ⊥
  pub first_start : (s : ℕ) → s < l.start → Passes (partition t order m l.partition) l.task s
  pub first_task : (j : ℕ) → HasTask m l.partition j → (partition t order m l.partition).before j l.task ≡ true →
      InTime (partition t order m l.partition) t.frame j
  pub first_partition : (p i : ℕ) → p < l.partition → HasTask m p i → InTime (partition t order m p) t.frame i

-- what a verdict says
abbrev pub Says : Timetable → Timetable → Order → Module → Verdict → Type 0
Says given running order m is_cleared = Cleared given running order m
Says given running order m (is_foreign x) = FirstForeign given m x
Says given running order m (is_late l) = NamesOwn given m × FirstLate running order m l
