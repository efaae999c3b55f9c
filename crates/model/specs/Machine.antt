-- The plain machine: what each call answers, and the state after it.
use Rattle.std.specs.Prelude.{ℕ, ◌+◌, min, Bool, false, cond, ◌&&◌, List, [], ◌∷◌, ◌++◌, length, is_some, Some, None, Ok, Err, Option, Result, ◌==◌, nat_le, nat_lt, slice_index_or}
use Rattle.model.specs.declared.call.Call.{Call}
use Rattle.model.specs.declared.call.Request.{Request}
use Rattle.model.specs.declared.job.Job.{Job}
use Rattle.model.specs.declared.job.TaskState.{TaskState}
use Rattle.model.specs.declared.refusal.Fault.{Fault}
use Rattle.model.specs.declared.refusal.Refusal.{Refusal}
use Rattle.model.specs.declared.reply.Progress.{Progress}
use Rattle.model.specs.declared.reply.Reply.{Reply}
use Rattle.model.specs.declared.reply.Turn.{Turn}
use Rattle.model.specs.declared.task.Task.{Task}
use Rattle.model.specs.declared.task_record.TaskRecord.{TaskRecord}
use Rattle.model.specs.Modules.{Module, task_of, tasks_of, has_partition}
use Rattle.model.specs.Timetables.{Timetable, owner_at, owned_by}
use Rattle.model.specs.Orders.{Order, record_of}
use Rattle.model.specs.Ranges.{first_such}
use Rattle.model.specs.declared.refusal.Refusal.TheVariants.{NoSuchPartition, NoSuchTask, TooSoon, NoOpenJob, NoSuchFault, LastTick}
use Rattle.model.specs.declared.call.Request.TheVariants.{Release as release, End as end, Fault as fault, Clear as clear}
use Rattle.model.specs.declared.call.Call.TheVariants.{Tick as tick, Of as call}
use Rattle.model.specs.declared.reply.Reply.TheVariants.{Turn as turn, Due as due, Count as count, Entry as entry, Emptied as emptied}
use Rattle.model.specs.declared.reply.Turn.TheVariants.{Spare as spare, Idle as idle, Ran as ran}
use Rattle.model.specs.declared.reply.Progress.TheVariants.{Open as still_open, Spent as spent}

-- the last tick
abbrev pub last_tick : ℕ
last_tick = 1_000_000_000_000

-- An open job that could run: its task, and the tick of its release.
pub record OpenJob : Type 0 where
  pub of : TaskRecord
  pub since : ℕ

-- A dispatch rule: in partition p, whether one open job goes before another.
abbrev pub DispatchRule : Type 0
DispatchRule = ℕ → OpenJob → OpenJob → Bool

-- jobs go by the local order of their tasks
abbrev pub by_order : Order → DispatchRule
by_order order p a b = order p a.of b.of

-- An engine: the timetable that runs, the dispatch rule, and whether ticks look for late jobs.
pub record Engine : Type 0 where
  pub timetable : Timetable
  pub rule : DispatchRule
  pub looks_for_late : Bool

-- The state of a partition: of each task; its fault entries, oldest first; and how many more were lost.
pub record PartitionState : Type 0 where
  pub tasks : ℕ → TaskState
  pub faults : List Fault
  pub lost : ℕ

-- The state of the machine: the tick that comes next, and the state of each partition.
pub record MachineState : Type 0 where
  pub now : ℕ
  pub partitions : ℕ → PartitionState

-- nothing was released, and nothing refused
abbrev pub untouched : PartitionState
untouched = record { tasks = λ _. record { last = None; job = None }; faults = []; lost = 0 }

-- a new machine: at the start tick, or at the last tick if that is lower
abbrev pub new : ℕ → MachineState
new start = record { now = min start last_tick; partitions = λ _. untouched }

-- The tick, of partition p with the tasks ks, at the tick `now`, in the task states xs.

-- when the open job was released
unfoldable pub since_of : Option Job → ℕ
since_of None = 0
since_of (Some b) = b.released

-- the open job of task i that was released at the tick a, as a dispatch rule sees it
abbrev pub open_job : List Task → ℕ → ℕ → OpenJob
open_job ks i a = record { of = record_of ks i; since = a }

-- the task whose open job goes first
unfoldable pub chosen : Engine → ℕ → List Task → (ℕ → TaskState) → Option ℕ
chosen g p ks xs =
    let job : ℕ → OpenJob = λ i. open_job ks i (since_of (xs i).job) in
    first_such (λ j k. g.rule p (job j) (job k)) (λ i. is_some (xs i).job) (length ks)

-- the task that runs: the chosen one, if p owns the tick
unfoldable pub runner : Engine → ℕ → List Task → ℕ → (ℕ → TaskState) → Option ℕ
runner g p ks now xs = cond (owned_by p (owner_at g.timetable now)) (chosen g p ks xs) None

-- whether task i is the one that runs
unfoldable pub is_runner : Option ℕ → ℕ → Bool
is_runner None i = false
is_runner (Some k) i = i == k

-- a job of cost c after one tick more: it closes as spent when it has run c ticks
unfoldable pub one_on : ℕ → Option Job → Option Job
one_on c None = None
one_on c (Some b) = cond (nat_le c (b.ran + 1)) None (Some (record { released = b.released; ran = b.ran + 1 }))

-- task i when the tick's work is done, and no job has closed as late yet
unfoldable pub worked : Engine → ℕ → List Task → ℕ → (ℕ → TaskState) → ℕ → TaskState
worked g p ks now xs i =
    cond (is_runner (runner g p ks now xs) i) (record { last = (xs i).last; job = one_on (task_of ks i).cost (xs i).job }) (xs i)

-- the job is still open at the tick `now`, d ticks after its release
unfoldable pub overdue : ℕ → ℕ → Option Job → Bool
overdue d now None = false
overdue d now (Some b) = nat_le (b.released + d) now

-- the tick closes the job of task i as late
unfoldable pub late : Engine → ℕ → List Task → ℕ → (ℕ → TaskState) → ℕ → Bool
late g p ks now xs i = g.looks_for_late && overdue (task_of ks i).deadline (now + 1) (worked g p ks now xs i).job

-- the task with no open job
unfoldable pub closed : TaskState → TaskState
closed x = record { last = x.last; job = None }

-- the partition after the tick
unfoldable pub ticked : Engine → ℕ → List Task → ℕ → PartitionState → PartitionState
ticked g p ks now h =
    let done = worked g p ks now h.tasks in
    record { tasks = λ i. cond (late g p ks now h.tasks i) (closed (done i)) (done i); faults = h.faults; lost = h.lost }

-- how a job stands after it ran
unfoldable pub progress : Option Job → Progress
progress None = spent
progress (Some b) = still_open

-- what the tick answers by the chosen task of its owner p
unfoldable pub turn_reply : ℕ → List Task → (ℕ → TaskState) → Option ℕ → Turn
turn_reply p ks xs None = idle p
turn_reply p ks xs (Some i) = ran p i (progress (one_on (task_of ks i).cost (xs i).job))

-- what the tick answers by its owner
unfoldable pub tick_reply : Engine → Module → MachineState → Option ℕ → Turn
tick_reply g m st None = spare
tick_reply g m st (Some p) =
    turn_reply p (tasks_of m p) (st.partitions p).tasks (chosen g p (tasks_of m p) (st.partitions p).tasks)

-- Requests to a partition with the tasks ks, in the state h.

-- the first tick at which a task of period t may be released, by the tick of its last release
unfoldable pub ready : ℕ → Option ℕ → ℕ
ready t None = 0
ready t (Some l) = l + t

-- refused with n, unless the test holds
unfoldable pub unless : Bool → Refusal → Option Refusal → Option Refusal
unless holds n rest = cond holds rest (Some n)

-- why a request is refused, if it is
unfoldable pub refusal : List Task → ℕ → PartitionState → Request → Option Refusal
refusal ks now h (release i) =
    unless (nat_lt i (length ks)) NoSuchTask (unless (nat_le (ready (task_of ks i).period (h.tasks i).last) now) TooSoon None)
refusal ks now h (end i) = unless (nat_lt i (length ks)) NoSuchTask (unless (is_some (h.tasks i).job) NoOpenJob None)
refusal ks now h (fault k) = unless (nat_lt k (length h.faults)) NoSuchFault None
refusal ks now h clear = None

-- how many ticks the open job has run
unfoldable pub ran_of : Option Job → ℕ
ran_of None = 0
ran_of (Some b) = b.ran

-- the answer to a request that is not refused
unfoldable pub answered : List Task → ℕ → PartitionState → Request → Reply
answered ks now h (release i) = due (now + (task_of ks i).deadline)
answered ks now h (end i) = count (ran_of (h.tasks i).job)
answered ks now h (fault k) = entry (slice_index_or h.faults k (record { refusal = NoSuchFault; task = 0; tick = 0 }))
answered ks now h clear = emptied (length h.faults) h.lost

-- a task that is released now: a job opens with count 0
unfoldable pub released : ℕ → TaskState
released now = record { last = Some now; job = Some (record { released = now; ran = 0 }) }

-- the states xs of tasks or partitions, with x for number i
unfoldable pub put : {A : Type 0} → (ℕ → A) → ℕ → A → ℕ → A
put xs i x j = cond (j == i) x (xs j)

-- the partition after a request that is not refused
unfoldable pub obeyed : ℕ → PartitionState → Request → PartitionState
obeyed now h (release i) = record { tasks = put h.tasks i (released now); faults = h.faults; lost = h.lost }
obeyed now h (end i) = record { tasks = put h.tasks i (closed (h.tasks i)); faults = h.faults; lost = h.lost }
obeyed now h (fault k) = h
obeyed now h clear = record { tasks = h.tasks; faults = []; lost = 0 }

-- one fault more: after 8 entries it is lost, and the lost count stops at 65535
unfoldable pub noted : PartitionState → Fault → PartitionState
noted h f =
    cond (nat_lt (length h.faults) 8)
    (record { tasks = h.tasks; faults = h.faults ++ (f ∷ []); lost = h.lost })
    (record { tasks = h.tasks; faults = h.faults; lost = min (h.lost + 1) 65535 })

-- the partition after a refusal: a refused release or end adds a fault entry
unfoldable pub refused_of : ℕ → PartitionState → Request → Refusal → PartitionState
refused_of now h (release i) n = noted h (record { refusal = n; task = i; tick = now })
refused_of now h (end i) n = noted h (record { refusal = n; task = i; tick = now })
refused_of now h (fault k) n = h
refused_of now h clear n = h

-- the answer to a request
unfoldable pub told : Option Refusal → Reply → Result Reply Refusal
told None a = Ok a
told (Some n) a = Err n

-- the partition after a request
unfoldable pub asked : ℕ → PartitionState → Request → Option Refusal → PartitionState
asked now h a None = obeyed now h a
asked now h a (Some n) = refused_of now h a n

-- the answer to a call
unfoldable pub reply : Engine → Module → MachineState → Call → Result Reply Refusal
reply g m st tick = cond (nat_lt st.now last_tick) (Ok (turn (tick_reply g m st (owner_at g.timetable st.now)))) (Err LastTick)
reply g m st (call p a) =
    cond (has_partition m p)
    (told (refusal (tasks_of m p) st.now (st.partitions p) a) (answered (tasks_of m p) st.now (st.partitions p) a))
    (Err NoSuchPartition)

-- the state after a call
unfoldable pub after : Engine → Module → MachineState → Call → MachineState
after g m st tick =
    cond (nat_lt st.now last_tick)
    (record { now = st.now + 1; partitions = λ p. ticked g p (tasks_of m p) st.now (st.partitions p) }) st
after g m st (call p a) =
    let asked_p = asked st.now (st.partitions p) a (refusal (tasks_of m p) st.now (st.partitions p) a) in
    cond (has_partition m p) (record { now = st.now; partitions = put st.partitions p asked_p }) st
