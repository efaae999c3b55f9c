-- The worked modules, computed by the definitions. Listed order unless said.
use Rattle.std.specs.Prelude.{◌≡◌, ℕ, ◌+◌, ◌-◌, ◌<◌, ◌≤◌, true, ◌↔◌, List, [], ◌∷◌, ◌++◌, map, length, drop, replicate, Some, None, Ok, Err, Result}
use Rattle.model.specs.declared.call.Call.{Call}
use Rattle.model.specs.declared.refusal.Fault.{Fault}
use Rattle.model.specs.declared.refusal.Refusal.{Refusal}
use Rattle.model.specs.declared.reply.Progress.{Progress}
use Rattle.model.specs.declared.reply.Reply.{Reply}
use Rattle.model.specs.declared.window.Window.{Window}
use Rattle.model.specs.Modules.{Module, task, tasks_of}
use Rattle.model.specs.Answers.{Answer, granted, refused}
use Rattle.model.specs.WindowLists.{overlap}
use Rattle.model.specs.Timetables.{Timetable, window_timetable, share_timetable, shifted, bare_frame}
use Rattle.model.specs.Orders.{Order, listed, by_deadline}
use Rattle.model.specs.InTime.{Partition, partition, supply, demand, Passes}
use Rattle.model.specs.Verdicts.{Lawful, verdict_on, verdict_answer}
use Rattle.model.specs.Planning.{least_q, plan, written}
use Rattle.model.specs.Refusals.{number}
use Rattle.model.specs.Machine.{Engine, MachineState, PartitionState, by_order, new, reply, after, late, noted, last_tick}
use Rattle.model.specs.declared.entry.Entry.{Entry}
use Rattle.model.specs.FlightRecords.{flight, flown, LateRecord, ticks, releases, ends, runs, how_many, up_to, struck, own_entries}
use Rattle.model.specs.Promises.{plain}
use Rattle.model.specs.declared.refusal.Refusal.TheVariants.{NotCleared, NoSuchPartition, NoSuchTask, TooSoon, NoOpenJob, NoSuchFault, LastTick}
use Rattle.model.specs.declared.call.Request.TheVariants.{Release as release, End as end, Fault as fault, Clear as clear}
use Rattle.model.specs.declared.call.Call.TheVariants.{Tick as tick, Of as call}
use Rattle.model.specs.declared.reply.Reply.TheVariants.{Turn, Due, Count, Entry as FaultEntry, Emptied}
use Rattle.model.specs.declared.reply.Turn.TheVariants.{Spare, Idle, Ran}
use Rattle.model.specs.declared.reply.Progress.TheVariants.{Open as still_open, Spent as spent}

-- a window by its partition, start and length
abbrev pub window : ℕ → ℕ → ℕ → Window
window p s n = record { partition = p; start = s; length = n }

-- Module A: a frame of 10 ticks, 4 for partition 0 and then 1 for partition 1
abbrev pub timetable_A : Timetable
timetable_A = window_timetable overlap 10 (window 0 0 4 ∷ window 1 4 1 ∷ [])

-- its tasks; task 1 of partition 0 has the deadline 19 in A itself
abbrev pub module_A : ℕ → Module
module_A d = (task 2 10 10 ∷ task 3 20 d ∷ []) ∷ (task 1 10 10 ∷ []) ∷ []

-- A with partition 0's tasks exchanged
abbrev pub exchanged_A : Module
exchanged_A = (task 3 20 19 ∷ task 2 10 10 ∷ []) ∷ (task 1 10 10 ∷ []) ∷ []

-- the answer of a verdict under one timetable, given and running
abbrev pub judged : Timetable → Order → Module → Answer (Unit {0})
judged t order m = verdict_answer (verdict_on t t order m)

-- partition 0 of A with that deadline
abbrev pub partition_A : ℕ → Partition
partition_A d = partition timetable_A listed (module_A d) 0

-- the plain machine on A
abbrev pub engine_A : Engine
engine_A = plain timetable_A (by_order listed)

-- an answer: what is replied to a call, or why it is refused
abbrev pub Told : Type 0
Told = Result Reply Refusal

abbrev pub spare : Told
spare = Ok (Turn Spare)

abbrev pub idle : ℕ → Told
idle p = Ok (Turn (Idle p))

abbrev pub ran : ℕ → ℕ → Progress → Told
ran p i f = Ok (Turn (Ran p i f))

abbrev pub due : ℕ → Told
due u = Ok (Due u)

abbrev pub count : ℕ → Told
count n = Ok (Count n)

abbrev pub entry : Fault → Told
entry f = Ok (FaultEntry f)

abbrev pub emptied : ℕ → ℕ → Told
emptied n l = Ok (Emptied n l)

-- the answers to some calls from a start tick, on A with that deadline
abbrev pub answers_A : ℕ → ℕ → List Call → List Told
answers_A d start cs = map (λ e. e.answer) (flight engine_A (module_A d) (new start) cs)

-- the calls of partition 0 that make task 1 late where its deadline is 18
abbrev pub late_calls : List Call
late_calls = call 0 (release 0) ∷ call 0 (release 1) ∷ replicate 10 tick ++ (call 0 (release 0) ∷ replicate 7 tick)

-- the state after them, started at tick 3
abbrev pub late_state : MachineState
late_state = flown engine_A (module_A 18) (new 3) late_calls

-- the whole frame for one partition
abbrev pub alone_1 : Timetable
alone_1 = window_timetable overlap 1 (window 0 0 1 ∷ [])

-- two tasks whose demand is met after 2 ticks, a multiple of their period, and at no other length up to the deadline
abbrev pub tight : Module
tight = (task 1 2 2 ∷ task 1 2 2 ∷ []) ∷ []

-- its partition
abbrev pub tight_0 : Partition
tight_0 = partition alone_1 listed tight 0

-- a partition with 8 fault entries and 65535 lost
abbrev pub full : PartitionState
full = record { tasks = λ _. record { last = None; job = None }; faults = replicate 8 (record { refusal = TooSoon; task = 0; tick = 0 }); lost = 65535 }

-- the state after the tick at which it closes as late
abbrev pub late_after : MachineState
late_after = after engine_A (module_A 18) late_state tick

-- the entries that follow the release of the late job
abbrev pub late_entries : List Entry
late_entries = drop 2 (flight engine_A (module_A 18) (new 3) (late_calls ++ (tick ∷ [])))

-- the entries that follow a release of task 0, which is released again at tick 10
abbrev pub twice_entries : List Entry
twice_entries = drop 1 (flight engine_A (module_A 19) (new 0) (call 0 (release 0) ∷ replicate 10 tick ++ (call 0 (release 0) ∷ tick ∷ [])))

-- a refused call of partition 0, a call of partition 1, a spare tick and a tick of partition 0, from tick 9
abbrev pub mixed_record : List Entry
mixed_record = flight engine_A (module_A 19) (new 9) (call 0 (end 0) ∷ call 1 (release 0) ∷ tick ∷ tick ∷ [])

-- What is computed.
pub record WorkedCases : Type 0 where
  -- A is cleared; with deadline 18 task 1 of partition 0 is not in time, though it passes at start 0
  pub cleared_A : judged timetable_A listed (module_A 19) ≡ granted tt
  pub late_A : judged timetable_A listed (module_A 18) ≡ refused 22 (0 ∷ 1 ∷ 2 ∷ [])
  pub supply_A : (supply (partition_A 19) 4 6 ≡ 0) × (supply (partition_A 19) 4 10 ≡ 4) × (supply (partition_A 19) 4 19 ≡ 7)
  -- with the tasks exchanged the listed order is not cleared, and the deadline order is
  pub exchanged : judged timetable_A listed exchanged_A ≡ refused 22 (0 ∷ 1 ∷ 0 ∷ [])
  pub exchanged_cleared : judged timetable_A by_deadline exchanged_A ≡ granted tt
  -- least q
  pub least_A : (least_q listed 0 (tasks_of (module_A 19) 0) 10 ≡ Some 4) × (least_q listed 0 (tasks_of (module_A 18) 0) 10 ≡ Some 5)
  pub least_57 : least_q listed 0 (task 1 80 80 ∷ task 2 120 120 ∷ []) 57 ≡ Some 2
  pub least_one : (least_q listed 0 (task 1 10 10 ∷ []) 10 ≡ Some 1) × (least_q listed 0 (task 1 10 9 ∷ []) 10 ≡ Some 2)
  -- plans: too long together; no q will do; the checks in their turn; windows end to end
  pub too_long : plan listed ((task 2 4 4 ∷ []) ∷ (task 3 4 4 ∷ []) ∷ []) 4 8 ≡ refused 62 []
  pub no_q : plan listed ((task 2 4 4 ∷ task 3 4 4 ∷ []) ∷ []) 4 8 ≡ refused 61 (0 ∷ [])
  pub checks : (plan listed [] 1025 0 ≡ refused 51 []) × (plan listed (module_A 19) 10 7 ≡ refused 63 [])
  pub room_first : plan listed ((task 2 4 4 ∷ task 3 4 4 ∷ []) ∷ []) 4 7 ≡ refused 63 []
  pub no_frame : plan listed [] 0 8 ≡ refused 51 []
  pub lowest_named : plan listed ((task 1 4 4 ∷ []) ∷ (task 2 4 4 ∷ task 3 4 4 ∷ []) ∷ (task 2 4 4 ∷ task 3 4 4 ∷ []) ∷ []) 4 8 ≡ refused 61 (1 ∷ [])
  pub none_before_sum : plan listed ((task 4 4 4 ∷ []) ∷ (task 1 4 4 ∷ []) ∷ (task 2 4 4 ∷ task 3 4 4 ∷ []) ∷ []) 4 8 ≡ refused 61 (2 ∷ [])
  pub later_kept : written (window 0 0 1 ∷ []) (window 1 1 1 ∷ window 2 2 2 ∷ []) ≡ window 0 0 1 ∷ window 2 2 2 ∷ []
  pub planned : plan listed ((task 1 2 2 ∷ []) ∷ [] ∷ (task 1 4 4 ∷ []) ∷ []) 4 8 ≡ granted (window 0 0 3 ∷ window 2 3 1 ∷ [])
  -- A shifted by 7
  pub shifted_A : ((shifted timetable_A 7).owner 0 ≡ None) × ((shifted timetable_A 7).owner 7 ≡ Some 1)
  -- lists and cycles that are refused open as the bare frame
  pub bare : (window_timetable overlap 10 (window 0 0 4 ∷ window 1 3 1 ∷ []) ≡ bare_frame) × (share_timetable 3 (4 ∷ []) ≡ bare_frame)
  -- a share of a partition that the module lacks
  pub foreign_idle : map (λ e. e.answer) (flight (plain (share_timetable 10 (4 ∷ 1 ∷ 0 ∷ 1 ∷ [])) (by_order listed)) (module_A 19) (new 5) (tick ∷ [])) ≡ idle 3 ∷ []
  pub foreign : judged (share_timetable 10 (4 ∷ 1 ∷ 0 ∷ 1 ∷ [])) listed (module_A 19) ≡ refused 21 (5 ∷ [])
  -- the first frame of A, all tasks released
  pub first_frame : answers_A 19 0 (call 0 (release 0) ∷ call 0 (release 1) ∷ call 1 (release 0) ∷ replicate 10 tick) ≡
      due 10 ∷ due 19 ∷ due 10 ∷ ran 0 0 still_open ∷ ran 0 0 spent ∷ ran 0 1 still_open ∷ ran 0 1 still_open ∷ ran 1 0 spent ∷ replicate 5 spare
  -- release (0, 0) at tick 5: again at 14 is refused, at 15 accepted
  pub too_soon : answers_A 19 5 (call 0 (release 0) ∷ replicate 9 tick ++ (call 0 (release 0) ∷ tick ∷ call 0 (release 0) ∷ [])) ≡
      due 15 ∷ replicate 5 spare ++ (ran 0 0 still_open ∷ ran 0 0 spent ∷ idle 0 ∷ idle 0 ∷ Err TooSoon ∷ idle 1 ∷ due 25 ∷ [])
  -- with deadline 18 task 1 is late as `now` becomes 21, so the record has a late job
  pub late_at_21 : (late_state.now ≡ 20) × (late engine_A 0 (tasks_of (module_A 18) 0) 20 (late_state.partitions 0).tasks 1 ≡ true)
  pub late_record_A : LateRecord engine_A (module_A 18) 3 (flight engine_A (module_A 18) (new 3) (late_calls ++ (tick ∷ [])))
  -- the late job is open until then, having run 2 ticks, and closed after
  pub late_closes : (reply engine_A (module_A 18) late_state (call 0 (end 1)) ≡ count 2) × (late_after.now ≡ 21) ×
      (reply engine_A (module_A 18) late_after (call 0 (end 1)) ≡ Err NoOpenJob)
  -- 18 accepted ticks after its release it has run 2 ticks of 3, and nobody ended it
  pub late_unserved : (how_many ticks late_entries ≡ 18) × (how_many (runs 0 1) late_entries ≡ 2) × (how_many (ends 0 1) late_entries ≡ 0)
  -- a job's entries stop at the task's next accepted release
  pub next_release_cuts : (length (up_to (releases 0 0) twice_entries) ≡ 10) × (how_many (runs 0 0) (up_to (releases 0 0) twice_entries) ≡ 2) ×
      (how_many (runs 0 0) twice_entries ≡ 3)
  -- calls that name other partitions are struck; of the ticks only partition 0's are its own, and its refused ones are
  pub struck_0 : map (λ e. e.answer) (struck 0 mixed_record) ≡ Err NoOpenJob ∷ spare ∷ idle 0 ∷ []
  pub own_0 : map (λ e. e.answer) (own_entries timetable_A 0 9 mixed_record) ≡ Err NoOpenJob ∷ idle 0 ∷ []
  pub own_refused : map (λ e. e.answer) (own_entries timetable_A 0 last_tick (flight engine_A (module_A 19) (new last_tick) (tick ∷ []))) ≡ Err LastTick ∷ []
  -- the owner's job runs, not the module's first open job
  pub owners_job : (answers_A 19 4 (call 0 (release 0) ∷ tick ∷ []) ≡ due 14 ∷ idle 1 ∷ []) ×
      (answers_A 19 4 (call 0 (release 0) ∷ call 1 (release 0) ∷ tick ∷ []) ≡ due 14 ∷ due 14 ∷ ran 1 0 spent ∷ [])
  -- a release at t itself is not counted: the demand in 2 ticks is 2, and is met by no shorter length
  pub tight_cleared : judged alone_1 listed tight ≡ granted tt
  pub tight_demand : (demand tight_0 1 1 ≡ 2) × (supply tight_0 0 1 ≡ 1) × (demand tight_0 1 2 ≡ 2) × (supply tight_0 0 2 ≡ 2)
  -- refused calls, and the entries that they leave
  pub refusals : answers_A 19 7 (call 2 clear ∷ call 0 (release 2) ∷ call 0 (end 0) ∷ call 0 (fault 1) ∷ call 0 (fault 2) ∷ call 0 clear ∷ call 0 (fault 0) ∷ []) ≡
      Err NoSuchPartition ∷ Err NoSuchTask ∷ Err NoOpenJob ∷ entry (record { refusal = NoOpenJob; task = 0; tick = 7 }) ∷
      Err NoSuchFault ∷ emptied 2 0 ∷ Err NoSuchFault ∷ []
  pub entries : answers_A 19 7 (call 0 (release 0) ∷ call 0 (release 0) ∷ call 0 (end 2) ∷ call 2 (end 9) ∷ call 0 (fault 0) ∷ call 0 (fault 1) ∷ []) ≡
      due 17 ∷ Err TooSoon ∷ Err NoSuchTask ∷ Err NoSuchPartition ∷ entry (record { refusal = TooSoon; task = 0; tick = 7 }) ∷
      entry (record { refusal = NoSuchTask; task = 2; tick = 7 }) ∷ []
  pub lost_one : answers_A 19 0 (replicate 9 (call 0 (end 0)) ++ (call 0 clear ∷ call 0 clear ∷ [])) ≡
      replicate 9 (Err NoOpenJob) ++ (emptied 8 1 ∷ emptied 0 0 ∷ [])
  pub lost_stops : (noted full (record { refusal = TooSoon; task = 0; tick = 0 })).lost ≡ 65535
  -- an ended job answers its count
  pub ended : answers_A 19 0 (call 0 (release 1) ∷ tick ∷ tick ∷ call 0 (end 1) ∷ call 0 (end 1) ∷ []) ≡
      due 19 ∷ ran 0 1 still_open ∷ ran 0 1 still_open ∷ count 2 ∷ Err NoOpenJob ∷ []
  -- the last tick, and a start past it
  pub at_the_end : answers_A 19 (last_tick - 1) (tick ∷ tick ∷ []) ≡ spare ∷ Err LastTick ∷ []
  pub stays_at_the_end : (after engine_A (module_A 19) (new last_tick) tick).now ≡ last_tick
  pub past_the_end : (new (last_tick + 1)).now ≡ last_tick
  pub numbers : map number (NotCleared ∷ NoSuchPartition ∷ NoSuchTask ∷ TooSoon ∷ NoOpenJob ∷ NoSuchFault ∷ LastTick ∷ []) ≡
      30 ∷ 31 ∷ 32 ∷ 33 ∷ 34 ∷ 35 ∷ 41 ∷ []

-- All of them jointly.
pub record WorkedModules : Type 0 where
  -- A keeps every law
  pub lawful_A : Lawful timetable_A listed (module_A 19)
  -- with deadline 18 task 1 fails at the starts 2, 3 and 4 alone
  pub fails_A : (s : ℕ) → s < 10 → (Passes (partition_A 18) 1 s → ⊥) ↔ ((2 ≤ s) × (s ≤ 4))
  -- with the tasks exchanged it fails at every start
  pub exchanged_fails : (s : ℕ) → s < 10 → Passes (partition timetable_A listed exchanged_A 0) 1 s → ⊥
  pub cases : WorkedCases
