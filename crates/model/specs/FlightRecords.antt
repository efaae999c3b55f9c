-- Flight records: calls with their answers, in order, and what they say of jobs.
use Rattle.std.specs.Prelude.{◌≡◌, ℕ, ◌+◌, ◌<◌, ◌≤◌, Bool, true, false, cond, not, ◌&&◌, ◌⊎◌, List, [], ◌∷◌, ◌++◌, map, is_ok, Ok, Result, ◌==◌}
use Rattle.model.specs.declared.call.Call.{Call}
use Rattle.model.specs.declared.call.Request.{Request}
use Rattle.model.specs.declared.refusal.Refusal.{Refusal}
use Rattle.model.specs.declared.reply.Reply.{Reply}
use Rattle.model.specs.Modules.{Module, HasTask, tasks_of}
use Rattle.model.specs.Timetables.{Timetable, owner_at, owned_by}
use Rattle.model.specs.Machine.{Engine, MachineState, new, reply, after, late, last_tick}
use Rattle.model.specs.declared.call.Request.TheVariants.{Release as release, End as end, Fault as fault, Clear as clear}
use Rattle.model.specs.declared.call.Call.TheVariants.{Tick as tick, Of as call}
use Rattle.model.specs.declared.reply.Reply.TheVariants.{Turn as turn}
use Rattle.model.specs.declared.reply.Turn.TheVariants.{Ran as ran}
-- A call with its answer is an `Entry`, declared with the types of the code: `call` and `answer`.
pub use Rattle.model.specs.declared.entry.Entry.{Entry}

-- the state after some calls
unfoldable pub flown : Engine → Module → MachineState → List Call → MachineState
flown g m st [] = st
flown g m st (c ∷ cs) = flown g m (after g m st c) cs

-- the record of some calls
unfoldable pub flight : Engine → Module → MachineState → List Call → List Entry
flight g m st [] = []
flight g m st (c ∷ cs) = record { call = c; answer = reply g m st c } ∷ flight g m (after g m st c) cs

-- r is a flight record of a new machine
abbrev pub FlightRecord : Engine → Module → ℕ → List Entry → Type 0
FlightRecord g m start r = (cs : List Call) × (r ≡ flight g m (new start) cs)

-- a tick in this state closes a job as late
abbrev pub ClosesLate : Engine → Module → MachineState → Type 0
ClosesLate g m st =
    (p : ℕ) × (i : ℕ) × HasTask m p i × (st.now < last_tick) × (late g p (tasks_of m p) st.now (st.partitions p).tasks i ≡ true)

-- r is a flight record in which a tick closes a job as late
abbrev pub LateRecord : Engine → Module → ℕ → List Entry → Type 0
LateRecord g m start r =
    (earlier : List Call) × (later : List Call) × (r ≡ flight g m (new start) (earlier ++ (tick ∷ later))) ×
    ClosesLate g m (flown g m (new start) earlier)

-- the call was not refused
unfoldable pub accepted : Result Reply Refusal → Bool
accepted r = is_ok r

-- the call is a tick
unfoldable pub is_tick : Call → Bool
is_tick tick = true
is_tick (call p a) = false

-- the request is the release of task i
unfoldable pub asks_release : ℕ → Request → Bool
asks_release i (release j) = j == i
asks_release i (end j) = false
asks_release i (fault k) = false
asks_release i clear = false

-- the request is the end of task i's job
unfoldable pub asks_end : ℕ → Request → Bool
asks_end i (release j) = false
asks_end i (end j) = j == i
asks_end i (fault k) = false
asks_end i clear = false

-- the call asks partition p for the release of task i
unfoldable pub calls_release : ℕ → ℕ → Call → Bool
calls_release p i tick = false
calls_release p i (call q a) = q == p && asks_release i a

-- the call asks partition p for the end of task i's job
unfoldable pub calls_end : ℕ → ℕ → Call → Bool
calls_end p i tick = false
calls_end p i (call q a) = q == p && asks_end i a

-- the answer names partition p and task i as having run
unfoldable pub names_task : ℕ → ℕ → Result Reply Refusal → Bool
names_task p i (Ok (turn (ran q j f))) = q == p && j == i
names_task p i r = false

-- an accepted tick
unfoldable pub ticks : Entry → Bool
ticks e = is_tick e.call && accepted e.answer

-- an accepted release of task i of partition p
unfoldable pub releases : ℕ → ℕ → Entry → Bool
releases p i e = calls_release p i e.call && accepted e.answer

-- an accepted end of task i of partition p
unfoldable pub ends : ℕ → ℕ → Entry → Bool
ends p i e = calls_end p i e.call && accepted e.answer

-- a tick that runs task i of partition p
unfoldable pub runs : ℕ → ℕ → Entry → Bool
runs p i e = is_tick e.call && names_task p i e.answer

-- how many entries pass the test
unfoldable pub how_many : (Entry → Bool) → List Entry → ℕ
how_many test [] = 0
how_many test (e ∷ r) = cond (test e) 1 0 + how_many test r

-- the entries before the first that passes the test
unfoldable pub up_to : (Entry → Bool) → List Entry → List Entry
up_to test [] = []
up_to test (e ∷ r) = cond (test e) [] (e ∷ up_to test r)

-- What the entries after a job's release say of it, up to the task's next release: it was ended, or it has run c ticks.
abbrev pub Served : ℕ → ℕ → ℕ → List Entry → Type 0
Served p i c within =
    (1 ≤ how_many (ends p i) (up_to (releases p i) within)) ⊎ (c ≤ how_many (runs p i) (up_to (releases p i) within))

-- the call names a partition other than p
unfoldable pub names_other : ℕ → Call → Bool
names_other p tick = false
names_other p (call q a) = not (q == p)

-- the record without the calls that name partitions other than p
unfoldable pub struck : ℕ → List Entry → List Entry
struck p [] = []
struck p (e ∷ r) = cond (names_other p e.call) (struck p r) (e ∷ struck p r)

-- the calls of a record
abbrev pub calls_of : List Entry → List Call
calls_of r = map (λ e. e.call) r

-- the call names p, or is a tick and p owns the place of `now`
unfoldable pub concerns : Timetable → ℕ → ℕ → Call → Bool
concerns t p now tick = owned_by p (owner_at t now)
concerns t p now (call q a) = q == p

-- p's calls and p's ticks with their answers, refused ones too, of a record that begins at `now`
unfoldable pub own_entries : Timetable → ℕ → ℕ → List Entry → List Entry
own_entries t p now [] = []
own_entries t p now (e ∷ r) =
    let rest = own_entries t p (now + cond (ticks e) 1 0) r in
    cond (concerns t p now e.call) (e ∷ rest) rest
