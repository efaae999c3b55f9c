-- Supply and demand of a partition, and what it is for a task to be in time.
use Rattle.std.specs.Prelude.{ℕ, ◌+◌, ◌-◌, ◌*◌, ◌/◌, ◌<◌, ◌≤◌, Bool, cond, List, length, nat_le}
use Rattle.model.specs.declared.task.Task.{Task}
use Rattle.model.specs.Modules.{Module, task_of, tasks_of}
use Rattle.model.specs.Timetables.{Timetable, owner_at, owned_by}
use Rattle.model.specs.Orders.{Order, record_of}
use Rattle.model.specs.Ranges.{sum_below, some_upto, all_below}

-- A partition as the analysis sees it: its tasks, whether task j goes before task i, and whether it owns the tick u.
pub record Partition : Type 0 where
  pub tasks : List Task
  pub before : ℕ → ℕ → Bool
  pub owns : ℕ → Bool

-- partition p with the tasks ks under an order, when it owns the ticks that `owns` says
abbrev pub partition_of : Order → ℕ → List Task → (ℕ → Bool) → Partition
partition_of order p ks owns = record { tasks = ks; before = λ j i. order p (record_of ks j) (record_of ks i); owns = owns }

-- partition p of a module under a timetable and an order
abbrev pub partition : Timetable → Order → Module → ℕ → Partition
partition t order m p = partition_of order p (tasks_of m p) (λ u. owned_by p (owner_at t u))

-- how many tasks the partition has
unfoldable pub size : Partition → ℕ
size p = length p.tasks

-- the cost, period and deadline of task i
abbrev pub C : Partition → ℕ → ℕ
C p i = (task_of p.tasks i).cost

abbrev pub T : Partition → ℕ → ℕ
T p i = (task_of p.tasks i).period

abbrev pub D : Partition → ℕ → ℕ
D p i = (task_of p.tasks i).deadline

-- Supply(p, s, t): how many of the ticks s, s + 1, .., s + t - 1 the partition owns
unfoldable pub supply : Partition → ℕ → ℕ → ℕ
supply p s t = sum_below t (λ u. cond (p.owns (s + u)) 1 0)

-- the sum of f over the tasks that go before i
unfoldable pub sum_before : Partition → ℕ → (ℕ → ℕ) → ℕ
sum_before p i f = sum_below (size p) (λ j. cond (p.before j i) (f j) 0)

-- t / d, rounded up
unfoldable pub ceil : ℕ → ℕ → ℕ
ceil t d = (t + (d - 1)) / d

-- Demand(i, t): the cost of task i, and for each task j that goes before it, its cost × ceil(t / its period)
unfoldable pub demand : Partition → ℕ → ℕ → ℕ
demand p i t = C p i + sum_before p i (λ j. C p j * ceil t (T p j))

-- from the tick s on, some t of 1 .. r ticks supply what task i demands
abbrev pub PassesIn : Partition → ℕ → ℕ → ℕ → Type 0
PassesIn p i r s = (t : ℕ) × (1 ≤ t) × (t ≤ r) × (demand p i t ≤ supply p s t)

-- task i passes at the start s: its demand is supplied by its deadline
abbrev pub Passes : Partition → ℕ → ℕ → Type 0
Passes p i s = PassesIn p i (D p i) s

-- task i is in time: it passes at each start of a frame of f ticks
abbrev pub InTime : Partition → ℕ → ℕ → Type 0
InTime p f i = (s : ℕ) → s < f → Passes p i s

-- whether task i passes at the start s
unfoldable pub passes : Partition → ℕ → ℕ → Bool
passes p i s = some_upto (λ t. nat_le (demand p i t) (supply p s t)) (D p i)

-- whether task i is in time
unfoldable pub in_time : Partition → ℕ → ℕ → Bool
in_time p f i = all_below (passes p i) f

-- whether every task of the partition is in time
unfoldable pub all_in_time : Partition → ℕ → Bool
all_in_time p f = all_below (in_time p f) (size p)
