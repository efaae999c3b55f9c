-- One partition of the plain machine by itself: the machine that the schedulability proofs speak of, and what they show.
use Rattle.std.proofs.Common.{◌≡◌, ℕ, ◌+◌, ◌<◌, ◌≤◌, Bool, true, false, cond, ◌&&◌, ltb, leb, ◌⊎◌, List, [], ◌∷◌, is_some, None, Option}
use Rattle.model.specs.declared.job.TaskState.{TaskState}
use Rattle.model.specs.Ranges.{first_such}
use Rattle.model.specs.InTime.{Partition, size, C, T, D, Passes}
use Rattle.model.specs.Machine.{put, closed, is_runner, one_on, overdue, ready, released}

-- Costs, deadlines and periods keep their limits, and the order is one.
pub record Proper (p : Partition) : Type 0 where
  pub costs : (i : ℕ) → i < size p → (1 ≤ C p i) × (C p i ≤ D p i) × (D p i ≤ T p i)
  pub irreflexive : (i : ℕ) → p.before i i ≡ false
  pub transitive : (i j k : ℕ) → p.before i j ≡ true → p.before j k ≡ true → p.before i k ≡ true
  pub total : (i j : ℕ) → i < size p → j < size p → (i ≡ j) ⊎ ((p.before i j ≡ true) ⊎ (p.before j i ≡ true))

pub record State : Type 0 where
  pub now : ℕ
  pub tasks : ℕ → TaskState

pub data Event : Type 0 where
  tick : Event
  release : ℕ → Event
  end : ℕ → Event

abbrev pub fresh : ℕ → State
fresh start = record { now = start; tasks = λ _. record { last = None; job = None } }

-- whether the task has an open job
abbrev pub is_open : (ℕ → TaskState) → ℕ → Bool
is_open xs i = is_some (xs i).job

-- the task that runs in the tick to come
unfoldable pub runner : Partition → State → Option ℕ
runner p st = cond (p.owns st.now) (first_such p.before (is_open st.tasks) (size p)) None

-- the tasks when the tick's work is done, and no job has closed as late yet
unfoldable pub after_work : Partition → State → ℕ → TaskState
after_work p st j =
    cond (is_runner (runner p st) j) (record { last = (st.tasks j).last; job = one_on (C p j) (st.tasks j).job }) (st.tasks j)

-- a tick in this state closes the job of task i as late
unfoldable pub late : Partition → State → ℕ → Bool
late p st i = overdue (D p i) (st.now + 1) (after_work p st i).job

-- whether task i may be released
unfoldable pub may_release : Partition → State → ℕ → Bool
may_release p st i = ltb i (size p) && leb (ready (T p i) (st.tasks i).last) st.now

-- whether task i has a job to end
unfoldable pub may_end : Partition → State → ℕ → Bool
may_end p st i = ltb i (size p) && is_some (st.tasks i).job

-- An event that is refused changes nothing.
unfoldable pub step : Partition → State → Event → State
step p st tick = record {
  now = st.now + 1;
  tasks = λ j. cond (late p st j) (closed (after_work p st j)) (after_work p st j);
}
step p st (release i) = cond (may_release p st i) (record { now = st.now; tasks = put st.tasks i (released st.now) }) st
step p st (end i) = cond (may_end p st i) (record { now = st.now; tasks = put st.tasks i (closed (st.tasks i)) }) st

unfoldable pub run : Partition → State → List Event → State
run p st [] = st
run p st (e ∷ es) = run p (step p st e) es

-- Where task i does not pass at a start s, a run from s has a late job, of i or of a task before it, within D ticks.
abbrev pub InTimeIsNeeded : Type 0
InTimeIsNeeded =
    (p : Partition) (i s : ℕ) → Proper p → i < size p → (Passes p i s → ⊥) →
    (es : List Event) × (j : ℕ) × (j < size p) × ((j ≡ i) ⊎ (p.before j i ≡ true)) × (late p (run p (fresh s) es) j ≡ true) × ((run p (fresh s) es).now < s + D p i)
