-- Local orders by their meaning: which of two tasks of a partition goes first.
use Rattle.std.specs.Prelude.{◌≡◌, ℕ, ◌<◌, Bool, true, false, not, ◌&&◌, ◌||◌, List, ◌==◌, ◌≢◌, nat_lt}
use Rattle.model.specs.declared.task.Task.{Task}
use Rattle.model.specs.Modules.{within_limits, task_of}
use Rattle.model.specs.declared.task_record.TaskRecord.{TaskRecord}

-- task i of a list with its number
unfoldable pub record_of : List Task → ℕ → TaskRecord
record_of ks i = record { number = i; task = task_of ks i }

-- An order: in partition p, whether the first record goes before the second.
abbrev pub Order : Type 0
Order = ℕ → TaskRecord → TaskRecord → Bool

-- a record that can exist: its number is below 16, and its task is within the limits
abbrev pub CanExist : TaskRecord → Type 0
CanExist a = (a.number < 16) × (within_limits a.task ≡ true)

-- No record goes before itself, and going before is transitive. In a partition 0 to 7, of two records that can exist and
-- have different numbers, exactly one goes before the other.
pub record LawfulOrder (order : Order) : Type 0 where
  pub irreflexive : (p : ℕ) (a : TaskRecord) → order p a a ≡ false
  pub transitive : (p : ℕ) (a b c : TaskRecord) → order p a b ≡ true → order p b c ≡ true → order p a c ≡ true
  pub one_first : (p : ℕ) (a b : TaskRecord) → p < 8 → CanExist a → CanExist b → (a.number ≢ b.number) → order p a b ≡ not (order p b a)

-- the listed order: the lower task number goes first
abbrev pub listed : Order
listed p a b = nat_lt a.number b.number

-- the deadline order: the smaller deadline goes first, and of equal deadlines the lower task number
abbrev pub by_deadline : Order
by_deadline p a b =
    nat_lt a.task.deadline b.task.deadline || (a.task.deadline == b.task.deadline && listed p a b)

-- an order kept as a table of ranks, by partition and task number: the lower rank goes first
abbrev pub by_rank : (ℕ → ℕ → ℕ) → Order
by_rank rank p a b = nat_lt (rank p a.number) (rank p b.number)

-- All keep the law, a table of ranks if the tasks that a partition can have are given different ranks.
pub record OrdersAreLawful : Type 0 where
  pub by_number : LawfulOrder listed
  pub by_deadlines : LawfulOrder by_deadline
  pub by_ranks : (rank : ℕ → ℕ → ℕ) → ((p i j : ℕ) → p < 8 → i < 16 → j < 16 → rank p i ≡ rank p j → i ≡ j) → LawfulOrder (by_rank rank)
