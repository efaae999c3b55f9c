-- The task that goes first.
use Rattle.std.specs.Prelude.{◌≡◌, ℕ, ◌<◌, Bool, true, false, cond, List, [], ◌∷◌, length, Some, None, Option, ◌≢◌, slice_index_or}
use Rattle.model.specs.declared.task_record.TaskRecord.{TaskRecord}
use Rattle.model.specs.Orders.{Order, CanExist}

-- of the best so far and one more, the one that goes first
abbrev pub better : (TaskRecord → TaskRecord → Bool) → Option TaskRecord → TaskRecord → TaskRecord
better goes None b = b
better goes (Some a) b = cond (goes b a) b a

-- the best so far and those that are left
abbrev pub first_of : (TaskRecord → TaskRecord → Bool) → Option TaskRecord → List TaskRecord → Option TaskRecord
first_of goes best [] = best
first_of goes best (b ∷ bs) = first_of goes (Some (better goes best b)) bs

-- None goes before it, and it goes before each task of the partition that has another number.
pub record FirstAmong (order : Order) (p : ℕ) (bs : List TaskRecord) (a : TaskRecord) : Type 0 where
  pub member : (k : ℕ) × (k < length bs) × (slice_index_or bs k a ≡ a)
  pub none_before : (k : ℕ) → k < length bs → order p (slice_index_or bs k a) a ≡ false
  pub before_others : (k : ℕ) → k < length bs → p < 8 → CanExist a → CanExist (slice_index_or bs k a) → ((slice_index_or bs k a).number ≢ a.number) → order p a (slice_index_or bs k a) ≡ true

-- there is such a task unless there is none at all
abbrev pub GoesFirst : Order → ℕ → List TaskRecord → Option TaskRecord → Type 0
GoesFirst order p bs None = bs ≡ []
GoesFirst order p bs (Some a) = FirstAmong order p bs a
