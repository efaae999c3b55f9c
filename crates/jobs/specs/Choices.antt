-- The choice of the open job that goes first, one task after the other.
use Rattle.std.specs.Prelude.{ℕ, Bool, cond, Some, None, Option}
use Rattle.model.specs.declared.job.Job.{Job}
use Rattle.model.specs.declared.task_record.TaskRecord.{TaskRecord}
use Rattle.model.specs.Machine.{OpenJob}

-- the task of number i and key k, or the best so far, whichever goes first
abbrev pub first_by_key : {K : Type 0} → (K → K → Bool) → ℕ → K → Option (ℕ × K) → Option (ℕ × K)
first_by_key precedes i k None = Some (i, k)
first_by_key precedes i k (Some best) = cond (precedes k best.1) (Some (i, k)) (Some best)

-- the best so far, with one task more, by the keys of open jobs; a task with no open job does not count
abbrev pub better_by : {K : Type 0} → (K → K → Bool) → (OpenJob → K) → TaskRecord → Option Job → Option (ℕ × K) → Option (ℕ × K)
better_by precedes key a None best = best
better_by precedes key a (Some b) best = first_by_key precedes a.number (key (record { of = a; since = b.released })) best
