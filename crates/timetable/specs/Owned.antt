-- A partition by the ticks that it owns alone.
use Rattle.std.specs.Prelude.{ℕ, false, []}
use Rattle.model.specs.InTime.{Partition}
use Rattle.model.specs.Timetables.{Timetable, owner_at, owned_by}

-- partition p under a timetable, whatever its tasks
abbrev pub owning : Timetable → ℕ → Partition
owning t p = record { tasks = []; before = λ _ _. false; owns = λ u. owned_by p (owner_at t u) }
