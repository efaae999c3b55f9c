-- The deadline order's keys: a deadline, then a task number.
use Rattle.std.specs.Prelude.{Bool, ◌&&◌, ◌||◌, ◌==◌, nat_lt}
use Rattle.model.specs.declared.task_record.TaskRecord.{TaskRecord}
use Rattle.order.specs.declared.by_deadline.DeadlineKey.{DeadlineKey}

abbrev pub deadline_key : TaskRecord → DeadlineKey
deadline_key a = record { deadline = a.task.deadline; number = a.number }

-- the smaller deadline goes first, and of equal deadlines the lower number
abbrev pub sooner : DeadlineKey → DeadlineKey → Bool
sooner a b = nat_lt a.deadline b.deadline || (a.deadline == b.deadline && nat_lt a.number b.number)
