-- Tables in which nothing has happened.
use Rattle.std.specs.Prelude.{◌≡◌, List, map, length, replicate}
use Rattle.model.specs.Machine.{untouched}
use Rattle.model.specs.Modules.{Module}
use Rattle.jobs.specs.declared.job_table.JobTable.{JobTable}
use Rattle.jobs.specs.Tables.{state_of, tasks_in}

-- a table for each partition of the module, with its tasks, untouched
pub record Fresh (m : Module) (ts : List JobTable) : Type 0 where
  pub tasks : map tasks_in ts ≡ m
  pub states : map state_of ts ≡ replicate (length m) untouched
