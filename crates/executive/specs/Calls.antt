-- What the calls of a running module answer and leave.
use Rattle.std.specs.Prelude.{◌≡◌, ℕ, false, cond, Ok, Err, Result, nat_lt, vec_len}
use Rattle.model.specs.declared.call.Call.{Call}
use Rattle.model.specs.declared.call.Call.TheVariants.{Tick}
use Rattle.model.specs.declared.refusal.Refusal.{Refusal}
use Rattle.model.specs.declared.refusal.Refusal.TheVariants.{NoSuchPartition, NotCleared}
use Rattle.model.specs.declared.reply.Reply.{Reply}
use Rattle.model.specs.declared.reply.Reply.TheVariants as reply
use Rattle.model.specs.Machine.{DispatchRule, MachineState, reply as replied, after}
use Rattle.model.specs.FlightRecords.{runs}
use Rattle.model.specs.Timetables.{Timetable}
use Rattle.executive.specs.declared.running.Running.{Running}
use Rattle.executive.specs.States.{clears, engine_of, sealed_module, state_in, told_verdict}

-- Of a cleared module a call has the machine's answer, and leaves the machine's state; of any other it is refused with 30
-- and changes nothing. The sealed part stays as it is.
pub record Answered {T D : Type 0} (means : T → Timetable) (rule : D → DispatchRule) (old new : Running T D) (c : Call) (r : Result Reply Refusal) : Type 0 where
  pub answer : r ≡ cond (clears (told_verdict old.sealed)) (replied (engine_of means rule old.sealed) (sealed_module old.sealed) (state_in old) c) (Err NotCleared)
  pub state : state_in new ≡ cond (clears (told_verdict old.sealed)) (after (engine_of means rule old.sealed) (sealed_module old.sealed) (state_in old) c) (state_in old)
  pub «sealed» : new.sealed ≡ old.sealed

-- the number of the table that a request to partition p goes to, or why the request goes to none
abbrev pub admitted : {T D : Type 0} → Running T D → ℕ → Result ℕ Refusal
admitted r p = cond (clears (told_verdict r.sealed)) (cond (nat_lt p (vec_len r.tables)) (Ok p) (Err NoSuchPartition)) (Err NotCleared)

-- what a clear answers, as the machine's reply
abbrev pub emptied_of : ℕ × ℕ → Reply
emptied_of x = reply.Emptied x.0 x.1

-- A tick that answers r writes the state of no task but the one that ran, and no fault entry or lost count.
pub record OnlyRunnerWritten (old new : MachineState) (r : Result Reply Refusal) : Type 0 where
  pub others : (p i : ℕ) → runs p i (record { call = Tick; answer = r }) ≡ false → (new.partitions p).tasks i ≡ (old.partitions p).tasks i
  pub faults : (p : ℕ) → (new.partitions p).faults ≡ (old.partitions p).faults
  pub lost : (p : ℕ) → (new.partitions p).lost ≡ (old.partitions p).lost
