-- Refused calls of a running module, by their numbers.
use Rattle.std.specs.Prelude.{ℕ}
use Rattle.model.specs.declared.refusal.Refusal.{Refusal}
use Rattle.model.specs.declared.refusal.Refusal.TheVariants as refusal

-- the number of a refusal
abbrev pub number : Refusal → ℕ
number refusal.NotCleared = 30
number refusal.NoSuchPartition = 31
number refusal.NoSuchTask = 32
number refusal.TooSoon = 33
number refusal.NoOpenJob = 34
number refusal.NoSuchFault = 35
number refusal.LastTick = 41
