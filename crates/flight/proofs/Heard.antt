-- The entries of some calls: what they are where the module is cleared and where it is not, and of which calls.
use Rattle.std.proofs.Common.{◌≡◌, Bool, true, false, cond, List, [], ◌∷◌, Err, Result, refl, ap}
use Rattle.model.specs.declared.call.Call.{Call}
use Rattle.model.specs.declared.entry.Entry.{Entry}
use Rattle.model.specs.declared.refusal.Refusal.{Refusal}
use Rattle.model.specs.declared.refusal.Refusal.TheVariants.{NotCleared}
use Rattle.model.specs.declared.reply.Reply.{Reply}
use Rattle.model.specs.FlightRecords.{calls_of, flight}
use Rattle.model.specs.Machine.{Engine, MachineState, after, reply}
use Rattle.model.specs.Modules.{Module}
use Rattle.flight.specs.Flights.{all_refused, heard}

abbrev entry : Call → Result Reply Refusal → Entry
entry c r = record { call = c; answer = r }

pub heard_refused : (g : Engine) (m : Module) (st : MachineState) (cs : List Call) → heard false g m st cs ≡ all_refused cs
heard_refused g m st [] = refl
heard_refused g m st (c ∷ cs) = ap (λ r. entry c (Err NotCleared) ∷ r) (heard_refused g m st cs)

pub heard_flight : (g : Engine) (m : Module) (st : MachineState) (cs : List Call) → heard true g m st cs ≡ flight g m st cs
unfolding flight
heard_flight g m st [] = refl
heard_flight g m st (c ∷ cs) = ap (λ r. entry c (reply g m st c) ∷ r) (heard_flight g m (after g m st c) cs)

pub heard_calls : (v : Bool) (g : Engine) (m : Module) (st : MachineState) (cs : List Call) → calls_of (heard v g m st cs) ≡ cs
heard_calls v g m st [] = refl
heard_calls v g m st (c ∷ cs) = ap (λ r. c ∷ r) (heard_calls v g m (cond v (after g m st c) st) cs)
