-- What is promised of a flight.
use Rattle.std.specs.Prelude.{◌≡◌, ℕ, Bool, true, false, cond, List, [], ◌∷◌, map, Ok, Err, Result, vec_items}
use Rattle.std.specs.declared.alloc.AllocError.{AllocError}
use Rattle.model.specs.declared.call.Call.{Call}
use Rattle.model.specs.declared.entry.Entry.{Entry}
use Rattle.model.specs.declared.refusal.Refusal.TheVariants.{NotCleared}
use Rattle.promises.specs.Promises.{Promised}
use Rattle.model.specs.FlightRecords.{calls_of, flight}
use Rattle.model.specs.Promises.{executive}
use Rattle.model.specs.Machine.{DispatchRule, Engine, MachineState, after, by_order, new, reply}
use Rattle.model.specs.Modules.{Module}
use Rattle.model.specs.Orders.{Order}
use Rattle.model.specs.Timetables.{Timetable}
use Rattle.draft.specs.declared.draft.Draft.{Draft}
use Rattle.draft.specs.Drafts.{module_of}
use Rattle.executive.specs.Sealing.{SealedAs}
use Rattle.executive.specs.declared.sealed.Sealed.{Sealed}
use Rattle.executive.specs.States.{clears, engine_of, sealed_module, told_verdict}
use Rattle.flight.specs.declared.parts.Flight.{Flight}

-- the calls that were made of those given: all, or none where memory was wanting
abbrev pub made_calls : Result (Unit {0}) AllocError → List Call → List Call
made_calls (Ok u) cs = cs
made_calls (Err e) cs = []

-- each call refused with 30
abbrev pub all_refused : List Call → List Entry
all_refused cs = map (λ c. record { call = c; answer = Err NotCleared }) cs

-- each call with its answer, from a state on: the machine's, or 30 where the module is not cleared
abbrev pub heard : Bool → Engine → Module → MachineState → List Call → List Entry
heard cleared g m st [] = []
heard cleared g m st (c ∷ cs) =
    record { call = c; answer = cond cleared (reply g m st c) (Err NotCleared) } ∷ heard cleared g m (cond cleared (after g m st c) st) cs

-- the same of a sealed module, by what its timetable and dispatch rule mean
abbrev pub heard_of : {T D : Type 0} → (T → Timetable) → (D → DispatchRule) → Sealed T D → MachineState → List Call → List Entry
heard_of means rule s st cs = heard (clears (told_verdict s)) (engine_of means rule s) (sealed_module s) st cs

-- A flight of a draft from a tick, by what timetable and order mean. The module is sealed as `seal` says, with the verdict
-- on the draft. The entries are of the calls that were made: of a module that is not cleared each is refused with 30, of a
-- cleared one they are the executive's flight record, and all is kept that is promised of it.
pub record Flown {T O : Type 0} (t : Timetable) (order : Order) (d : Draft) (table : T) (local : O) (tick : ℕ) (calls : List Call) (f : Flight T O) : Type 0 where
  pub sealed_as : SealedAs t order d table local f.sealed
  pub same_calls : calls_of (vec_items f.entries) ≡ made_calls f.extent calls
  pub not_cleared : clears (told_verdict f.sealed) ≡ false → vec_items f.entries ≡ all_refused (made_calls f.extent calls)
  pub flight_record : clears (told_verdict f.sealed) ≡ true →
      vec_items f.entries ≡ flight (executive t (by_order order)) (module_of d) (new tick) (made_calls f.extent calls)
  pub promised : clears (told_verdict f.sealed) ≡ true → Promised t (by_order order) (module_of d) tick (vec_items f.entries)
