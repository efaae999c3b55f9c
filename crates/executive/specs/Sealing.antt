-- What sealing and starting promise.
use Rattle.std.specs.Prelude.{◌≡◌, ℕ, ◌≤◌, true, List, [], ◌∷◌, length}
use Rattle.model.specs.declared.entry.Entry.{Entry}
use Rattle.model.specs.FlightRecords.{FlightRecord}
use Rattle.model.specs.Promises.{NeverLate, plain}
use Rattle.model.specs.Machine.{DispatchRule, by_order, new}
use Rattle.model.specs.Orders.{Order}
use Rattle.model.specs.Timetables.{Timetable}
use Rattle.model.specs.Verdicts.{verdict_on}
use Rattle.promises.specs.Promises.{ExactVerdict, Promised}
use Rattle.dispatch.specs.declared.by_order.ByOrder.{ByOrder}
use Rattle.draft.specs.declared.draft.Draft.{Draft}
use Rattle.draft.specs.Drafts.{module_of}
use Rattle.executive.specs.declared.running.Running.{Running}
use Rattle.executive.specs.declared.sealed.Sealed.{Sealed}
use Rattle.executive.specs.Calls.{Answered}
use Rattle.executive.specs.States.{clears, engine_of, sealed_module, state_in, told_verdict}

-- The parts of a sealed module, by what timetable and order mean: they are what was given, the verdict is the module's and
-- exact, and where it clears, no job is ever late.
pub record SealedAs {T O : Type 0} (t : Timetable) (order : Order) (d : Draft) (table : T) (local : O) (s : Sealed T (ByOrder O)) : Type 0 where
  pub same_draft : s.draft ≡ d
  pub same_table : s.table ≡ table
  pub same_order : s.dispatch.order ≡ local
  pub verdict : told_verdict s ≡ verdict_on t t order (module_of d)
  pub exact : ExactVerdict t t order (module_of d) (told_verdict s)
  pub never_late : clears (told_verdict s) ≡ true → NeverLate (plain t (by_order order)) (module_of d)

module _ {T D : Type 0} (means : T → Timetable) (rule : D → DispatchRule) where
  -- A chain of calls that leads from one running module to another: r has each with its answer.
  abbrev pub Chain : Running T D → Running T D → List Entry → Type 0
  Chain x y [] = x ≡ y
  Chain x y (e ∷ r) = (z : Running T D) × Answered means rule x z e.call e.answer × Chain z y r

  -- A module that was started: it has the new machine's state. Where its verdict clears and no job is ever late, which
  -- sealing gives of a module that is cleared, every chain of its calls is a flight record that is as promised.
  pub record Started (s : Sealed T D) (tick : ℕ) (x : Running T D) : Type 0 where
    pub same_sealed : x.sealed ≡ s
    pub state : state_in x ≡ new tick
    pub promises : clears (told_verdict s) ≡ true → NeverLate (plain (means s.table) (rule s.dispatch)) (sealed_module s) →
        (y : Running T D) (r : List Entry) → Chain x y r →
        FlightRecord (engine_of means rule s) (sealed_module s) tick r × Promised (means s.table) (rule s.dispatch) (sealed_module s) tick r

  -- Where memory is wanting the module is given back, and it has a partition that wants a table.
  pub record NotStarted (s given : Sealed T D) : Type 0 where
    pub same : s ≡ given
    pub some : 1 ≤ length (sealed_module given)
