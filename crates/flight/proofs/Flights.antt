-- From what was heard of a sealed module to what is promised of its flight.
use Rattle.std.proofs.Common.{◌≡◌, ℕ, Bool, true, List, vec_items, ap, ◌∙◌}
use Rattle.model.specs.declared.call.Call.{Call}
use Rattle.model.specs.declared.entry.Entry.{Entry}
use Rattle.model.specs.FlightRecords.{calls_of}
use Rattle.model.specs.Machine.{DispatchRule, Engine, by_order, new}
use Rattle.model.specs.Orders.{Order}
use Rattle.model.specs.Promises.{executive}
use Rattle.model.specs.Timetables.{LawfulTimetable, Timetable}
use Rattle.promises.proofs.Promises.{promised_by}
use Rattle.dispatch.specs.declared.by_order.ByOrder.{ByOrder}
use Rattle.draft.specs.declared.draft.Draft.{Draft}
use Rattle.draft.specs.Drafts.{module_of}
use Rattle.draft.proofs.Modules.{draft_within}
use Rattle.executive.specs.Sealing.{SealedAs}
use Rattle.executive.specs.States.{clears, sealed_module, told_verdict}
use Rattle.flight.specs.declared.parts.Flight.{Flight}
use Rattle.flight.specs.Flights.{Flown, heard, heard_of, made_calls}
use Rattle.flight.proofs.Heard.{heard_calls, heard_flight, heard_refused}

module _ {T O : Type 0} (means : T → Timetable) (goes : O → Order) where
  abbrev pub rule_of : ByOrder O → DispatchRule
  rule_of x = by_order (goes x.order)

  module _ (d : Draft) (table : T) (local : O) (tick : ℕ) (cs : List Call) (f : Flight T O) (as_said : SealedAs (means table) (goes local) d table local f.sealed) where
    abbrev v : Bool
    v = clears (told_verdict f.sealed)

    abbrev made : List Call
    made = made_calls f.extent cs

    -- by what was given
    abbrev engine : Engine
    engine = executive (means table) (by_order (goes local))

    abbrev heard_by : Bool → List Entry
    heard_by b = heard b engine (module_of d) (new tick) made

    as_given : heard_of means rule_of f.sealed (new tick) made ≡ heard_by v
    as_given =
        ap (λ x. heard v (executive (means x) (rule_of f.sealed.dispatch)) (sealed_module f.sealed) (new tick) made) as_said.same_table
        ∙ ap (λ x. heard v (executive (means table) (by_order (goes x))) (sealed_module f.sealed) (new tick) made) as_said.same_order
        ∙ ap (λ x. heard v (executive (means table) (by_order (goes local))) (module_of x) (new tick) made) as_said.same_draft

    pub flown : LawfulTimetable (means table) → vec_items f.entries ≡ heard_of means rule_of f.sealed (new tick) made → Flown (means table) (goes local) d table local tick cs f
    flown law e =
        let all = e ∙ as_given in
        let recorded = λ (yes : v ≡ true). all ∙ ap heard_by yes ∙ heard_flight engine (module_of d) (new tick) made in
        record {
          sealed_as = as_said;
          same_calls = ap calls_of all ∙ heard_calls v engine (module_of d) (new tick) made;
          not_cleared = λ no. all ∙ ap heard_by no ∙ heard_refused engine (module_of d) (new tick) made;
          flight_record = recorded;
          promised = λ yes. promised_by law (draft_within d) (as_said.never_late yes) tick _ (made, recorded yes);
        }
