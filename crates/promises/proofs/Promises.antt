-- The promises follow from the theorems on flight records and verdicts.
use Rattle.std.proofs.Common.{◌≡◌, ℕ, true, List, [], ◌∷◌, sym, refl, ap, ◌∙◌, subst}
use Rattle.model.specs.declared.call.Call.{Call}
use Rattle.model.specs.declared.entry.Entry.{Entry}
use Rattle.model.specs.declared.verdict.Verdict.TheVariants.{Cleared as is_cleared}
use Rattle.model.specs.FlightRecords.{FlightRecord, flight, calls_of}
use Rattle.model.specs.Promises.{NeverLate, executive, plain}
use Rattle.model.specs.Machine.{DispatchRule, Engine, MachineState, after, by_order, new}
use Rattle.model.specs.Modules.{Module, module_within}
use Rattle.model.specs.Orders.{Order}
use Rattle.model.specs.Timetables.{LawfulTimetable, Timetable}
use Rattle.model.specs.Verdicts.{Cleared, Lawful, verdict_on}
use Rattle.model.proofs.Exactness.{exact}
use Rattle.model.proofs.Isolation.{isolated}
use Rattle.model.proofs.ClearedNeverLate.{never}
use Rattle.model.proofs.Punctuality.{any_rule}
use Rattle.model.proofs.Verdicts.{decided}
use Rattle.promises.specs.Promises.{ExactVerdict, Promised}

-- a record's calls are those that were made
pub calls_flown : (g : Engine) (m : Module) (st : MachineState) (cs : List Call) → calls_of (flight g m st cs) ≡ cs
unfolding flight
calls_flown g m st [] = refl
calls_flown g m st (c ∷ cs) = ap (λ x. c ∷ x) (calls_flown g m (after g m st c) cs)

-- under any dispatch rule, every flight record of an executive of a module that is never late is as promised
pub promised_by : {running : Timetable} {rule : DispatchRule} {m : Module} → LawfulTimetable running → module_within m ≡ true → NeverLate (plain running rule) m →
    (start : ℕ) (r : List Entry) → FlightRecord (executive running rule) m start r → Promised running rule m start r
promised_by {running} {rule} {m} law limits never start r fr =
    let kept = any_rule running rule m limits never in
    record {
      faithful = fr.1 ∙ (kept.2 start fr.0).0 ∙ ap (flight (plain running rule) m (new start)) (sym (ap calls_of fr.1 ∙ calls_flown _ _ _ fr.0));
      punctual = λ p i earlier within later e split rel enough.
          kept.1 start p i earlier within later e (subst (FlightRecord (executive running rule) m start) split fr) rel enough;
      isolated = λ other other_rule n p ml nl same like s fs eq.
          isolated (executive running rule) (executive other other_rule) m n p law ml nl same like start r s fr fs eq;
    }

module _ {given running : Timetable} {order : Order} {m : Module} (law : Lawful running order m) where
  -- so is every flight record of an executive of a cleared module
  pub promised : Cleared given running order m → (start : ℕ) (r : List Entry) → FlightRecord (executive running (by_order order)) m start r → Promised running (by_order order) m start r
  promised clear = promised_by law.timetable law.limits (never running order m law clear.in_time)

  -- the verdict is cleared exactly when the module is
  pub cleared_verdict : verdict_on given running order m ≡ is_cleared → Cleared given running order m
  cleared_verdict = (decided given running order m law is_cleared).0

  pub verdict_cleared : Cleared given running order m → verdict_on given running order m ≡ is_cleared
  verdict_cleared = (decided given running order m law is_cleared).1

  -- a verdict other than cleared is given exactly where a job can be late
  pub exact_verdict : ExactVerdict given running order m (verdict_on given running order m)
  exact_verdict own =
      let late = exact given running order m law own in
      ((λ no. late.0 (λ clear. no (verdict_cleared clear))), (λ found yes. late.1 found (cleared_verdict yes)))
