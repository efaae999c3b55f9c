-- A chain of calls of a cleared module is a flight record.
use Rattle.std.proofs.Common.{◌≡◌, true, List, [], ◌∷◌, refl, ap, ◌∙◌, ap₂}
use Rattle.std.proofs.lemmas.Bool.{cond-true}
use Rattle.model.specs.declared.entry.Entry.{Entry}
use Rattle.model.specs.Machine.{DispatchRule, MachineState, after, reply}
use Rattle.model.specs.FlightRecords.{flight, calls_of}
use Rattle.model.specs.Timetables.{Timetable}
use Rattle.executive.specs.declared.running.Running.{Running}
use Rattle.executive.specs.declared.sealed.Sealed.{Sealed}
use Rattle.executive.specs.Sealing.{Chain}
use Rattle.executive.specs.States.{clears, engine_of, sealed_module, state_in, told_verdict}

module _ {T D : Type 0} (means : T → Timetable) (rule : D → DispatchRule) where
  -- the record of these calls of a sealed module, from a state on
  abbrev from : Sealed T D → MachineState → List Entry → List Entry
  from s st r = flight (engine_of means rule s) (sealed_module s) st (calls_of r)

  pub chain_flown : (x y : Running T D) (r : List Entry) → Chain means rule x y r → clears (told_verdict x.sealed) ≡ true → r ≡ from x.sealed (state_in x) r
  unfolding flight
  chain_flown x y [] c v = refl
  chain_flown x y (e ∷ r) c v =
      let z = c.0 in
      let a = c.1 in
      let told : e.answer ≡ reply (engine_of means rule x.sealed) (sealed_module x.sealed) (state_in x) e.call = a.answer ∙ cond-true _ _ _ v in
      let next : state_in z ≡ after (engine_of means rule x.sealed) (sealed_module x.sealed) (state_in x) e.call = a.state ∙ cond-true _ _ _ v in
      let rest : r ≡ from x.sealed (after (engine_of means rule x.sealed) (sealed_module x.sealed) (state_in x) e.call) r =
      chain_flown z y r c.2 (ap (λ s. clears (told_verdict s)) a.«sealed» ∙ v) ∙ ap₂ (λ s st. from s st r) a.«sealed» next in
      ap₂ (λ (b : Entry) (q : List Entry). b ∷ q) (ap (λ w. record { call = e.call; answer = w }) told) rest
