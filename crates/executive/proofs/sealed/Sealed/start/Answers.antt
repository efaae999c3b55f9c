use Rattle.std.proofs.Common.{◌≡◌, get_or, vec_items, refl, ap, ◌∙◌}
use mathlib.Core.Path.{fun_ext}
use Rattle.model.specs.Machine.{MachineState, new, untouched}
use Rattle.model.specs.FlightRecords.{flight, calls_of}
use Rattle.draft.proofs.Modules.{draft_within}
use Rattle.promises.proofs.Promises.{promised_by}
use Rattle.executive.specs.States.{engine_of, partitions_of, sealed_module}
use Rattle.executive.proofs.Chains.{chain_flown}
use Rattle.executive.proofs.Sealing.{all_alike}
use Rattle.executive.proofs.sealed.Sealed.start.Goals as goal

pub invariant_of-result : goal.invariant_of-result
invariant_of-result g c = record { level = c.in-Ok.ensures.tasks }

pub returns : goal.returns
returns g c =
    let s = c.args.self in
    let means = g.T.Timetable.means in
    let rule = g.D.Dispatch.rule in
    let fresh = c.in-Ok.ensures.states in
    let states = fun_ext (λ p. ap (λ xs. get_or xs p untouched) fresh ∙ all_alike _ untouched p) in
    let new_state : ◌≡◌ {A = MachineState} (record { now = c.at.result; partitions = partitions_of (vec_items c.in-Ok.tables) }) (new c.args.tick) = λ i. record { now = c.at.ensures i; partitions = states i } in
    record {
      same_sealed = refl;
      state = new_state;
      promises = λ v never y r chain.
          let flown = chain_flown means rule _ y r chain v ∙ ap (λ st. flight (engine_of means rule s) (sealed_module s) st (calls_of r)) new_state in
          ((calls_of r, flown), promised_by (g.met.T.Timetable.lawful s.table) (draft_within s.draft) never c.args.tick r (calls_of r, flown));
    }
