use Rattle.std.proofs.Common.{◌≡◌, ◌++◌, sym, ap, ◌∙◌, subst}
use Rattle.model.specs.Machine.{new}
use Rattle.executive.specs.Sealing.{SealedAs}
use Rattle.executive.specs.States.{state_in}
use Rattle.flight.specs.Flights.{heard_of}
use Rattle.flight.proofs.Flights.{flown, rule_of}
use Rattle.flight.proofs.flying.fly.Goals as goal

pub returns-in_default : goal.returns-in_default
returns-in_default g c =
    let a = c.args in
    flown g.T.Timetable.means g.O.LocalOrder.order a.draft a.table a.order a.tick a.calls.now _ c.seal-sealed.ensures
    (g.met.T.Timetable.lawful a.table) c.new.ensures.items

pub returns-in-Ok-start : goal.returns-in-Ok-start
returns-in-Ok-start g c =
    let a = c.args in
    let means = g.T.Timetable.means in
    let goes = g.O.LocalOrder.order in
    let run = c.in-Ok-start.running in
    let started = c.in-Ok-start.ensures in
    let kept : c.stop.result ≡ run.sealed = c.stop.ensures ∙ c.make_calls.ensures.same in
    let heard = heard_of means (rule_of means goes) in
    flown means goes a.draft a.table a.order a.tick a.calls.now _
    (subst (SealedAs (means a.table) (goes a.order) a.draft a.table a.order) (sym (kept ∙ started.same_sealed)) c.seal-sealed.ensures)
    (g.met.T.Timetable.lawful a.table)
    (c.make_calls.ensures.entries
    ∙ ap (λ xs. xs ++ heard run.sealed (state_in run) a.calls.now) c.in-Ok.ensures.items
    ∙ ap (λ st. heard run.sealed st a.calls.now) started.state
    ∙ ap (λ s. heard s (new a.tick) a.calls.now) (sym kept))

pub returns-in-Err : goal.returns-in-Err
returns-in-Err g c =
    let a = c.args in
    let means = g.T.Timetable.means in
    let goes = g.O.LocalOrder.order in
    flown means goes a.draft a.table a.order a.tick a.calls.now _
    (subst (SealedAs (means a.table) (goes a.order) a.draft a.table a.order) (sym c.in-Err.ensures.same) c.seal-sealed.ensures)
    (g.met.T.Timetable.lawful a.table) c.in-Ok.ensures.items
