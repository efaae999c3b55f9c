use Rattle.std.proofs.Common.{◌≡◌, ◌+◌, ◌≤◌, ◌++◌, length, drop, vec_items, vec_len, vec_capacity}
use Rattle.executive.specs.States.{state_in}
use Rattle.flight.specs.Flights.{heard_of}
use Rattle.flight.proofs.flying.make_calls.Given as goal

abbrev pub invariant-loop-call : goal.invariant-loop-call
invariant-loop-call g l =
    let heard = heard_of g.T.Timetable.means g.D.Dispatch.rule l.initial.running.sealed in
    (l.running.sealed ≡ l.initial.running.sealed) ×
    (vec_len l.entries + length l.calls ≤ vec_capacity l.entries + l.call-index) ×
    (vec_items l.entries ++ heard (state_in l.running) (drop l.call-index l.calls)
    ≡ vec_items l.initial.entries ++ heard (state_in l.initial.running) l.calls)
