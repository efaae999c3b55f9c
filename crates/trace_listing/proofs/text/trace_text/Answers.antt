use Rattle.std.proofs.Common.{◌++◌, string_bytes, ap, ◌∙◌, rules, tests}
use Rattle.std.specs.List.{flat_map}
use Rattle.std.proofs.lemmas.Iterator.{YieldsList-from_slice}
use Rattle.std.proofs.lemmas.Iterator.Consumers.{YieldsList-at, YieldsList-end, YieldsList-from_enumerate, YieldsList-from_filter}
use Rattle.model.specs.FlightRecords.{ticks}
use Rattle.trace_listing.specs.Traces.{entry_line, tick_lines}
use Rattle.trace_listing.proofs.text.trace_text.Goals as goal

-- the loop has seen just the accepted ticks
pub returns : goal.returns
returns c =
    let seen = YieldsList-end
    (YieldsList-at c.into_iter-tick-iterator.ensures.into_iter_gives
    (YieldsList-from_enumerate (YieldsList-at c.enumerate-tick-items.ensures.source
    (YieldsList-from_filter _ ticks (YieldsList-from_slice c.args.entries.now cc) c.filter-ticks.ensures.closure (λ x r q k. search (rules, tests)))) (cc)))
    c.loop-tick.yielded _ c.loop-tick.yielded_by _ _ c.in-None.is c.next.ensures.steps in
    c.loop-tick.invariant ∙ ap (λ xs. string_bytes c.in_ok-text.text ++ flat_map entry_line xs) seen.0 ∙ ap (λ t. t ++ tick_lines 0 c.args.entries.now) c.in_ok-text.ensures.ok
