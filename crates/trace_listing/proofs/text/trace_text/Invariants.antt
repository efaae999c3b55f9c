use Rattle.std.proofs.Common.{◌≡◌, ◌++◌, map, string_bytes}
use Rattle.std.specs.List.{flat_map}
use Rattle.trace_listing.specs.Traces.{entry_line}
use Rattle.trace_listing.proofs.text.trace_text.Given as goal

abbrev pub invariant-loop-tick : goal.invariant-loop-tick
invariant-loop-tick l =
    string_bytes l.text ≡ string_bytes l.initial.text ++ flat_map entry_line (map (λ p. (p.0, p.1.now)) l.yielded)
