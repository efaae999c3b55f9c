use Rattle.std.proofs.Common.{◌≡◌, take, string_bytes}
use Rattle.std.specs.List.{flat_map}
use Rattle.draft.specs.Drafts.{tasks_in}
use Rattle.tape.specs.Commands.{partition_commands}
use Rattle.listing.specs.Lines.{line}
use Rattle.listing.proofs.contents.contents.Given as goal

abbrev pub invariant-loop-partition : goal.invariant-loop-partition
invariant-loop-partition l =
    string_bytes l.text ≡ flat_map (λ p. flat_map line (partition_commands (tasks_in p))) (take l.partition-index l.partition-items)
