use Rattle.std.proofs.Common.{◌≡◌, ◌++◌, take, string_bytes}
use Rattle.std.specs.List.{flat_map}
use Rattle.tape.specs.declared.command.Command.TheVariants as command
use Rattle.listing.specs.Lines.{line}
use Rattle.listing.proofs.contents.write_partition.Given as goal

abbrev pub invariant-loop-task : goal.invariant-loop-task
invariant-loop-task l =
    string_bytes l.text ≡ string_bytes l.initial.text ++ flat_map (λ k. line (command.Task k)) (take l.task-index l.tasks)
