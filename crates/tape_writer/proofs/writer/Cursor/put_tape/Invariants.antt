use Rattle.std.proofs.Common.{take}
use Rattle.std.specs.List.{flat_map}
use Rattle.draft.specs.Drafts.{tasks_in}
use Rattle.tape.specs.Commands.{bytes, partition_bytes}
use Rattle.tape.specs.declared.command.Command.TheVariants.{Window}
use Rattle.tape_writer.specs.Cursors.{Puts}
use Rattle.tape_writer.proofs.writer.Cursor.put_tape.Given as goal

abbrev pub invariant-loop-partition : goal.invariant-loop-partition
invariant-loop-partition l = Puts (flat_map (λ p. partition_bytes (tasks_in p)) (take l.partition-index l.partition-items)) l.initial.self l.self

abbrev pub invariant-loop-window : goal.invariant-loop-window
invariant-loop-window l = Puts (flat_map (λ w. bytes (Window w)) (take l.window-index l.windows)) l.initial.self l.self
