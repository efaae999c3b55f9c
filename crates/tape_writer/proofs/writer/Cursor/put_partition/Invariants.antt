use Rattle.std.proofs.Common.{take}
use Rattle.std.specs.List.{flat_map}
use Rattle.tape.specs.declared.command.Command.TheVariants as command
use Rattle.tape.specs.Commands.{bytes}
use Rattle.tape_writer.specs.Cursors.{Puts}
use Rattle.tape_writer.proofs.writer.Cursor.put_partition.Given as goal

abbrev pub invariant-loop-task : goal.invariant-loop-task
invariant-loop-task l = Puts (flat_map (λ k. bytes (command.Task k)) (take l.task-index l.tasks)) l.initial.self l.self
