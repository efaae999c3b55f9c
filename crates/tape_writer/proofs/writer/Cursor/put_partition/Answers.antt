use Rattle.std.proofs.Common.{[], ◌∷◌, map, get_or, refl, subst}
use Rattle.std.proofs.lemmas.List.Folds.{flat_map-map}
use Rattle.std.specs.List.{flat_map}
use Rattle.model.specs.declared.task.Task.{Task}
use Rattle.tape.specs.declared.command.Command.TheVariants as command
use Rattle.tape.specs.Commands.{bytes}
use Rattle.tape_writer.specs.Cursors.{Room}
use Rattle.tape_writer.proofs.Cursors.{puts_more, room_rest, room_next, puts_next, puts_all}
use Rattle.tape_writer.proofs.writer.Cursor.put_partition.Goals as goal

abbrev no_task : Task
no_task = record { cost = 0; period = 0; deadline = 0 }

pub put_command-requires-in-loop-task : goal.put_command-requires-in-loop-task
put_command-requires-in-loop-task c =
    let ks = c.args.tasks.now in
    let a = c.put_command.new.self in
    let room = subst (λ bs. Room bs a) (flat_map-map bytes command.Task ks) (room_rest (0x50 ∷ []) (flat_map bytes (map command.Task ks)) c.args.self.now a c.put_command.ensures c.requires) in
    rw c.from.ensures (room_next (λ k. bytes (command.Task k)) ks c.loop-task.task-index a c.loop-task.self c.loop-task.invariant (get_or ks c.loop-task.task-index no_task) no_task c.loop-task-test.true refl room)

pub loop-task-preserved : goal.loop-task-preserved
loop-task-preserved c =
    puts_next (λ k. bytes (command.Task k)) c.args.tasks.now c.loop-task.task-index c.put_command.new.self c.loop-task.self c.loop-task.invariant _ no_task _ c.loop-task-test.true refl (rw c.from.ensures at c.put_command-in-loop-task.ensures)

pub returns : goal.returns
returns c =
    let ks = c.args.tasks.now in
    rw (flat_map-map bytes command.Task ks) (puts_more (0x50 ∷ []) _ _ _ _ c.put_command.ensures (puts_all (λ k. bytes (command.Task k)) ks c.loop-task.task-index _ _ c.loop-task.invariant c.loop-task-test.false))
