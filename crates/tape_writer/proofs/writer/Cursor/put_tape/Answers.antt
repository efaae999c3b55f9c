use Rattle.std.proofs.Common.{get_or, refl}
use Rattle.model.specs.declared.window.Window.{Window as ModelWindow}
use Rattle.draft.specs.Drafts.{tasks_in, module_of}
use Rattle.tape.specs.declared.command.Command.TheVariants.{Window}
use Rattle.tape.specs.Commands.{bytes, partition_bytes}
use Rattle.tape_writer.proofs.Cursors.{room_next, puts_next, puts_all, tape_put, partitions_room, frame_room, windows_room, end_room}
use Rattle.tape_writer.proofs.writer.Cursor.put_tape.Goals as goal

abbrev no_window : ModelWindow
no_window = record { partition = 0; start = 0; length = 0 }

pub put_partition-requires : goal.put_partition-requires
put_partition-requires c =
    let ps = c.partitions-partition-items.result.now in
    let a = c.args.self.now in
    let room = partitions_room ps c.args.frame c.args.windows.now (module_of c.args.draft.now) c.partitions-partition-items.ensures a c.requires in
    rw c.tasks.ensures (room_next (λ p. partition_bytes (tasks_in p)) ps c.loop-partition.partition-index a c.loop-partition.self c.loop-partition.invariant c.partition-item.result c.partition-item.result c.loop-partition-test.true c.partition-item.is room)

pub loop-partition-preserved : goal.loop-partition-preserved
loop-partition-preserved c =
    puts_next (λ p. partition_bytes (tasks_in p)) c.partitions-partition-items.result.now c.loop-partition.partition-index c.args.self.now c.loop-partition.self c.loop-partition.invariant c.partition-item.result c.partition-item.result _ c.loop-partition-test.true c.partition-item.is (rw c.tasks.ensures at c.put_partition.ensures)

pub put_command-requires : goal.put_command-requires
put_command-requires c =
    let ps = c.partitions-partition-items.result.now in
    let put = puts_all (λ p. partition_bytes (tasks_in p)) ps c.loop-partition.partition-index c.args.self.now c.loop-partition.self c.loop-partition.invariant c.loop-partition-test.false in
    frame_room ps c.args.frame c.args.windows.now (module_of c.args.draft.now) c.partitions-partition-items.ensures c.args.self.now c.requires c.loop-partition.self put

pub put_command-requires-in-loop-window : goal.put_command-requires-in-loop-window
put_command-requires-in-loop-window c =
    let ps = c.partitions-partition-items.result.now in
    let ws = c.args.windows.now in
    let put = puts_all (λ p. partition_bytes (tasks_in p)) ps c.loop-partition.partition-index c.args.self.now c.loop-partition.self c.loop-partition.invariant c.loop-partition-test.false in
    let room = windows_room ps c.args.frame ws (module_of c.args.draft.now) c.partitions-partition-items.ensures c.args.self.now c.requires c.loop-partition.self put c.put_command.new.self c.put_command.ensures in
    rw c.from.ensures (room_next (λ w. bytes (Window w)) ws c.loop-window.window-index c.put_command.new.self c.loop-window.self c.loop-window.invariant (get_or ws c.loop-window.window-index no_window) no_window c.loop-window-test.true refl room)

pub loop-window-preserved : goal.loop-window-preserved
loop-window-preserved c =
    puts_next (λ w. bytes (Window w)) c.args.windows.now c.loop-window.window-index c.put_command.new.self c.loop-window.self c.loop-window.invariant _ no_window _ c.loop-window-test.true refl (rw c.from.ensures at c.put_command-in-loop-window.ensures)

pub put_command-requires-2 : goal.put_command-requires-2
put_command-requires-2 c =
    let ps = c.partitions-partition-items.result.now in
    let put = puts_all (λ p. partition_bytes (tasks_in p)) ps c.loop-partition.partition-index c.args.self.now c.loop-partition.self c.loop-partition.invariant c.loop-partition-test.false in
    let list = puts_all (λ w. bytes (Window w)) c.args.windows.now c.loop-window.window-index c.put_command.new.self c.loop-window.self c.loop-window.invariant c.loop-window-test.false in
    end_room ps c.args.frame c.args.windows.now (module_of c.args.draft.now) c.partitions-partition-items.ensures c.args.self.now c.requires c.loop-partition.self put c.put_command.new.self c.put_command.ensures c.loop-window.self list

pub returns : goal.returns
returns c =
    let ps = c.partitions-partition-items.result.now in
    let put = puts_all (λ p. partition_bytes (tasks_in p)) ps c.loop-partition.partition-index c.args.self.now c.loop-partition.self c.loop-partition.invariant c.loop-partition-test.false in
    let list = puts_all (λ w. bytes (Window w)) c.args.windows.now c.loop-window.window-index c.put_command.new.self c.loop-window.self c.loop-window.invariant c.loop-window-test.false in
    tape_put ps c.args.frame c.args.windows.now (module_of c.args.draft.now) c.partitions-partition-items.ensures c.args.self.now c.loop-partition.self c.put_command.new.self c.loop-window.self c.put_command-2.new.self put c.put_command.ensures list c.put_command-2.ensures
