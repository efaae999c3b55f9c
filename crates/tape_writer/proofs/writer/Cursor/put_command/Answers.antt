use Rattle.tape_writer.proofs.Cursors.{puts_more}
use Rattle.tape_writer.proofs.writer.Cursor.put_command.Goals as goal

pub returns-in-Task : goal.returns-in-Task
returns-in-Task c =
    rw c.in-Task.is (puts_more _ _ _ _ _ c.put-in-Task.ensures (puts_more _ _ _ _ _ c.put_word.ensures (puts_more _ _ _ _ _ c.put_word-in-Task.ensures c.put_word-in-Task-2.ensures)))

pub returns-in-Frame : goal.returns-in-Frame
returns-in-Frame c = rw c.in-Frame.is (puts_more _ _ _ _ _ c.put-in-Frame.ensures c.put_word-in-Frame.ensures)

pub returns-in-Window : goal.returns-in-Window
returns-in-Window c =
    rw c.in-Window.is (puts_more _ _ _ _ _ c.put-in-Window.ensures (puts_more _ _ _ _ _ c.put_word-in-Window.ensures c.put_word-in-Window-2.ensures))
