-- What the writer answers.
use Rattle.std.specs.Prelude.{ℕ, cond, List, [], length, Ok, Err, Result, nat_le}
use Rattle.model.specs.declared.window.Window.{Window}
use Rattle.model.specs.Answers.{Answer, granted, refused, and_then}
use Rattle.model.specs.Modules.{Module}
use Rattle.model.specs.WindowLists.{list_answer, overlap}
use Rattle.windows.specs.Refusals as lists
use Rattle.tape_writer.specs.declared.writer.WriteRefusal.{WriteRefusal}
use Rattle.tape_writer.specs.declared.writer.WriteRefusal.TheVariants.{Windows, ShortBuffer}
use Rattle.tape.specs.Commands.{encode}

abbrev pub write_number : WriteRefusal → ℕ
write_number (Windows e) = lists.number e
write_number ShortBuffer = 75

abbrev pub write_values : WriteRefusal → List ℕ
write_values (Windows e) = lists.values e
write_values ShortBuffer = []

abbrev pub told_write : Result ℕ WriteRefusal → Answer ℕ
told_write (Ok n) = granted n
told_write (Err e) = refused (write_number e) (write_values e)

-- the windows are checked, then the buffer; the answer is the tape's length
abbrev pub write_answer : Module → ℕ → List Window → ℕ → Answer ℕ
write_answer m f ws room =
    and_then (list_answer overlap f ws) (cond (nat_le (length (encode m f ws)) room) (granted (length (encode m f ws))) (refused 75 []))
