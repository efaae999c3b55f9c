-- Commands and layers as text.
use Rattle.std.specs.Prelude.{ℕ, List, ◌++◌, codes, decimal}
use Rattle.tape.specs.declared.command.Command.{Command}
use Rattle.tape.specs.declared.command.Command.TheVariants.{Partition, Task, Frame, Window, End}
use Rattle.tape.specs.declared.fault.Layer.{Layer}
use Rattle.tape.specs.declared.fault.Layer.TheVariants as layer

-- a word and three numbers
abbrev pub three : List ℕ → ℕ → ℕ → ℕ → List ℕ
three word a b c = word ++ (decimal a ++ (codes " " ++ (decimal b ++ (codes " " ++ decimal c))))

abbrev pub printed : Command → List ℕ
printed Partition = codes "partition"
printed (Task k) = three (codes "task ") k.cost k.period k.deadline
printed (Frame f) = codes "frame " ++ decimal f
printed (Window w) = three (codes "window ") w.partition w.start w.length
printed End = codes "end"

abbrev pub layer_name : Layer → List ℕ
layer_name layer.Tape = codes "tape"
layer_name layer.Draft = codes "draft"
layer_name layer.Windows = codes "windows"
