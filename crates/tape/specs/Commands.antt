-- The commands of a load tape and their bytes, and the tape of a module.
use Rattle.std.specs.Prelude.{ℕ, ◌/◌, ◌%◌, List, [], ◌∷◌, ◌++◌, map}
use Rattle.std.specs.List.{flat_map}
use Rattle.model.specs.declared.task.Task.{Task as ModelTask}
use Rattle.model.specs.declared.window.Window.{Window as ModelWindow}
use Rattle.model.specs.Modules.{Module}
use Rattle.tape.specs.declared.command.Command.{Command}
use Rattle.tape.specs.declared.command.Command.TheVariants.{Partition, Task, Frame, Window, End}

-- a number in two bytes, the high one first
abbrev pub word : ℕ → List ℕ
word n = n / 256 ∷ (n % 256 ∷ [])

abbrev pub bytes : Command → List ℕ
bytes Partition = 0x50 ∷ []
bytes (Task k) = 0x54 ∷ (word k.cost ++ (word k.period ++ word k.deadline))
bytes (Frame f) = 0x46 ∷ word f
bytes (Window w) = 0x57 ∷ (w.partition ∷ (word w.start ++ word w.length))
bytes End = 0x45 ∷ []

-- a partition, followed by its tasks
abbrev pub partition_commands : List ModelTask → List Command
partition_commands ks = Partition ∷ map Task ks

abbrev pub partition_bytes : List ModelTask → List ℕ
partition_bytes ks = flat_map bytes (partition_commands ks)

-- the partitions with their tasks, the frame, the windows, the end
abbrev pub commands : Module → ℕ → List ModelWindow → List Command
commands m f ws = flat_map partition_commands m ++ (Frame f ∷ (map Window ws ++ (End ∷ [])))

-- the tape of a module with its frame and windows
abbrev pub encode : Module → ℕ → List ModelWindow → List ℕ
encode m f ws = flat_map bytes (commands m f ws)
