-- The reader's state as what has been read.
use Rattle.std.specs.Prelude.{◌≡◌, ℕ, ◌+◌, ◌≤◌, Bool, true, cond, ◌||◌, List, length, take, Some, None, Ok, Err, vec_items, Option, Result, ◌==◌, slice_index}
use Rattle.model.specs.declared.window.Window.{Window as ModelWindow}
use Rattle.model.specs.Modules.{Module}
use Rattle.draft.specs.Drafts.{module_of}
use Rattle.tape_reader.specs.declared.load.Load.{Load}
use Rattle.tape.specs.declared.command.Command.{Command}
use Rattle.tape.specs.declared.fault.CommandFault.{CommandFault}
use Rattle.tape.specs.declared.fault.CommandFault.TheVariants.{Tape}
use Rattle.tape.specs.declared.fault.TapeFault.TheVariants.{TrailingBytes}
use Rattle.tape_reader.specs.declared.reader.Loaded.{Loaded}
use Rattle.tape_reader.specs.declared.reader.ReadRefusal.{ReadRefusal}
use Rattle.tape_reader.specs.declared.reader.ReadRefusal.TheVariants.{ShortList, Fault}
use Rattle.tape.specs.Commands.{bytes}
use Rattle.tape.specs.Faults.{Breach, breach}
use Rattle.tape.specs.Loading.{Progress, Contents, Reading, faulty, declined}

abbrev pub progress : Load → Progress
progress l = record { partitions = module_of l.draft; frame = l.frame; windows = vec_items l.windows; turn = l.turn }

-- Memory is wanting only at a command that adds something: a partition, a task or a window.
abbrev pub adds : ℕ → Bool
adds byte = byte == 0x50 || (byte == 0x54 || byte == 0x57)

-- a fault as the rules have it, or want of memory, and then P
abbrev pub Fails : {A : Type 0} → Type 0 → Option Breach → Result A Breach → Type 0
Fails P (Some e) given = given ≡ Err e
Fails P None given = P

-- a command's answer is the given one, and where it is obeyed so is what is read then
abbrev pub Obeys : Command → Result (Unit {0}) CommandFault → Result Progress Breach → Progress → Type 0
Obeys c (Ok x) given after = given ≡ Ok after
Obeys c (Err e) given after = Fails (adds (slice_index (bytes c) 0) ≡ true) (breach e) given

-- a load, if nothing follows the end, whose offset is o
abbrev pub whole_tape : ℕ → Load → List ℕ → Result Load ReadRefusal
whole_tape o l rest = cond (length rest == 0) (Ok l) (Err (Fault (Tape TrailingBytes) (o + 1)))

abbrev pub fault_at : Option Breach → ℕ → Option (Reading Contents)
fault_at (Some e) o = Some (faulty e.0 e.1 e.2 o)
fault_at None o = None

-- a refusal of the reader by number, layer and offset; None where memory is wanting
abbrev pub told_fault : ReadRefusal → Option (Reading Contents)
told_fault ShortList = Some (declined 76)
told_fault (Fault e o) = fault_at (breach e) o

abbrev pub number_of : Option Breach → Option ℕ
number_of (Some e) = Some e.0
number_of None = None

-- the number of a refusal of the reader; None where memory is wanting
abbrev pub read_number : ReadRefusal → Option ℕ
read_number ShortList = Some 76
read_number (Fault e o) = number_of (breach e)

-- memory is wanting, with a list of so many places and a tape: a list under 64 places never comes to that
abbrev pub MemoryWanted : ℕ → List ℕ → ReadRefusal → Type 0
MemoryWanted places tape ShortList = ⊥
MemoryWanted places tape (Fault e o) = (64 ≤ places) × (adds (slice_index tape o) ≡ true)

-- what the reader gives: the draft's module, the frame, and the first windows of the list
abbrev pub given : Module → Loaded → List ModelWindow → Contents
given m x ws = record { partitions = m; frame = x.frame; windows = take x.windows ws }
