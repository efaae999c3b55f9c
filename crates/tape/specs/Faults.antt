-- The faults of a tape, by number and layer.
use Rattle.std.specs.Prelude.{ℕ, List, [], Some, None, Option}
use Rattle.draft.specs.declared.refusal.DraftRefusal.{DraftRefusal}
use Rattle.draft.specs.declared.refusal.DraftRefusal.TheVariants.{TooManyPartitions, NoSuchPartition, TooManyTasks, OutsideLimits, NoMemory as DraftNoMemory}
use Rattle.draft.specs.Refusals as drafts
use Rattle.windows.specs.Refusals as lists
use Rattle.tape.specs.declared.fault.TapeFault.{TapeFault}
use Rattle.tape.specs.declared.fault.TapeFault.TheVariants.{Truncated, UnknownCommand, OutOfTurn, TrailingBytes}
use Rattle.tape.specs.declared.fault.CommandFault.{CommandFault}
use Rattle.tape.specs.declared.fault.CommandFault.TheVariants.{Tape, Draft, Windows, NoMemory}
use Rattle.tape.specs.declared.fault.Layer.{Layer}
use Rattle.tape.specs.declared.fault.Layer.TheVariants as layer

abbrev pub tape_number : TapeFault → ℕ
tape_number Truncated = 71
tape_number UnknownCommand = 72
tape_number OutOfTurn = 73
tape_number TrailingBytes = 74

-- a draft's refusal in a tape's command
abbrev pub from_draft : DraftRefusal → CommandFault
from_draft TooManyPartitions = Draft TooManyPartitions
from_draft NoSuchPartition = Draft NoSuchPartition
from_draft TooManyTasks = Draft TooManyTasks
from_draft OutsideLimits = Draft OutsideLimits
from_draft DraftNoMemory = NoMemory

-- A breach of a rule: its number, the values that it names, and the layer whose rule it is.
abbrev pub Breach : Type 0
Breach = ℕ × List ℕ × Layer

abbrev pub in_draft : Option ℕ → Option Breach
in_draft (Some n) = Some (n, [], layer.Draft)
in_draft None = None

-- the breach that a command's fault tells of; None where memory is wanting
abbrev pub breach : CommandFault → Option Breach
breach (Tape e) = Some (tape_number e, [], layer.Tape)
breach (Draft e) = in_draft (drafts.number e)
breach (Windows e) = Some (lists.number e, lists.values e, layer.Windows)
breach NoMemory = None

-- its number and layer alone
abbrev pub placed : Option Breach → Option (ℕ × Layer)
placed (Some e) = Some (e.0, e.2)
placed None = None
