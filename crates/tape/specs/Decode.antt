-- How a tape is read.
use Rattle.std.specs.Prelude.{ℕ, ◌+◌, ◌*◌, Bool, true, false, cond, List, length, drop, Some, None, Ok, Err, Option, Result, ◌==◌, nat_le, slice_index}
use Rattle.model.specs.Modules.{task}
use Rattle.tape.specs.declared.command.Command.{Command}
use Rattle.tape.specs.declared.command.Command.TheVariants.{Partition, Task, Frame, Window, End}
use Rattle.tape.specs.declared.command.Turn.{Turn}
use Rattle.tape.specs.declared.command.Turn.TheVariants.{Start, AfterPartition, AfterTask, AfterFrame}

-- 50 and 46 come before the frame is given
abbrev pub before_frame : Turn → Bool
before_frame Start = true
before_frame AfterPartition = true
before_frame AfterTask = true
before_frame AfterFrame = false

-- 54 follows a partition or a task
abbrev pub in_partition : Turn → Bool
in_partition Start = false
in_partition AfterPartition = true
in_partition AfterTask = true
in_partition AfterFrame = false

-- 57 and 45 come after the frame
abbrev pub after_frame : Turn → Bool
after_frame Start = false
after_frame AfterPartition = false
after_frame AfterTask = false
after_frame AfterFrame = true

-- whether a command is in its turn; None where there is no such command
abbrev pub admits : Turn → ℕ → Option Bool
admits t b =
    cond (b == 0x50) (Some (before_frame t))
    (cond (b == 0x54) (Some (in_partition t))
    (cond (b == 0x46) (Some (before_frame t))
    (cond (b == 0x57) (Some (after_frame t))
    (cond (b == 0x45) (Some (after_frame t))
    None))))

-- two bytes from place i on, the high one first
abbrev pub word_at : List ℕ → ℕ → ℕ
word_at xs i = 256 * slice_index xs i + slice_index xs (i + 1)

-- a command of n bytes and what follows it; 71 where the tape stops inside it
abbrev pub whole : ℕ → List ℕ → Command → Result (Command × List ℕ) ℕ
whole n xs c = cond (nat_le n (length xs)) (Ok (c, drop n xs)) (Err 71)

abbrev pub operands : List ℕ → Result (Command × List ℕ) ℕ
operands xs =
    cond (slice_index xs 0 == 0x50) (whole 1 xs Partition)
    (cond (slice_index xs 0 == 0x54) (whole 7 xs (Task (task (word_at xs 1) (word_at xs 3) (word_at xs 5))))
    (cond (slice_index xs 0 == 0x46) (whole 3 xs (Frame (word_at xs 1)))
    (cond (slice_index xs 0 == 0x57) (whole 6 xs (Window (record { partition = slice_index xs 1; start = word_at xs 2; length = word_at xs 4 })))
    (cond (slice_index xs 0 == 0x45) (whole 1 xs End)
    (Err 71)))))

-- 72 for an unknown command, 73 for one out of its turn
abbrev pub in_turn : Option Bool → Result (Command × List ℕ) ℕ → Result (Command × List ℕ) ℕ
in_turn None r = Err 72
in_turn (Some false) r = Err 73
in_turn (Some true) r = r

-- the next command and what follows it; 71 where there is none
abbrev pub command : Turn → List ℕ → Result (Command × List ℕ) ℕ
command t xs = cond (length xs == 0) (Err 71) (in_turn (admits t (slice_index xs 0)) (operands xs))
