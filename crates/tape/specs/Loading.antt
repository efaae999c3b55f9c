-- How a tape is obeyed, command by command, and what reading it gives.
use Rattle.std.specs.Prelude.{ℕ, zero, suc, ◌+◌, ◌-◌, Bool, true, false, cond, List, [], ◌∷◌, ◌++◌, length, Ok, Err, Option, Result, ◌==◌, nat_le}
use Rattle.std.specs.List.{slice_get}
use Rattle.model.specs.declared.window.Window.{Window as ModelWindow}
use Rattle.model.specs.Answers.{Answer, granted, refused, and_then}
use Rattle.model.specs.Modules.{Module}
use Rattle.model.specs.WindowLists.{frame_answer, count_answer, window_answer, overlap}
use Rattle.draft.specs.Drafts.{partition_answer, task_answer, with_partition, with_task}
use Rattle.tape.specs.declared.command.Command.{Command}
use Rattle.tape.specs.declared.command.Command.TheVariants.{Partition, Task, Frame, Window, End}
use Rattle.tape.specs.declared.command.Turn.{Turn}
use Rattle.tape.specs.declared.command.Turn.TheVariants.{Start, AfterPartition, AfterTask, AfterFrame}
use Rattle.tape.specs.declared.fault.Layer.{Layer}
use Rattle.tape.specs.declared.fault.Layer.TheVariants.{Tape, Draft, Windows}
use Rattle.tape.specs.Decode.{command}
use Rattle.tape.specs.Faults.{Breach}

-- What a tape holds: the tasks of each partition, the frame and the windows.
pub record Contents : Type 0 where
  pub partitions : Module
  pub frame : ℕ
  pub windows : List ModelWindow

-- What has been read of a tape, and whose turn it is.
pub record Progress : Type 0 where
  pub partitions : Module
  pub frame : ℕ
  pub windows : List ModelWindow
  pub turn : Turn

abbrev pub nothing_read : Progress
nothing_read = record { partitions = []; frame = 0; windows = []; turn = Start }

abbrev pub contents : Progress → Contents
contents l = record { partitions = l.partitions; frame = l.frame; windows = l.windows }

-- the newest partition
abbrev pub newest : Module → ℕ
newest m = length m - 1

abbrev pub last_of : List ModelWindow → Option ModelWindow
last_of ws = slice_get ws (length ws - 1)

-- a refusal gains the layer that it comes from
abbrev pub in_layer : {A : Type 0} → Layer → Answer A → Progress → Result Progress Breach
in_layer y (granted x) l = Ok l
in_layer y (refused n vs) l = Err (n, vs, y)

-- one command, by the rules of drafts and windows; the 65th window is 52, whatever it is
abbrev pub obeyed : Progress → Command → Result Progress Breach
obeyed l Partition =
    in_layer Draft (partition_answer l.partitions) (record {
      partitions = with_partition l.partitions;
      frame = l.frame;
      windows = l.windows;
      turn = AfterPartition;
    })
obeyed l (Task k) =
    in_layer Draft (task_answer l.partitions (newest l.partitions) k) (record {
      partitions = with_task l.partitions (newest l.partitions) k;
      frame = l.frame;
      windows = l.windows;
      turn = AfterTask;
    })
obeyed l (Frame f) =
    in_layer Windows (frame_answer f) (record {
      partitions = l.partitions;
      frame = f;
      windows = l.windows;
      turn = AfterFrame;
    })
obeyed l (Window w) =
    in_layer Windows
    (and_then (count_answer (length l.windows + 1)) (window_answer overlap l.frame (length l.windows) (last_of l.windows) w))
    (record {
      partitions = l.partitions;
      frame = l.frame;
      windows = l.windows ++ (w ∷ []);
      turn = AfterFrame;
    })
obeyed l End = Ok l

-- What reading gives: something, or a fault by number, values, layer and byte offset, or a refusal by its number alone.
pub data Reading (A : Type 0) : Type 0 where
  done : A → Reading A
  faulty : ℕ → List ℕ → Layer → ℕ → Reading A
  declined : ℕ → Reading A

abbrev pub is_end : Command → Bool
is_end Partition = false
is_end (Task k) = false
is_end (Frame f) = false
is_end (Window w) = false
is_end End = true

-- nothing follows the end: 74 at the first extra byte
abbrev pub ended : ℕ → Progress → List ℕ → Reading Contents
ended n l rest = cond (length rest == 0) (done (contents l)) (faulty 74 [] Tape (n - length rest))

-- the next command, read and obeyed: the command, what follows it, and what is read then
abbrev pub after_obeyed : Command → List ℕ → Result Progress Breach → Result (Command × List ℕ × Progress) Breach
after_obeyed c rest (Ok l) = Ok (c, rest, l)
after_obeyed c rest (Err e) = Err e

abbrev pub after_bytes : Progress → Result (Command × List ℕ) ℕ → Result (Command × List ℕ × Progress) Breach
after_bytes l (Ok p) = after_obeyed p.0 p.1 (obeyed l p.0)
after_bytes l (Err k) = Err (k, [], Tape)

abbrev pub next : Progress → List ℕ → Result (Command × List ℕ × Progress) Breach
next l xs = after_bytes l (command l.turn xs)

-- a fault gains the offset o of its command; else reading goes on
abbrev pub after_next : ℕ → Result (Command × List ℕ × Progress) Breach → (Command → List ℕ → Progress → Reading Contents) → Reading Contents
after_next o (Ok p) go = go p.0 p.1 p.2
after_next o (Err e) go = faulty e.0 e.1 e.2 o

-- Reads on where xs is left of a tape of n bytes, by at most so many commands: a tape has no more of them than bytes.
abbrev pub decode_from : ℕ → ℕ → Progress → List ℕ → Reading Contents
decode_from zero n l xs = faulty 71 [] Tape (n - length xs)
decode_from (suc most) n l xs =
    after_next (n - length xs) (next l xs) (λ c rest then. cond (is_end c) (ended n then rest) (decode_from most n then rest))

-- what a tape gives
abbrev pub decode : List ℕ → Reading Contents
decode xs = decode_from (length xs) (length xs) nothing_read xs

-- what the reader gives, by the places of the list that it is lent
abbrev pub reading : ℕ → List ℕ → Reading Contents
reading places xs = cond (nat_le 64 places) (decode xs) (declined 76)
