-- Faults, as a law over whole tapes: the first faulty command decides.
use Rattle.std.specs.Prelude.{◌≡◌, ℕ, ◌+◌, Bool, true, false, ◌⊎◌, List, [], ◌∷◌, ◌++◌, length, Ok, Err}
use Rattle.std.specs.List.{flat_map}
use Rattle.tape.specs.declared.command.Command.{Command}
use Rattle.tape.specs.declared.command.Command.TheVariants.{Partition, Task, Frame, Window, End}
use Rattle.tape.specs.declared.command.Turn.{Turn}
use Rattle.tape.specs.declared.fault.Layer.{Layer}
use Rattle.tape.specs.declared.fault.Layer.TheVariants as layer
use Rattle.tape.specs.Commands.{bytes}
use Rattle.tape.specs.Decode.{before_frame, in_partition, after_frame}
use Rattle.tape.specs.Loading.{Progress, faulty, nothing_read, obeyed, is_end, next, decode}
use Rattle.tape.specs.RoundTrip.{Bytes}

-- whether a command is in its turn
abbrev pub follows : Turn → Command → Bool
follows t Partition = before_frame t
follows t (Task k) = in_partition t
follows t (Frame f) = before_frame t
follows t (Window w) = after_frame t
follows t End = after_frame t

-- the commands are in their turn and are obeyed, from the one to the other
abbrev pub Plays : Progress → List Command → Progress → Type 0
Plays l [] then = l ≡ then
Plays l (c ∷ cs) then = (follows l.turn c ≡ true) × (is_end c ≡ false) × ((mid : Progress) × (obeyed l c ≡ Ok mid) × Plays mid cs then)

-- After some commands that are obeyed, the next one breaks the rule, at its own offset.
abbrev pub NextBreaks : List Command → Progress → List ℕ → ℕ → List ℕ → Layer → ℕ → Type 0
NextBreaks cs l rest n vs y o = (next l rest ≡ Err (n, vs, y)) × (o ≡ length (flat_map bytes cs))

-- After some commands that are obeyed the tape ends, and a byte follows, at that byte's offset.
abbrev pub MoreFollows : List Command → Progress → List ℕ → ℕ → List ℕ → Layer → ℕ → Type 0
MoreFollows cs l rest n vs y o =
    (b : ℕ) × (more : List ℕ) × (rest ≡ bytes End ++ (b ∷ more)) × (follows l.turn End ≡ true) ×
    (n ≡ 74) × (vs ≡ []) × (y ≡ layer.Tape) × (o ≡ length (flat_map bytes cs) + 1)

-- A fault is the first: what stands before it are the bytes of commands that are obeyed, from nothing on.
abbrev pub FirstFault : Type 0
FirstFault =
    (xs : List ℕ) (n : ℕ) (vs : List ℕ) (y : Layer) (o : ℕ) → Bytes xs → decode xs ≡ faulty n vs y o →
    (cs : List Command) × (l : Progress) × (rest : List ℕ) × Plays nothing_read cs l × (xs ≡ flat_map bytes cs ++ rest) ×
    (NextBreaks cs l rest n vs y o ⊎ MoreFollows cs l rest n vs y o)
