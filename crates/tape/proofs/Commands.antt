-- The bytes of a command, read again.
use Rattle.std.proofs.Common.{◌≡◌, ℕ, ◌<◌, Bool, true, false, eqb, List, ◌++◌, length, get_or, Some, Ok, Err, sym, refl, ap, ◌∙◌, arith, rules}
use native.Mathlib.Nat.{div-add-mod}
use Rattle.std.proofs.lemmas.Bool.{cond-false, ne_eqb}
use Rattle.tape.specs.declared.command.Command.{Command}
use Rattle.tape.specs.declared.command.Command.TheVariants.{Partition, Task, Frame, Window, End}
use Rattle.tape.specs.declared.command.Turn.{Turn}
use Rattle.tape.specs.Commands.{bytes}
use Rattle.tape.specs.FirstFault.{follows}
use Rattle.tape.specs.Decode.{admits, operands, in_turn, command}

reads_back : (c : Command) (more : List ℕ) → operands (bytes c ++ more) ≡ Ok (c, more)
reads_back Partition more = search rules
reads_back (Task k) more =
    let e = div-add-mod k.cost 256 in
    let f = div-add-mod k.period 256 in
    let g = div-add-mod k.deadline 256 in
    search rules
reads_back (Frame f) more = let e = div-add-mod f 256 in search rules
reads_back (Window w) more =
    let e = div-add-mod w.start 256 in
    let f = div-add-mod w.length 256 in
    search rules
reads_back End more = search rules

command_some : (t : Turn) (xs : List ℕ) → 0 < length xs → command t xs ≡ in_turn (admits t (get_or xs 0 0)) (operands xs)
command_some t xs h =
    cond-false (eqb (length xs) 0) (Err 71) (in_turn (admits t (get_or xs 0 0)) (operands xs)) (ne_eqb (length xs) 0 (λ e. omega arith))

admitted : (t : Turn) (c : Command) (more : List ℕ) → (0 < length (bytes c ++ more)) × (admits t (get_or (bytes c ++ more) 0 0) ≡ Some (follows t c))
admitted t Partition more = (omega arith, refl)
admitted t (Task k) more = (omega arith, refl)
admitted t (Frame f) more = (omega arith, refl)
admitted t (Window w) more = (omega arith, refl)
admitted t End more = (omega arith, refl)

-- a command's bytes are read as that command, if it is in its turn
pub command_there : (t : Turn) (c : Command) (more : List ℕ) → command t (bytes c ++ more) ≡ in_turn (Some (follows t c)) (Ok (c, more))
command_there t c more =
    command_some t (bytes c ++ more) (admitted t c more).0
    ∙ (ap (λ a. in_turn a (operands (bytes c ++ more))) (admitted t c more).1 ∙ ap (in_turn (Some (follows t c))) (reads_back c more))

in_turn_true : (b : Bool) (c d : Command) (xs ys : List ℕ) → in_turn (Some b) (Ok (c, xs)) ≡ Ok (d, ys) → b ≡ true
in_turn_true true c d xs ys e = refl
in_turn_true false c d xs ys e = absurd cc

-- a command that was read was in its turn
pub follows_read : (t : Turn) (c : Command) (rest xs : List ℕ) → xs ≡ bytes c ++ rest → command t xs ≡ Ok (c, rest) → follows t c ≡ true
follows_read t c rest xs e r =
    in_turn_true (follows t c) c c rest rest (sym (command_there t c rest) ∙ (ap (command t) (sym e) ∙ r))
