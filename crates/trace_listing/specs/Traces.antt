-- A flight record as text: a line for each accepted tick.
use Rattle.std.specs.Prelude.{ℕ, List, [], ◌++◌, filter, Ok, Result, codes, decimal}
use Rattle.std.specs.List.{enumerate_from, flat_map}
use Rattle.model.specs.declared.entry.Entry.{Entry}
use Rattle.model.specs.declared.refusal.Refusal.{Refusal}
use Rattle.model.specs.declared.reply.Reply.{Reply}
use Rattle.model.specs.declared.reply.Reply.TheVariants.{Turn as turn}
use Rattle.model.specs.FlightRecords.{ticks}
use Rattle.model.specs.Turns.{turn_text}

-- the line of a tick by its answer: the tick, and its owner, task and job; ticks that are not refused give a turn
abbrev pub tick_line : ℕ → Result Reply Refusal → List ℕ
tick_line n (Ok (turn t)) = decimal n ++ (codes " " ++ (turn_text t ++ codes "\n"))
tick_line n answer = []

-- the line of a tick by its entry
abbrev pub entry_line : ℕ × Entry → List ℕ
entry_line x = tick_line x.0 x.1.answer

-- the lines of a record that begins at the tick n: only its accepted ticks have one
abbrev pub tick_lines : ℕ → List Entry → List ℕ
tick_lines n r = flat_map entry_line (enumerate_from n (filter ticks r))

-- the text of a record that begins at tick 0
abbrev pub trace : List Entry → List ℕ
trace r = codes "tick owner task job\n" ++ tick_lines 0 r
