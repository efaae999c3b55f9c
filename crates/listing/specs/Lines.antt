-- The lines of a listing.
use Rattle.std.specs.Prelude.{◌≡◌, ℕ, List, [], ◌++◌, map, Some, None, codes, decimal, Option}
use Rattle.std.specs.List.{flat_map}
use Rattle.model.specs.declared.window.Window.{Window as ModelWindow}
use Rattle.tape.specs.declared.command.Command.{Command}
use Rattle.tape.specs.declared.command.Command.TheVariants.{Window, End}
use Rattle.tape.specs.declared.fault.Layer.{Layer}
use Rattle.tape.specs.Commands.{commands}
use Rattle.tape.specs.Text.{printed, layer_name}
use Rattle.tape.specs.Loading.{Contents, Reading, done, faulty, declined}

-- a line a command; none for the end
abbrev pub line : Command → List ℕ
line End = []
line c = printed c ++ codes "\n"

-- a line a window
abbrev pub window_lines : List ModelWindow → List ℕ
window_lines ws = flat_map line (map Window ws)

-- a number alone
abbrev pub number_line : ℕ → List ℕ
number_line n = codes "refused " ++ (decimal n ++ codes "\n")

-- a fault: its number, layer and byte offset
abbrev pub fault_line : ℕ → Layer → ℕ → List ℕ
fault_line n y o = codes "refused " ++ (decimal n ++ (codes " " ++ (layer_name y ++ (codes " " ++ (decimal o ++ codes "\n")))))

-- what a tape gives, as text
abbrev pub listed : Reading Contents → List ℕ
listed (done t) = flat_map line (commands t.partitions t.frame t.windows)
listed (faulty n vs y o) = fault_line n y o
listed (declined n) = number_line n

-- the text of a refusal; memory that is wanting gives none
abbrev pub listed_if : Option (Reading Contents) → List ℕ → Type 0
listed_if (Some given) text = text ≡ listed given
listed_if None text = ⊥
