-- The lines of a tape's plan.
use Rattle.std.specs.Prelude.{ℕ, List, [], ◌∷◌, ◌++◌, codes, decimal}
use Rattle.model.specs.declared.window.Window.{Window}
use Rattle.model.specs.Answers.{Answer, granted, refused}
use Rattle.model.specs.Orders.{listed as by_number}
use Rattle.model.specs.Planning.{plan}
use Rattle.tape.specs.Loading.{Contents, Reading, done, faulty, declined}
use Rattle.listing.specs.Lines.{window_lines, listed}

-- the rest of a line: a blank and a number for each
abbrev pub numbers : List ℕ → List ℕ
numbers [] = codes "\n"
numbers (v ∷ vs) = codes " " ++ (decimal v ++ numbers vs)

-- a refusal: its number, and the values that it names
abbrev pub plan_refusal : ℕ → List ℕ → List ℕ
plan_refusal n vs = codes "refused" ++ numbers (n ∷ vs)

-- a line a window, or one line for the refusal
abbrev pub plan_lines : Answer (List Window) → List ℕ
plan_lines (granted ws) = window_lines ws
plan_lines (refused n vs) = plan_refusal n vs

-- the plan of what a tape gives, in the listed order, for the tape's frame and a list of 8 places; a fault as in its listing
abbrev pub planned : Reading Contents → List ℕ
planned (done t) = plan_lines (plan by_number t.partitions t.frame 8)
planned (faulty n vs y o) = listed (faulty n vs y o)
planned (declined n) = listed (declined n)
