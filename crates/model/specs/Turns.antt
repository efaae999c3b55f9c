-- A turn as text: its owner, its task and how the task's job then stands, with `-` for none.
use Rattle.std.specs.Prelude.{ℕ, List, ◌++◌, codes, decimal}
use Rattle.model.specs.declared.reply.Progress.{Progress}
use Rattle.model.specs.declared.reply.Progress.TheVariants.{Open as still_open, Spent as spent}
use Rattle.model.specs.declared.reply.Turn.{Turn}
use Rattle.model.specs.declared.reply.Turn.TheVariants.{Spare as spare, Idle as idle, Ran as ran}

-- how a job stands after it ran
abbrev pub job_name : Progress → List ℕ
job_name still_open = codes "open"
job_name spent = codes "spent"

-- what a turn is printed as
abbrev pub turn_text : Turn → List ℕ
turn_text spare = codes "- - -"
turn_text (idle p) = decimal p ++ codes " - -"
turn_text (ran p i f) = decimal p ++ (codes " " ++ (decimal i ++ (codes " " ++ job_name f)))
