-- The refusals of the planner, by number and values.
use Rattle.std.specs.Prelude.{ℕ, List, [], ◌∷◌, Ok, Err, Result}
use Rattle.model.specs.Answers.{Answer, granted, refused}
use Rattle.planner.specs.declared.refusal.PlanRefusal.{PlanRefusal}
use Rattle.planner.specs.declared.refusal.PlanRefusal.TheVariants.{FrameLength, ShortList, Infeasible, ExceedsFrame}

abbrev pub number : PlanRefusal → ℕ
number FrameLength = 51
number ShortList = 63
number (Infeasible p) = 61
number ExceedsFrame = 62

-- 61 names the partition
abbrev pub values : PlanRefusal → List ℕ
values FrameLength = []
values ShortList = []
values (Infeasible p) = p ∷ []
values ExceedsFrame = []

-- what the planner answers: how many windows it wrote, or its refusal
abbrev pub told : Result ℕ PlanRefusal → Answer ℕ
told (Ok n) = granted n
told (Err e) = refused (number e) (values e)
