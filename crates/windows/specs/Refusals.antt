-- The refusals of window lists, by number and values.
use Rattle.std.specs.Prelude.{ℕ, List, [], ◌∷◌, Ok, Err, Result}
use Rattle.model.specs.Answers.{Answer, granted, refused}
use Rattle.windows.specs.declared.refusal.WindowRefusal.{WindowRefusal}
use Rattle.windows.specs.declared.refusal.WindowRefusal.TheVariants.{FrameLength, TooManyWindows, Misplaced, Overlap}

abbrev pub number : WindowRefusal → ℕ
number FrameLength = 51
number TooManyWindows = 52
number (Misplaced i) = 53
number (Overlap i) = 54

-- 53 and 54 name the window
abbrev pub values : WindowRefusal → List ℕ
values FrameLength = []
values TooManyWindows = []
values (Misplaced i) = i ∷ []
values (Overlap i) = i ∷ []

abbrev pub told : Result (Unit {0}) WindowRefusal → Answer (Unit {0})
told (Ok x) = granted x
told (Err e) = refused (number e) (values e)
