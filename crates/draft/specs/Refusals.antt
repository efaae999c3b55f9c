-- The refusals of drafts, by number.
use Rattle.std.specs.Prelude.{ℕ, [], Some, None, Ok, Err, Option, Result}
use Rattle.model.specs.Answers.{Answer, granted, refused}
use Rattle.draft.specs.declared.refusal.DraftRefusal.{DraftRefusal}
use Rattle.draft.specs.declared.refusal.DraftRefusal.TheVariants.{TooManyPartitions, NoSuchPartition, TooManyTasks, OutsideLimits, NoMemory}

-- want of memory has no number
abbrev pub number : DraftRefusal → Option ℕ
number TooManyPartitions = Some 11
number NoSuchPartition = Some 12
number TooManyTasks = Some 13
number OutsideLimits = Some 14
number NoMemory = None

-- what a draft's call answers; None where memory is wanting
abbrev pub refused_by : Option ℕ → Option (Answer ℕ)
refused_by (Some n) = Some (refused n [])
refused_by None = None

abbrev pub told : Result ℕ DraftRefusal → Option (Answer ℕ)
told (Ok x) = Some (granted x)
told (Err e) = refused_by (number e)
