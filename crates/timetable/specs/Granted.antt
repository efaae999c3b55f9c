-- Whether a check grants.
use Rattle.std.specs.Prelude.{Bool, true, false}
use Rattle.model.specs.Answers.{Answer, granted, refused}

abbrev pub is_granted : {A : Type 0} → Answer A → Bool
is_granted (granted x) = true
is_granted (refused n vs) = false
