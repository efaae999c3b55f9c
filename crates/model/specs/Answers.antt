-- What calls answer, by the numbers of the table of refusals.
use Rattle.std.specs.Prelude.{◌≡◌, ℕ, List, Some, None, Option}

-- A call gives a value, or is refused: the refusal's number, with the values that it names.
pub data Answer (A : Type 0) : Type 0 where
  granted : A → Answer A
  refused : ℕ → List ℕ → Answer A

-- the second answer, where the first call is not refused
abbrev pub and_then : {A B : Type 0} → Answer A → Answer B → Answer B
and_then (granted x) b = b
and_then (refused n vs) b = refused n vs

-- what a call leaves of something: changed where the call is granted, else as it was
abbrev pub leaves : {A B : Type 0} → Answer A → B → B → B
leaves (granted x) changed was = changed
leaves (refused n vs) changed was = was

-- the call is granted
abbrev pub Granted : {A : Type 0} → Answer A → Type 0
Granted {A} a = (x : A) × (a ≡ granted x)

-- the number of the refusal, if the call is refused
abbrev pub number_of : {A : Type 0} → Answer A → Option ℕ
number_of (granted x) = None
number_of (refused n vs) = Some n

-- A call that allocates may say that memory is wanting (`None`): all is left as it was, and P says when that may be.
abbrev pub Gives : {A : Type 0} → Option A → A → Type 0 → Type 0
Gives (Some a) b P = a ≡ b
Gives None b P = P

-- what such a call leaves of something
abbrev pub leaves_if : {A B : Type 0} → Option (Answer A) → B → B → B
leaves_if (Some a) changed was = leaves a changed was
leaves_if None changed was = was
