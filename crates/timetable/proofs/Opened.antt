-- What is opened, by whether its check grants it.
use Rattle.std.proofs.Common.{◌≡◌, ℕ, ◌%◌, true, refl, ap}
use Rattle.std.proofs.lemmas.Bool.{false≢true}
use Rattle.model.specs.Answers.{Answer, granted, refused}
use Rattle.model.specs.Timetables.{Timetable, opened, owner_at}
use Rattle.model.proofs.Timetables.{Grants}
use Rattle.timetable.specs.Granted.{is_granted}

pub grants : (a : Answer (Unit {0})) → is_granted a ≡ true → Grants a
grants (granted u) e = (u, refl)
grants (refused n vs) e = absurd (false≢true e)

pub opened_granted : (a : Answer (Unit {0})) (t : Timetable) → is_granted a ≡ true → opened a t ≡ t
unfolding opened
opened_granted (granted u) t e = refl
opened_granted (refused n vs) t e = absurd (false≢true e)

-- the owner of a tick, where the check grants
pub owner_granted : (a : Answer (Unit {0})) (t : Timetable) (u : ℕ) → is_granted a ≡ true → owner_at (opened a t) u ≡ t.owner (u % t.frame)
unfolding owner_at
owner_granted a t u e = ap (λ s. s.owner (u % s.frame)) (opened_granted a t e)
