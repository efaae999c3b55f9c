-- Turns of equal length are a lawful timetable.
use Rattle.std.specs.Prelude.{◌≡◌, ℕ, ◌*◌, ◌/◌, ◌<◌, ◌≤◌}
use Rattle.std.proofs.Common.{div-lt_iff_lt-mul, mul-pos, arith}
use Rattle.model.specs.Timetables.{LawfulTimetable}
use Rattle.round_robin.specs.Turns.{turns}

module _ (n t : ℕ) (some : 1 ≤ n) (few : n ≤ 8) (tick : 1 ≤ t) (short : n * t ≤ 1024) where
  pub some_place : 1 ≤ n * t
  some_place = omega (arith, mul-pos {m = n} {n = t} (omega arith) (omega arith))

  -- a place of the frame is in the turn of a partition
  pub in_turn : (x : ℕ) → x < n * t → x / t < n
  in_turn x l = (div-lt_iff_lt-mul {k = t} {x = x} {y = n} (omega arith)).1 l

  pub turns_lawful : LawfulTimetable (turns n t)
  turns_lawful = record {
    frame_within = (some_place, short);
    owners_within = λ x p l e. let z : x / t ≡ p = cc in omega (arith, in_turn x l, z);
  }
