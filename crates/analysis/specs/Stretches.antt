-- Stretches of ticks, looked at from a start on, ever longer.
use Rattle.std.specs.Prelude.{◌≡◌, ℕ, ◌+◌, ◌%◌, ◌<◌, ◌≤◌}
use Rattle.model.specs.InTime.{Partition, supply, demand}
use Rattle.analysis.specs.declared.stretch.Stretch.{Stretch}

-- No stretch of 1 tick or more, up to this one, supplies what task i demands. It starts at s; `place` is the place after it in
-- a frame of f, and no longer stretch demands less than `needed`.
pub record TooShort (p : Partition) (i f s : ℕ) (x : Stretch) : Type 0 where
  pub supplied : x.supply ≡ supply p s x.ticks
  pub few : x.supply ≤ x.ticks
  pub after : x.place ≡ (s + x.ticks) % f
  pub short : (t : ℕ) → 1 ≤ t → t ≤ x.ticks → supply p s t < demand p i t
  pub low : (t : ℕ) → x.ticks < t → x.needed ≤ demand p i t
