-- The ticks that a clock shows.
use Rattle.std.specs.Prelude.{ℕ, ◌+◌, cond, Some, None, Option, nat_lt}
use Rattle.model.specs.Machine.{last_tick}

-- the tick after a tick; none after the last
abbrev pub next_tick : ℕ → Option ℕ
next_tick u = cond (nat_lt u last_tick) (Some (u + 1)) None
