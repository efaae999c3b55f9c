-- Turns of equal length.
use Rattle.std.specs.Prelude.{ℕ, ◌*◌, ◌/◌, cond, ◌&&◌, Some, None, Option, nat_le}
use Rattle.model.specs.Timetables.{Timetable}
use Rattle.round_robin.specs.declared.turns.RoundRobin.{RoundRobin}

-- n partitions have a turn of t ticks each: place x is in turn x / t
abbrev pub turns : ℕ → ℕ → Timetable
turns n t = record { frame = n * t; owner = λ x. Some (x / t) }

abbrev pub meaning : RoundRobin → Timetable
meaning r = turns r.partitions r.turn

-- what is made means, if it is made
abbrev pub made : Option RoundRobin → Option Timetable
made (Some r) = Some (meaning r)
made None = None

-- there are 1 to 8 partitions, a turn has a tick, and the frame has at most 1024
abbrev pub allowed_turns : ℕ → ℕ → Option Timetable
allowed_turns n t = cond (nat_le 1 n && (nat_le n 8 && (nat_le 1 t && nat_le (n * t) 1024))) (Some (turns n t)) None
