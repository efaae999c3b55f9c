-- Share cycles: what an opened one means, and the refusals of the others.
use Rattle.std.specs.Prelude.{ℕ, [], Ok, Err, Result}
use Rattle.model.specs.Answers.{Answer, granted, refused}
use Rattle.model.specs.Timetables.{Timetable, share_timetable}
use Rattle.timetable.specs.declared.share_cycle.ShareCycle.{ShareCycle}
use Rattle.timetable.specs.declared.share_cycle.CycleRefusal.{CycleRefusal}
use Rattle.timetable.specs.declared.share_cycle.CycleRefusal.TheVariants.{FrameLength, TooManyShares}

abbrev pub number : CycleRefusal → ℕ
number FrameLength = 51
number TooManyShares = 55

abbrev pub told : Result (Unit {0}) CycleRefusal → Answer (Unit {0})
told (Ok x) = granted x
told (Err e) = refused (number e) []

abbrev pub meaning : ShareCycle → Timetable
meaning t = share_timetable t.frame t.shares
