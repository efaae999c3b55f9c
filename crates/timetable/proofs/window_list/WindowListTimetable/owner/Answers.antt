use Rattle.std.proofs.Common.{◌≡◌, ◌%◌, ◌∙◌, arith}
use Rattle.std.specs.Prelude.{slice_get}
use Rattle.std.proofs.lemmas.Grind.{common_steps}
use Rattle.std.proofs.lemmas.Option.{gets}
use Rattle.timetable.proofs.Sequences.{owner_by_point, owner_if_begun}
use Rattle.timetable.proofs.window_list.WindowListTimetable.owner.Goals as goal

pub returns : goal.returns
returns c =
    let t = c.args.self.now in
    let place = c.args.tick % t.frame in
    let found : c.map.result ≡ owner_if_begun place (slice_get t.windows.items c.ended_by-next.result) = grind (arith, common_steps, gets) in
    let point = rw c.from.ensures at c.ended_by-next.ensures in
    found ∙ owner_by_point t.frame c.args.tick _ _ t.allowed point
