use Rattle.std.proofs.Common.{ℕ, ◌%◌, ◌<◌, None, Option, ap, ◌∙◌, mod-eq_of_lt, arith}
use lib.ListN.{length-replicate}
use Rattle.model.specs.Timetables.{Timetable, owner_at}
use Rattle.analysis.proofs.Filling.{fill}
use Rattle.analysis.proofs.owners.Owners.draw.Goals as goal

pub loop-place-init : goal.loop-place-init
loop-place-init g c = record { size = length-replicate {A = Option ℕ} 1024 None; filled = λ u l. absurd (omega arith) }

pub loop-place-preserved : goal.loop-place-preserved
unfolding owner_at
loop-place-preserved g c =
    let t : Timetable = g.T.Timetable.means c.args.table.now in
    let x : ℕ = c.loop-place.place in
    let within = (g.met.T.Timetable.lawful c.args.table.now).frame_within in
    let l : x < t.frame = omega (arith, c.frame-frame.ensures) in
    fill c.loop-place.invariant c.from-in-loop-place.result c.owner.result c.from-in-loop-place.ensures (omega arith) (c.owner.ensures ∙ ap (λ u. t.owner (u % t.frame)) c.from.ensures ∙ ap t.owner (mod-eq_of_lt l))

pub invariant_of-result : goal.invariant_of-result
invariant_of-result g c =
    let within = (g.met.T.Timetable.lawful c.args.table.now).frame_within in
    record { framed = (omega (arith, c.frame-frame.ensures), omega (arith, c.frame-frame.ensures)) }

pub returns : goal.returns
returns g c = record { frame = c.frame-frame.ensures; owner = λ x l. c.loop-place.invariant.filled x (omega (arith, c.frame-frame.ensures)) }
