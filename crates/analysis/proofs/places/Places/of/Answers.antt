use Rattle.std.proofs.Common.{◌%◌, ◌<◌, None, refl, mod-lt, arith, rules}
use Rattle.std.proofs.lemmas.List.{get_or-take}
use Rattle.model.specs.Timetables.{owned_by, owner_at}
use Rattle.analysis.specs.declared.owners.Owners.{Owners}
use Rattle.analysis.proofs.Filling.{fill}
use Rattle.analysis.proofs.places.Places.of.Goals as goal

pub loop-place-preserved : goal.loop-place-preserved
unfolding owned_by
loop-place-preserved c =
    let o : Owners = c.args.owners.now in
    let l : c.loop-place.place < c.from.result = omega (arith, c.from.ensures, c.loop-place-test.true) in
    let same = get_or-take c.from.result o.places c.loop-place.place None l in
    fill c.loop-place.invariant c.loop-place.place c.is_some_and.result refl (omega (arith, c.loop-place-test.true, o.framed.1)) (search rules)

pub returns-clause-ticks : goal.returns-clause-ticks
unfolding owner_at
returns-clause-ticks c = λ u.
    let o : Owners = c.args.owners.now in
    let l : u % o.frame < o.frame = mod-lt u o.framed.0 in
    c.loop-place.invariant.filled (u % o.frame) (omega (arith, c.loop-place-test.false))
