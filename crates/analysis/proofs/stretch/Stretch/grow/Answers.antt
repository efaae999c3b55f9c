use Rattle.std.proofs.Common.{◌≡◌, ℕ, ◌+◌, ap, ◌∙◌, arith}
use Rattle.std.proofs.lemmas.Bool.{leb-true, leb-false}
use Rattle.model.specs.InTime.{Partition, demand}
use Rattle.analysis.specs.declared.stretch.Stretch.{Stretch}
use Rattle.analysis.specs.Partitions.{seen}
use Rattle.analysis.specs.Places.{ticks_of}
use Rattle.analysis.proofs.Demands.{demand_grows}
use Rattle.analysis.proofs.Growing.{grown_passes, grown_short, when_by}
use Rattle.analysis.proofs.Placing.{place_ticks}
use Rattle.analysis.proofs.stretch.Stretch.grow.Goals as goal

pub returns-then-self-clause-tells : goal.returns-then-self-clause-tells
returns-then-self-clause-tells g c =
    let places = c.args.task.now.partition.now.places.now in
    let x : Stretch = c.args.self.now in
    let p : Partition = seen g.O.LocalOrder.order c.args.task.now.partition.now in
    let h = c.requires.tested in
    let here : ticks_of places x.place ≡ p.owns (c.args.start + x.ticks) = place_ticks places x.place (c.args.start + x.ticks) h.after in
    grown_short p c.args.task.now.number places.frame c.args.start x h c.owns.result (c.owns.ensures ∙ here) (x.supply + c.from.result) (ap (λ y. x.supply + y) c.from.ensures)
    c.after-self.result x.needed c.after-self.ensures (omega (arith, h.low (x.ticks + 1) (omega arith), c.if-self.true)) (λ t l. h.low t (omega arith))

pub returns-clause-tells : goal.returns-clause-tells
returns-clause-tells g c =
    let places = c.args.task.now.partition.now.places.now in
    let x : Stretch = c.args.self.now in
    let i : ℕ = c.args.task.now.number in
    let s : ℕ = c.args.start in
    let p : Partition = seen g.O.LocalOrder.order c.args.task.now.partition.now in
    let h = c.requires.tested in
    let here : ticks_of places x.place ≡ p.owns (s + x.ticks) = place_ticks places x.place (s + x.ticks) h.after in
    let d : c.demand-self.result ≡ demand p i (x.ticks + 1) = c.demand-self.ensures in
    let got : ℕ = x.supply + c.from.result in
    let e : got ≡ x.supply + _ = ap (λ y. x.supply + y) c.from.ensures in
    when_by _ _ _
    (λ l. grown_passes p i places.frame s x h c.owns.result (c.owns.ensures ∙ here) got e (omega (arith, leb-true _ _ l)))
    (λ l. grown_short p i places.frame s x h c.owns.result (c.owns.ensures ∙ here) got e c.after-self.result c.demand-self.result c.after-self.ensures
    (omega (arith, leb-false _ _ l)) (λ t m. omega (arith, demand_grows p i (x.ticks + 1) t (omega arith))))
