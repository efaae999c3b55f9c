use Rattle.std.proofs.Common.{◌≡◌, ℕ, ◌<◌, ◌≤◌, Bool, true, ap, ◌∙◌, subst, arith}
use Rattle.std.proofs.lemmas.Bool.Decides.{when_true}
use Rattle.model.specs.InTime.{D, Partition, PassesIn}
use Rattle.model.proofs.Gaps.{passes_at}
use Rattle.analysis.specs.declared.places.Places.{Places}
use Rattle.analysis.specs.Partitions.{seen}
use Rattle.analysis.specs.Responses.{wants_first}
use Rattle.analysis.proofs.Growing.{begun_short, never_passes, passes_wider}
use Rattle.analysis.proofs.Placing.{ticks_again}
use Rattle.analysis.proofs.Tried.{TriedPass, tried_more, tried_all, tried_below}
use Rattle.analysis.proofs.local_task.LocalTask.response.Goals as goal
use Rattle.analysis.proofs.local_task.LocalTask.response.Goals.{else-starts-test, then-starts-test+else-not-tries+then-stretch-deadline}

pub lengths-init : goal.lengths-init
lengths-init g c = record {
  none_fails = c.starts.invariant.none_fails;
  within = omega (arith, ap (λ x. x.ticks) c.at-stretch.ensures);
  short = begun_short _ _ _ _ _ c.at-stretch.ensures;
}

pub starts-preserved : goal.starts-preserved
starts-preserved g c =
    let p : Partition = seen g.O.LocalOrder.order c.args.self.now.partition.now in
    let i : ℕ = c.args.self.now.number in
    let n : ℕ = c.grow.new.self.ticks in
    let q : ℕ = c.max-longest.result in
    let v : PassesIn p i n c.starts.start = when_true _ _ c.if-grow.true c.grow.ensures.tells in
    let l : n ≤ q = omega (arith, c.max-longest.ensures) in
    let m : c.starts.longest ≤ q = omega (arith, c.max-longest.ensures) in
    record {
      none_fails = c.lengths.invariant.none_fails;
      within = omega (arith, c.max-longest.ensures, c.starts.invariant.within, c.grow.ensures.grown, c.lengths.invariant.within, c.if-stretch-deadline.false);
      pass = tried_more p (wants_first c.args.wanted) i c.starts.longest c.starts.start q c.starts.invariant.pass m (passes_wider p i n q c.starts.start l v);
    }

pub returns-in-Some : goal.returns-in-Some
returns-in-Some g c =
    let p : Partition = seen g.O.LocalOrder.order c.args.self.now.partition.now in
    let i : ℕ = c.args.self.now.number in
    let places : Places = c.args.self.now.partition.now.places.now in
    let s : ℕ = c.starts.start in
    elim c.starts-test.branch [
      | else-starts-test w ↦ let z : ◌≡◌ {A = ℕ} 0 1 = cc (c.starts.invariant.none_fails, w.failing-is, c.in-Some.is) in absurd (omega arith)
      | then-starts-test+else-not-tries+then-stretch-deadline w ↦
          let e : c.in-Some.start.start ≡ s = cc (w.failing-is, c.in-Some.is) in
          let all : (r : ℕ) → wants_first c.args.wanted ≡ true → r < c.in-Some.start.start → PassesIn p i (D p i) r =
          λ r b l. passes_wider p i c.starts.longest (D p i) r (omega (arith, c.starts.invariant.within, c.deadline-deadline.ensures)) (tried_below p i c.starts.longest s (let P : Bool → Type 0 = λ q. TriedPass p q i c.starts.longest s in subst P b c.starts.invariant.pass) r (omega arith)) in (
            omega (arith, w.starts-test.true),
            (λ v. never_passes p i places.frame s w.lengths.stretch w.lengths.invariant.short (w.if-stretch-deadline.true ∙ c.deadline-deadline.ensures) (passes_at p i (D p i) e v)),
            (λ b r l. all r b l),
          )
    ]

pub returns-in-None : goal.returns-in-None
returns-in-None g c =
    let p : Partition = seen g.O.LocalOrder.order c.args.self.now.partition.now in
    let i : ℕ = c.args.self.now.number in
    let places : Places = c.args.self.now.partition.now.places.now in
    elim c.starts-test.branch [
      | else-starts-test w ↦
          let h : TriedPass p (wants_first c.args.wanted) i c.starts.longest places.frame = λ s l t. c.starts.invariant.pass s (omega (arith, w.starts-test.false)) t in
          (omega (arith, c.starts.invariant.within, c.deadline-deadline.ensures), tried_all p (wants_first c.args.wanted) i c.starts.longest places.frame (ticks_again c.args.self.now.partition.now g.O.LocalOrder.order) h)
      | then-starts-test+else-not-tries+then-stretch-deadline w ↦ let z : ◌≡◌ {A = ℕ} 0 1 = cc (w.failing-is, c.in-None.is) in absurd (omega arith)
    ]
