use Rattle.std.proofs.Common.{◌≡◌, ℕ, ◌+◌, ◌%◌, Bool, true, false, cond, sym, ap, ◌∙◌, arith}
use native.Mathlib.Nat.{mod-add-mod}
use Rattle.model.specs.InTime.{supply}
use Rattle.model.specs.Timetables.{Timetable, owner_at, owned_by}
use Rattle.model.proofs.Supplies.{supply_more, supply_none}
use Rattle.timetable.specs.Owned.{owning}
use Rattle.timetable.proofs.stretch.supply.Goals as goal
use Rattle.timetable.proofs.stretch.supply.Goals.{else-is_owner, then-is_owner}

-- counted from its place in the frame, a tick has the same owner
owner_from_place : (t : Timetable) (s i : ℕ) → owner_at t (s % t.frame + i) ≡ owner_at t (s + i)
unfolding owner_at
owner_from_place t s i = ap t.owner (mod-add-mod s t.frame i)

-- one tick more
one_more : (t : Timetable) (p s i place n : ℕ) (own : Bool) → place ≡ s % t.frame → n ≡ supply (owning t p) s i → own ≡ owned_by p (owner_at t (place + i)) → n + cond own 1 0 ≡ supply (owning t p) s (i + 1)
one_more t p s i place n own e h k =
    let o : own ≡ owned_by p (owner_at t (s + i)) = k ∙ ap (λ x. owned_by p (owner_at t (x + i))) e ∙ ap (owned_by p) (owner_from_place t s i) in
    sym (supply_more (owning t p) s i ∙ rw (← o, ← h))

pub loop-i-init : goal.loop-i-init
loop-i-init g c = (sym (supply_none (owning (g.T.Timetable.means c.args.table.now) c.args.partition) c.args.start), omega arith)

pub loop-i-preserved : goal.loop-i-preserved
loop-i-preserved g c =
    let t = g.T.Timetable.means c.args.table.now in
    let more : (own : Bool) → c.is_owner.result ≡ own → c.loop-i.count + cond own 1 0 ≡ supply (owning t c.args.partition) c.args.start (c.loop-i.i + 1) =
    λ own e. one_more t c.args.partition c.args.start c.loop-i.i (c.args.start % c.from.result) c.loop-i.count own
    (ap (λ f. c.args.start % f) (c.from.ensures ∙ c.frame.ensures)) c.loop-i.invariant.0
    (sym e ∙ c.is_owner.ensures ∙ ap (owned_by c.args.partition) (c.owner.ensures ∙ ap (λ i. owner_at t (c.args.start % c.from.result + i)) c.from-in-loop-i.ensures)) in
    elim c.if-is_owner.branch [
      | then-is_owner w ↦ (w.count-is ∙ more true w.if-is_owner.true, omega (arith, w.count-is, c.loop-i.invariant.1))
      | else-is_owner w ↦ (w.count-is ∙ omega (arith, more false w.if-is_owner.false), omega (arith, w.count-is, c.loop-i.invariant.1))
    ]
