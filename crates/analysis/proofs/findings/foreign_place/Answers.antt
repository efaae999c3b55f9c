use Rattle.std.proofs.Common.{◌≡◌, ℕ, ◌<◌, ◌≤◌, Bool, true, false, not, Some, None, Option, sym, arith, rules}
use Rattle.std.specs.Option.{MatchOption}
use Rattle.std.proofs.lemmas.Iterator.{first_from_Range}
use Rattle.model.specs.Modules.{Module}
use Rattle.model.specs.Ranges.{least_below}
use Rattle.model.specs.Verdicts.{foreign_place, owner_known}
use Rattle.model.proofs.Ranges.{none_least, some_least}
use Rattle.draft.specs.Drafts.{module_of}
use Rattle.analysis.specs.declared.owners.Owners.{Owners}
use Rattle.analysis.specs.Owners.{drawn}
use Rattle.analysis.proofs.findings.foreign_place.Goals as goal

least_from : (test : ℕ → Bool) (n : ℕ) (r : Option ℕ) →
    MatchOption r ((k : ℕ) → 0 ≤ k → k < n → test k ≡ false) (λ i. (0 ≤ i) × (i < n) × (test i ≡ true) × ((k : ℕ) → 0 ≤ k → k < i → test k ≡ false)) →
    r ≡ least_below test n
least_from test n None h = sym (none_least test n (λ k l. h k (omega arith) l))
least_from test n (Some i) h = sym (some_least test n i (record { below = h.1; holds = h.2; least = λ k l. h.3 k (omega arith) l }))

pub returns : goal.returns
unfolding foreign_place
returns c =
    let o : Owners = c.args.owners.now in
    let m : Module = module_of c.args.draft.now in
    let foreign : ℕ → Bool = λ x. not (owner_known m ((drawn o).owner x)) in
    least_from foreign o.frame c.find.result (first_from_Range _ _ _ _ (λ x. foreign x ≡ true) (λ x. foreign x ≡ false) c.find.ensures.ran (λ x q k. search rules) (λ x q k. search rules))
