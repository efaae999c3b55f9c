use Rattle.std.proofs.Common.{◌≡◌, ℕ, ◌<◌, List, None, Some, Ok, Err, Option, length, take, sym, ap, ◌∙◌, arith, refl}
use Rattle.std.specs.Option.{ok_or}
use Rattle.std.proofs.lemmas.List.{length-set, take_more_set}
use Rattle.std.proofs.lemmas.Result.{err_from_is_err_and}
use Rattle.model.specs.Answers.{granted}
use Rattle.draft.specs.Drafts.{module_of}
use Rattle.draft.proofs.Modules.{module_length}
use Rattle.planner.proofs.Windows.{after_none, qs_all, qs_missing, qs_more}
use Rattle.planner.proofs.share.FramedDraft.least_shares.Goals as goal

missing : {A E : Type 0} (o : Option A) (d e : E) → ok_or o d ≡ Err e → (o ≡ None) × (e ≡ d)
missing None d e h = (refl, cc)
missing (Some a) d e h = absurd (cc)

found : {A E : Type 0} (o : Option A) (d : E) (a : A) → ok_or o d ≡ Ok a → o ≡ Some a
found None d a h = absurd (cc)
found (Some b) d a h = cc

pub loop-partition-init : goal.loop-partition-init
loop-partition-init g c = (refl, after_none _)

pub bounds-shares-partition : goal.bounds-shares-partition
bounds-shares-partition g c = let d = c.args.self.now.draft.now in omega (arith, module_length d, d.few)

pub returns-in_err-share : goal.returns-in_err-share
returns-in_err-share g c =
    let p = err_from_is_err_and c.from_residual.result c.from_residual.ensures.1 in
    let none = missing _ _ _ (sym c.ok_or.ensures.value ∙ c.in_err-share.was) in
    rw (p.1, p.2, none.1) (c.loop-partition.invariant.1 ∙ qs_missing _ _ _ _ _ (omega arith) (sym c.least_share.ensures ∙ none.0))

pub loop-partition-preserved : goal.loop-partition-preserved
loop-partition-preserved g c =
    let d = c.args.self.now.draft.now in
    let i : ℕ = c.loop-partition.partition in
    let qs : List ℕ = c.loop-partition.shares in
    let l : i < length qs = omega (arith, module_length d, d.few, c.loop-partition.invariant.0) in
    let some : c.least_share.result ≡ Some c.in_ok-share.share = found _ _ _ (sym c.ok_or.ensures.value ∙ c.in_ok-share.was) in
    let more = qs_more _ _ _ i (take i qs) c.in_ok-share.share (omega arith) (sym c.least_share.ensures ∙ some) in (
      length-set qs i c.in_ok-share.share ∙ c.loop-partition.invariant.0,
      c.loop-partition.invariant.1 ∙ rw (take_more_set qs i c.in_ok-share.share l) more,
    )

pub returns : goal.returns
returns g c =
    let n : c.loop-partition.partition ≡ length (module_of c.args.self.now.draft.now) = omega arith in
    c.loop-partition.invariant.1 ∙ (qs_all _ _ _ _ _ (omega arith) ∙ ap (λ k. granted (take k c.loop-partition.shares)) n)
