use Rattle.std.proofs.Common.{◌≡◌, ◌<◌, [], ◌∷◌, ◌++◌, map, length, take, replicate, sym, ap, ◌∙◌, arith}
use Rattle.std.proofs.lemmas.List.{map_push, replicate_more, take_all, take_more}
use Rattle.model.specs.Machine.{untouched}
use Rattle.draft.specs.Drafts.{module_of}
use Rattle.jobs.specs.Tables.{state_of, tasks_in}
use Rattle.executive.proofs.running.fresh_tables.Goals as goal

pub loop-partition-preserved : goal.loop-partition-preserved
loop-partition-preserved c =
    let m = module_of c.args.draft.now in
    let p = c.loop-partition.partition in
    let t = c.in_ok-table.table in
    let made = c.in_ok-table.ensures in
    let items = c.in_ok-push.ensures.items in
    let l : p < length m = omega arith in (
      ap (map tasks_in) items ∙ map_push tasks_in _ t ∙ ap (λ ms. ms ++ (tasks_in t ∷ [])) c.loop-partition.invariant.0 ∙ ap (λ k. take p m ++ (k ∷ [])) made.0 ∙ sym (take_more m p [] l),
      ap (map state_of) items ∙ map_push state_of _ t ∙ ap (λ xs. xs ++ (state_of t ∷ [])) c.loop-partition.invariant.1 ∙ ap (λ x. replicate p untouched ++ (x ∷ [])) made.1 ∙ replicate_more p untouched,
    )

pub returns : goal.returns
returns c =
    let m = module_of c.args.draft.now in
    let n : c.loop-partition.partition ≡ length m = omega arith in
    record {
      tasks = c.loop-partition.invariant.0 ∙ take_all _ m (omega arith);
      states = c.loop-partition.invariant.1 ∙ ap (λ k. replicate k untouched) n;
    }
