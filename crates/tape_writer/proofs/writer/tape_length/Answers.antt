use Rattle.std.proofs.Common.{◌≡◌, ◌≤◌, ◌+◌, ◌*◌, ◌^◌, sum_by, length, ap, arith, rules}
use Rattle.std.proofs.iter.runs.Made.{chains}
use Rattle.std.proofs.lemmas.List.{length-map}
use Rattle.std.proofs.lemmas.Iterator.{YieldsList-from_slice}
use Rattle.std.proofs.lemmas.Iterator.Adapters.{fits_from_length, at_most_from_yields_List}
use Rattle.draft.specs.Drafts.{tasks_in, module_of}
use Rattle.draft.proofs.Modules.{module_length, draft_within}
use Rattle.tape.proofs.Lengths.{module_short, encode_length}
use Rattle.tape_writer.proofs.Sizes.{sizes_of}
use borrow.Author.Tests.{tests}
use Rattle.tape_writer.proofs.writer.tape_length.Goals as goal

pub sum-partitions-requires-clause-fits : goal.sum-partitions-requires-clause-fits
sum-partitions-requires-clause-fits c =
    let d = c.args.draft.now in
    let ps = c.partitions.result.now in
    let few : length ps ≤ 8 = omega (arith, module_length d, d.few, ap length c.partitions.ensures, length-map ps tasks_in) in
    fits_from_length _ _ 8 (2 ^ 64) (at_most_from_yields_List (YieldsList-from_slice ps cc) few) c.map.ensures.closure (omega arith) (λ x r q k. let few = x.now.ok.0 in let l = x.now.tasks.ok.0 in search (rules, tests))

pub overflow_add-result-3 : goal.overflow_add-result-3
overflow_add-result-3 c =
    let d = c.args.draft.now in
    let total : c.sum-partitions.result ≡ sum_by (λ p. 1 + 7 * length (tasks_in p)) c.partitions.result.now = search (rules, chains) in
    record { fits = omega (arith, total, sizes_of c.partitions.result.now (module_of d) c.partitions.ensures, module_short (module_of d) (draft_within d)) }

pub returns : goal.returns
returns c f =
    let m = module_of c.args.draft.now in
    let total : c.sum-partitions.result ≡ sum_by (λ p. 1 + 7 * length (tasks_in p)) c.partitions.result.now = search (rules, chains) in
    omega (arith, total, sizes_of c.partitions.result.now m c.partitions.ensures, encode_length m f c.args.windows.now)
