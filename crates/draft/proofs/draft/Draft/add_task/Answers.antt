use Rattle.std.proofs.Common.{◌≡◌, ◌<◌, length, Some, vec_items, arith}
use Rattle.std.proofs.lemmas.Option.{MatchOption-at_some}
use Rattle.model.specs.Modules.{task}
use Rattle.draft.specs.Refusals.{told}
use Rattle.draft.proofs.Modules.{module_after}
use Rattle.draft.proofs.draft.Draft.add_task.Goals as goal

pub returns-clause-after : goal.returns-clause-after
returns-clause-after c =
    let v = c.args.self.now.partitions in
    let l = v.ok.0 in
    let got : c.get_mut.result ≡ Some c.in_ok-ok_or.field-0 = c.in_ok-ok_or.ensures.ok_part in
    let h : c.args.partition < length (vec_items v) = grind (arith, got, l, c.get_mut.ensures.variant) in
    module_after (vec_items v) c.args.partition c.in_ok-ok_or.field-0.now h (MatchOption-at_some _ _ _ got c.get_mut.ensures.value) c.add.new.self (task c.args.cost c.args.period c.args.deadline) (told c.add.result) c.add.ensures.after
