use Rattle.std.proofs.Common.{arith}
use Rattle.std.proofs.lemmas.Grind.{common_steps}
use Rattle.draft.specs.Drafts.{module_of}
use Rattle.listing.proofs.Lines.{all_lines}
use Rattle.listing.proofs.contents.contents.Goals as goal

pub returns : goal.returns
returns c =
    grind (arith, common_steps, all_lines c.partitions-partition-items.result.now (module_of c.args.draft.now) c.args.frame c.args.windows.now c.partitions-partition-items.ensures)
