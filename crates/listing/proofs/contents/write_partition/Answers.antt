use Rattle.std.proofs.Common.{arith}
use Rattle.std.proofs.lemmas.Grind.{common_steps}
use Rattle.std.proofs.lemmas.List.Folds.{flat_map-map}
use Rattle.tape.specs.declared.command.Command.TheVariants as command
use Rattle.listing.specs.Lines.{line}
use Rattle.listing.proofs.contents.write_partition.Goals as goal

pub returns : goal.returns
returns c = grind (arith, common_steps, flat_map-map line command.Task c.args.tasks.now)
