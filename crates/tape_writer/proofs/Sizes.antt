-- How many bytes partitions have.
use Rattle.std.proofs.Common.{◌≡◌, ◌+◌, ◌*◌, List, map, length, sum_by, sym, ap, ◌∙◌}
use Rattle.std.proofs.lemmas.List.Folds.{fold-map}
use Rattle.model.specs.Modules.{Module}
use Rattle.draft.specs.declared.draft.Partition.{Partition}
use Rattle.draft.specs.Drafts.{tasks_in}
use Rattle.tape.proofs.Lengths.{partitions_size}

pub sizes_of : (ps : List Partition) (m : Module) → map tasks_in ps ≡ m → sum_by (λ p. 1 + 7 * length (tasks_in p)) ps ≡ partitions_size m
sizes_of ps m e = sym (fold-map _ tasks_in 0 ps) ∙ ap partitions_size e
