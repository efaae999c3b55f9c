-- The module that a draft holds: how it grows, and that it keeps the limits.
use Rattle.std.proofs.Common.{◌≡◌, ℕ, ◌<◌, Bool, true, false, cond, leb, List, [], ◌∷◌, ◌++◌, map, length, get_or, set, Some, None, vec_items, vec_len, Option, sym, refl, ap, ◌∙◌, arith}
use Rattle.std.proofs.lemmas.List.{length-map, map-set, get_or-map, set-get_or}
use Rattle.std.proofs.lemmas.Option.{cond_some}
use Rattle.std.proofs.lemmas.Bool.{and_parts, and_from, le-leb}
use Rattle.model.specs.declared.task.Task.{Task}
use Rattle.model.specs.Answers.{Answer, granted, refused, leaves_if}
use Rattle.model.specs.Modules.{task, task_within, tasks_of, within_limits, all_within, partition_within, partitions_within, module_within}
use Rattle.draft.specs.declared.draft.Partition.{Partition}
use Rattle.draft.specs.declared.draft.Draft.{Draft}
use Rattle.draft.specs.Drafts.{tasks_in, module_of, with_task}

all_within_push : (ks : List Task) (k : Task) → all_within ks ≡ true → within_limits k ≡ true → all_within (ks ++ (k ∷ [])) ≡ true
all_within_push [] k a w = and_from (within_limits k) true w refl
all_within_push (j ∷ ks) k a w =
    let both = and_parts (within_limits j) (all_within ks) a in
    and_from (within_limits j) (all_within (ks ++ (k ∷ []))) both.0 (all_within_push ks k both.1 w)

-- the tasks after a push that may have found no memory
pub all_within_pushed : (b : Bool) (ks : List Task) (k : Task) → all_within ks ≡ true → within_limits k ≡ true → all_within (cond b (ks ++ (k ∷ [])) ks) ≡ true
all_within_pushed true ks k a w = all_within_push ks k a w
all_within_pushed false ks k a w = a

-- a task that the limits let through
pub within_limits_of : (c t d : ℕ) (k : Task) → Some k ≡ task_within c t d → within_limits k ≡ true
within_limits_of c t d k e = let let_through = cond_some (within_limits (task c t d)) (task c t d) k (sym e) in ap within_limits (sym let_through.1) ∙ let_through.0

pub module_length : (d : Draft) → length (module_of d) ≡ vec_len d.partitions
module_length d = length-map (vec_items d.partitions) tasks_in ∙ sym d.partitions.ok.0

module _ (items : List Partition) (p : ℕ) (old : Partition) (h : p < length items) (is : old ≡ get_or items p old) where
  pub tasks_at : tasks_of (map tasks_in items) p ≡ tasks_in old
  tasks_at = get_or-map tasks_in items p old [] h ∙ ap tasks_in (sym is)

  tasks_put : (new : Partition) (ks : List Task) → tasks_in new ≡ ks → map tasks_in (set items p new) ≡ set (map tasks_in items) p ks
  tasks_put new ks e = map-set tasks_in items p new ∙ ap (set (map tasks_in items) p) e

  tasks_kept : (new : Partition) → tasks_in new ≡ tasks_in old → map tasks_in (set items p new) ≡ map tasks_in items
  tasks_kept new e = tasks_put new _ (e ∙ sym tasks_at) ∙ set-get_or (map tasks_in items) p []

  -- what a partition's call leaves is what the draft's leaves
  pub module_after : (new : Partition) (k : Task) (a : Option (Answer ℕ)) → tasks_in new ≡ leaves_if a (tasks_in old ++ (k ∷ [])) (tasks_in old) → map tasks_in (set items p new) ≡ leaves_if a (with_task (map tasks_in items) p k) (map tasks_in items)
  module_after new k (Some (granted n)) e = tasks_put new _ (e ∙ ap (λ ks. ks ++ (k ∷ [])) (sym tasks_at))
  module_after new k (Some (refused n vs)) e = tasks_kept new e
  module_after new k None e = tasks_kept new e

-- Every draft keeps the limits.
partition_kept : (p : Partition) → partition_within (tasks_in p) ≡ true
partition_kept p =
    let l = p.tasks.ok.0 in
    and_from (leb (length (tasks_in p)) 16) (all_within (tasks_in p)) (le-leb (length (tasks_in p)) 16 (omega (arith, l, p.ok.0))) p.ok.1

partitions_kept : (items : List Partition) → partitions_within (map tasks_in items) ≡ true
partitions_kept [] = refl
partitions_kept (p ∷ items) =
    and_from (partition_within (tasks_in p)) (partitions_within (map tasks_in items)) (partition_kept p) (partitions_kept items)

pub draft_within : (d : Draft) → module_within (module_of d) ≡ true
draft_within d =
    and_from (leb (length (module_of d)) 8) (partitions_within (module_of d)) (le-leb (length (module_of d)) 8 (omega (arith, module_length d, d.few))) (partitions_kept (vec_items d.partitions))
