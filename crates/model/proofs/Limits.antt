-- What it is for a module to keep the limits.
use Rattle.std.proofs.Common.{◌≡◌, ℕ, zero, suc, ◌<◌, ◌≤◌, true, leb, List, [], ◌∷◌, length, refl, ap, inl, inr, arith}
use lib.ListN.{get_or-eq_default}
use Rattle.std.proofs.lemmas.Bool.{and_parts, cases_lt, leb-true}
use Rattle.model.specs.declared.task.Task.{Task}
use Rattle.model.specs.Modules.{HasTask, Module, all_within, module_within, partition_within, partitions_within, task_in, task_of, tasks_of, within_limits}

-- the limits of a module, task by task
pub record Limits (m : Module) : Type 0 where
  pub few : length m ≤ 8
  pub sizes : (p : ℕ) → length (tasks_of m p) ≤ 16
  pub within : (p i : ℕ) → HasTask m p i → within_limits (task_in m p i) ≡ true
  pub costs : (p i : ℕ) → HasTask m p i →
      (1 ≤ (task_in m p i).cost) × ((task_in m p i).cost ≤ (task_in m p i).deadline) ×
      ((task_in m p i).deadline ≤ (task_in m p i).period) × ((task_in m p i).period ≤ 4096)

pub tasks_within : (ks : List Task) → all_within ks ≡ true → (i : ℕ) → i < length ks → within_limits (task_of ks i) ≡ true
unfolding task_of
tasks_within [] h i l = absurd (omega arith)
tasks_within (k ∷ ks) h zero l = (and_parts _ _ h).0
tasks_within (k ∷ ks) h (suc i) l = tasks_within ks (and_parts _ _ h).1 i (omega arith)

pub each_within : (m : Module) → partitions_within m ≡ true → (p : ℕ) → partition_within (tasks_of m p) ≡ true
each_within [] h p = refl
each_within (ks ∷ m) h zero = (and_parts _ _ h).0
each_within (ks ∷ m) h (suc p) = each_within m (and_parts _ _ h).1 p

pub bounds : (k : Task) → within_limits k ≡ true → (1 ≤ k.cost) × (k.cost ≤ k.deadline) × (k.deadline ≤ k.period) × (k.period ≤ 4096)
bounds k h =
    let a = and_parts (leb 1 k.cost) _ h in
    let b = and_parts (leb k.cost k.deadline) _ a.1 in
    let c = and_parts (leb k.deadline k.period) _ b.1 in
    (leb-true _ _ a.0, leb-true _ _ b.0, leb-true _ _ c.0, leb-true _ _ c.1)

pub limits : (m : Module) → module_within m ≡ true → Limits m
limits m h = record {
  few = leb-true _ _ (and_parts _ _ h).0;
  sizes = λ p. leb-true _ _ (and_parts _ _ (each p)).0;
  within = inside;
  costs = λ p i l. bounds (task_in m p i) (inside p i l);
}
  where
    each : (p : ℕ) → partition_within (tasks_of m p) ≡ true
    each = each_within m (and_parts (leb (length m) 8) (partitions_within m) h).1

    inside : (p i : ℕ) → HasTask m p i → within_limits (task_in m p i) ≡ true
    inside p i l = tasks_within (tasks_of m p) (and_parts (leb (length (tasks_of m p)) 16) (all_within (tasks_of m p)) (each p)).1 i l

-- a partition with a task is one of the module's
pub has_part : (m : Module) (p i : ℕ) → HasTask m p i → p < length m
has_part m p i l = elim (cases_lt p (length m)) [
  | inl h ↦ h
  | inr h ↦ absurd (omega (arith, ap length (get_or-eq_default m [] h)))
]
