-- Demand: as it is summed task by task, and that it grows with the ticks.
use Rattle.std.proofs.Common.{◌≡◌, ℕ, ◌+◌, ◌-◌, ◌*◌, ◌/◌, ◌%◌, ◌<◌, ◌≤◌, min, Bool, true, false, cond, leb, List, length, get_or, refl, ap, ◌∙◌, inl, inr, mod-lt, add-mul, mul-le-mul_left, div-add-mod', le-div_iff_mul-le, div-mul-le_self, add-one, arith}
use native.Mathlib.Nat.{div-eq_of_lt-le, div-zero}
use Rattle.std.proofs.lemmas.Bool.{and_parts, cases_eq, leb-true}
use Rattle.model.specs.declared.task.Task.{Task}
use Rattle.model.specs.InTime.{C, Partition, T, ceil, demand, partition_of, size, sum_before}
use Rattle.model.specs.Modules.{all_within, partition_within, partitions_within, task, task_of, tasks_of}
use Rattle.model.specs.Orders.{Order, record_of}
use Rattle.model.specs.Ranges.{sum_below}
use Rattle.model.proofs.Limits.{bounds, each_within, tasks_within}
use Rattle.model.proofs.Sums.{before_le}
use Rattle.draft.specs.declared.draft.Draft.{Draft}
use Rattle.draft.specs.Drafts.{module_of}
use Rattle.draft.proofs.Modules.{draft_within}

-- the limits of a partition's tasks
module _ (ks : List Task) (h : partition_within ks ≡ true) where
  pub few : length ks ≤ 16
  few = leb-true _ _ (and_parts (leb (length ks) 16) (all_within ks) h).0

  pub limits_at : (j : ℕ) → j < length ks → (1 ≤ (get_or ks j (task 0 0 0)).cost) × ((get_or ks j (task 0 0 0)).cost ≤ (get_or ks j (task 0 0 0)).deadline) × ((get_or ks j (task 0 0 0)).deadline ≤ (get_or ks j (task 0 0 0)).period) × ((get_or ks j (task 0 0 0)).period ≤ 4096)
  unfolding task_of
  limits_at j l = bounds (get_or ks j (task 0 0 0)) (tasks_within ks (and_parts (leb (length ks) 16) (all_within ks) h).1 j l)

-- a quotient rounded up, as it is computed
pub ceil_computed : (t d : ℕ) → 1 ≤ d → ceil t d ≡ t / d + min 1 (t % d)
unfolding ceil
ceil_computed t d h =
    let e = div-add-mod' t d in
    let m : t % d < d = mod-lt t h in
    elim (cases_eq (t % d) 0) [
      | inl z ↦
          let g : min 1 (t % d) ≡ 0 = omega arith in
          div-eq_of_lt-le d (omega (arith, add-mul (t / d) (min 1 (t % d)) d, ap (λ x. x * d) g)) (omega (arith, add-mul (t / d + min 1 (t % d)) 1 d, add-mul (t / d) (min 1 (t % d)) d, ap (λ x. x * d) g))
      | inr z ↦
          let g : min 1 (t % d) ≡ 1 = omega arith in
          div-eq_of_lt-le d (omega (arith, add-mul (t / d) (min 1 (t % d)) d, ap (λ x. x * d) g)) (omega (arith, add-mul (t / d + min 1 (t % d)) 1 d, add-mul (t / d) (min 1 (t % d)) d, ap (λ x. x * d) g))
    ]

ceil_grows : (t u d : ℕ) → t ≤ u → ceil t d ≤ ceil u d
unfolding ceil
ceil_grows t u d h = elim (cases_eq d 0) [
  | inl z ↦ let a : (t + (d - 1)) / d ≡ 0 = ap (λ x. (t + (d - 1)) / x) z ∙ div-zero (t + (d - 1)) in omega arith
  | inr z ↦ let l : 0 < d = omega arith in (le-div_iff_mul-le l).1 (omega (arith, div-mul-le_self (t + (d - 1)) d))
]

pub demand_grows : (p : Partition) (i t u : ℕ) → t ≤ u → demand p i t ≤ demand p i u
unfolding demand
demand_grows p i t u h = omega (arith, before_le p i (λ j. C p j * ceil t (T p j)) (λ j. C p j * ceil u (T p j)) (λ j l e. mul-le-mul_left (C p j) (ceil_grows t u (T p j) h)))

-- the sum over the tasks, one by one
module _ (order : Order) (p : ℕ) (ks : List Task) (i t : ℕ) where
  abbrev goes : ℕ → Bool
  goes j = order p (record_of ks j) (record_of ks i)

  abbrev added : ℕ → ℕ
  added j = cond (goes j) ((task_of ks j).cost * ceil t (task_of ks j).period) 0

  -- the cost of task i, and what the tasks below n add
  pub summed : ℕ → ℕ
  summed n = (get_or ks i (task 0 0 0)).cost + sum_below n added

  pub summed_none : summed 0 ≡ (get_or ks i (task 0 0 0)).cost
  unfolding summed sum_below
  summed_none = omega arith

  pub summed_all : (owns : ℕ → Bool) → summed (length ks) ≡ demand (partition_of order p ks owns) i t
  unfolding summed demand sum_before size task_of
  summed_all owns = refl

  module _ (n : ℕ) where
    next : summed (n + 1) ≡ summed n + added n
    unfolding summed sum_below
    next = rw add-one (omega arith)

    -- a task that goes before, and one that does not
    pub summed_before : goes n ≡ true → 1 ≤ (get_or ks n (task 0 0 0)).period → (x y : ℕ) → x ≡ (get_or ks n (task 0 0 0)).cost →
        y ≡ t / (get_or ks n (task 0 0 0)).period + min 1 (t % (get_or ks n (task 0 0 0)).period) → summed (n + 1) ≡ summed n + x * y
    unfolding task_of
    summed_before e h x y a b =
        let z : added n ≡ (get_or ks n (task 0 0 0)).cost * ceil t (get_or ks n (task 0 0 0)).period = ap {B = ℕ} (λ q. cond q ((get_or ks n (task 0 0 0)).cost * ceil t (get_or ks n (task 0 0 0)).period) 0) e in
        let w : (get_or ks n (task 0 0 0)).cost * ceil t (get_or ks n (task 0 0 0)).period ≡ x * y = cc (ceil_computed t (get_or ks n (task 0 0 0)).period h) in
        next ∙ ap (λ q. summed n + q) (z ∙ w)

    pub summed_other : goes n ≡ false → summed (n + 1) ≡ summed n
    summed_other e =
        let z : added n ≡ 0 = ap {B = ℕ} (λ q. cond q ((task_of ks n).cost * ceil t (task_of ks n).period) 0) e in
        omega (arith, next, z)

-- the tasks of a draft's partition keep the limits
pub draft_tasks : (d : Draft) (p : ℕ) → partition_within (tasks_of (module_of d) p) ≡ true
draft_tasks d p = each_within (module_of d) (and_parts (leb (length (module_of d)) 8) (partitions_within (module_of d)) (draft_within d)).1 p
