-- Findings: on one partition step by step, on owners that were drawn, and the verdict that they tell.
use Rattle.std.proofs.Common.{◌≡◌, ℕ, zero, suc, ◌+◌, ◌-◌, ◌%◌, ◌<◌, ◌≤◌, Bool, true, false, cond, not, List, [], map, length, get_or, Some, None, Option, sym, refl, ap, ◌∙◌, ap₂, add-suc, mod-lt, add-one, arith}
use mathlib.Core.Path.{fun_ext}
use Rattle.std.specs.List.{range_with_len}
use Rattle.std.proofs.lemmas.List.FromFn.{get_or-map-range_with_len}
use Rattle.std.proofs.lemmas.List.{get_or_past}
use Rattle.std.proofs.lemmas.Bool.{cond-false, cond-true}
use Rattle.model.specs.declared.task.Task.{Task}
use Rattle.model.specs.declared.verdict.LateTask.{LateTask}
use Rattle.model.specs.InTime.{Partition, partition, partition_of, size}
use Rattle.model.specs.Modules.{Module, tasks_of}
use Rattle.model.specs.Orders.{Order}
use Rattle.model.specs.Ranges.{first_found, first_of, first_such, least_below, or_else}
use Rattle.model.specs.Timetables.{Timetable, owned_by, owner_at}
use Rattle.model.specs.Verdicts.{late_at, failing_start, late_task, finding, first_late, foreign_place, owner_known, verdict_by, verdict_on}
use Rattle.analysis.specs.declared.owners.Owners.{Owners}
use Rattle.analysis.specs.declared.places.Places.{Places}
use Rattle.analysis.specs.Findings.{findings_on, told_by}
use Rattle.analysis.specs.Owners.{DrawnFrom, drawn}
use Rattle.analysis.specs.Places.{ticks_of}

-- The one that goes first, one number more.
module _ (goes : ℕ → ℕ → Bool) (test : ℕ → Bool) where
  pub such_none : first_such goes test 0 ≡ None
  unfolding first_such
  such_none = refl

  such_next : (n : ℕ) → first_such goes test (n + 1) ≡ cond (test n) (Some (first_of goes n (first_such goes test n))) (first_such goes test n)
  unfolding first_such
  such_next n = rw add-one refl

  pub such_skip : (n : ℕ) → test n ≡ false → first_such goes test (n + 1) ≡ first_such goes test n
  such_skip n e = such_next n ∙ cond-false (test n) _ _ e

  pub such_found : (n : ℕ) → test n ≡ true → first_such goes test (n + 1) ≡ Some (first_of goes n (first_such goes test n))
  such_found n e = such_next n ∙ cond-true (test n) _ _ e

-- What is found on a partition, once the first failing task and its first failing start are known.
module _ (p : Partition) (f n : ℕ) where
  pub nothing_found : first_late p f ≡ None → None ≡ late_task p f n (first_late p f)
  unfolding late_task
  nothing_found z = sym (ap (late_task p f n) z)

  pub never_fails : (i : ℕ) → first_late p f ≡ Some i → failing_start p f i ≡ None → None ≡ late_task p f n (first_late p f)
  unfolding late_task late_at
  never_fails i z w = sym (ap (late_task p f n) z ∙ ap (late_at n i) w)

  pub task_found : (i s : ℕ) → first_late p f ≡ Some i → failing_start p f i ≡ Some s → Some (record { partition = n; task = i; start = s }) ≡ late_task p f n (first_late p f)
  unfolding late_task late_at
  task_found i s z w = sym (ap (late_task p f n) z ∙ ap (late_at n i) w)

-- A partition by its tasks and places.
module _ (t : Timetable) (order : Order) (m : Module) (n : ℕ) where
  pub same_partition : (p : Partition) (places : Places) → p ≡ partition_of order n (tasks_of m n) (ticks_of places) →
      ((u : ℕ) → ticks_of places u ≡ owned_by n (owner_at t u)) → p ≡ partition t order m n
  same_partition p places e h = e ∙ ap (partition_of order n (tasks_of m n)) (fun_ext h)

  pub finding_by : (p : Partition) (f : ℕ) → p ≡ partition t order m n → f ≡ t.frame → late_task p f n (first_late p f) ≡ finding t order m n
  unfolding finding
  finding_by p f e h = ap₂ (λ q g. late_task q g n (first_late q g)) e h

-- A search goes by what is found below its bound.
found_same : {A : Type 0} (f g : ℕ → Option A) (n : ℕ) → ((k : ℕ) → k < n → f k ≡ g k) → first_found f n ≡ first_found g n
unfolding first_found
found_same f g zero h = refl
found_same f g (suc n) h = ap₂ or_else (found_same f g n (λ k l. h k (omega arith))) (h n (omega arith))

-- Owners that were drawn stand for the timetable.
module _ (t : Timetable) (o : Owners) (h : DrawnFrom t o) where
  drawn_owner : 1 ≤ t.frame → (u : ℕ) → owner_at (drawn o) u ≡ owner_at t u
  unfolding owner_at
  drawn_owner some u = ap (λ f. (drawn o).owner (u % f)) h.frame ∙ h.owner (u % t.frame) (mod-lt u some)

  pub drawn_finding : 1 ≤ t.frame → (order : Order) (m : Module) (n : ℕ) → finding (drawn o) order m n ≡ finding t order m n
  drawn_finding some order m n =
      sym (finding_by (drawn o) order m n _ _ refl refl) ∙ finding_by t order m n (partition (drawn o) order m n) o.frame
      (ap (partition_of order n (tasks_of m n)) (fun_ext (λ u. ap (owned_by n) (drawn_owner some u)))) h.frame

  pub drawn_foreign : (m : Module) → foreign_place (drawn o) m ≡ foreign_place t m
  unfolding foreign_place least_below
  drawn_foreign m =
      ap (first_found (λ x. cond (not (owner_known m ((drawn o).owner x))) (Some x) None)) h.frame
      ∙ found_same _ _ t.frame (λ x l. ap (λ w. cond (not (owner_known m w)) (Some x) None) (h.owner x l))

  -- first failing starts on places that a partition owns
  pub drawn_start : 1 ≤ t.frame → (order : Order) (m : Module) (n : ℕ) (p : Partition) (places : Places) → p ≡ partition_of order n (tasks_of m n) (ticks_of places) →
      places.frame ≡ o.frame → ((u : ℕ) → ticks_of places u ≡ owned_by n (owner_at (drawn o) u)) → (i : ℕ) →
      failing_start p places.frame i ≡ failing_start (partition t order m n) t.frame i
  drawn_start some order m n p places e f ticks i =
      ap₂ (λ q x. failing_start q x i) (same_partition t order m n p places e (λ u. ticks u ∙ ap (owned_by n) (drawn_owner some u))) (f ∙ h.frame)

-- Partitions that a module lacks have no tasks, and so no finding.
or_nothing : {A : Type 0} (o : Option A) → or_else o None ≡ o
unfolding or_else
or_nothing None = refl
or_nothing (Some a) = refl

found_past : {A : Type 0} (f : ℕ → Option A) (n k : ℕ) → ((j : ℕ) → n ≤ j → f j ≡ None) → first_found f (n + k) ≡ first_found f n
unfolding first_found
found_past f n zero h = ap (first_found f) (omega arith)
found_past f n (suc k) h =
    ap (first_found f) (add-suc n k) ∙ ap (or_else (first_found f (n + k))) (h (n + k) (omega arith)) ∙ or_nothing (first_found f (n + k)) ∙ found_past f n k h

nobody : (t : Timetable) (order : Order) (m : Module) (p : ℕ) → length m ≤ p → finding t order m p ≡ None
unfolding finding first_late size first_such late_task
nobody t order m p l =
    let f : List Task → Option LateTask = λ ks.
    let q : Partition = partition_of order p ks (λ u. owned_by p (owner_at t u)) in
    late_task q t.frame p (first_late q t.frame) in
    ap f (get_or_past m p [] l)

-- The verdict that is told from the findings on a module is the module's.
pub verdict_told : (given running : Timetable) (order : Order) (m : Module) → length m ≤ 8 → told_by (findings_on given running order m) ≡ verdict_on given running order m
unfolding verdict_on
verdict_told given running order m few =
    let f : ℕ → Option LateTask = finding running order m in
    let e : length m + (8 - length m) ≡ 8 = omega arith in
    ap (verdict_by (foreign_place given m))
    (found_same (λ p. get_or (map f (range_with_len 0 8)) p None) f 8 (λ p l. get_or-map-range_with_len f 0 8 p p None l (omega arith))
    ∙ ap (first_found f) (sym e) ∙ found_past f (length m) (8 - length m) (nobody running order m))
