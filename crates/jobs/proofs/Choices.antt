-- The choice by keys, task after task, is the choice of the job that goes first.
use Rattle.std.proofs.Common.{◌≡◌, ℕ, ◌+◌, Bool, true, false, cond, List, length, is_some, IfSome, Some, None, Option, sym, refl, ap, ◌∙◌, subst, add-one, MatchOption}
use mathlib.Core.Path.{fun_ext}
use Rattle.std.specs.Option.{option_map}
use Rattle.model.specs.declared.job.Job.{Job}
use Rattle.model.specs.declared.job.TaskState.{TaskState}
use Rattle.model.specs.declared.task.Task.{Task}
use Rattle.model.specs.Machine.{DispatchRule, OpenJob, open_job, since_of, chosen}
use Rattle.model.specs.Orders.{record_of}
use Rattle.model.specs.Promises.{executive}
use Rattle.model.specs.Ranges.{first_of, first_such}
use Rattle.model.specs.Timetables.{Timetable}
use Rattle.jobs.specs.Choices.{first_by_key, better_by}

module _ {K : Type 0} (precedes : K → K → Bool) (key : OpenJob → K) (ks : List Task) (xs : ℕ → TaskState) where
  -- the key of task i
  abbrev pub key_at : ℕ → K
  key_at i = key (open_job ks i (since_of (xs i).job))

  -- the best of the first i tasks
  abbrev pub best_of : ℕ → Option ℕ
  best_of i = first_such (λ j k. precedes (key_at j) (key_at k)) (λ j. is_some (xs j).job) i

  -- the best so far has the number of the best of the first i tasks, and the key of its number
  pub record Best (i : ℕ) (best : Option (ℕ × K)) : Type 0 where
    pub number : option_map (λ b. b.0) best ≡ best_of i
    pub held : IfSome best (λ b. b.1 ≡ key_at b.0)

  first_best : (i : ℕ) (best : Option (ℕ × K)) → IfSome best (λ b. b.1 ≡ key_at b.0) →
      option_map (λ b. b.0) (first_by_key precedes i (key_at i) best) ≡ Some (first_of (λ j k. precedes (key_at j) (key_at k)) i (option_map (λ b. b.0) best))
  unfolding first_of
  first_best i None h = refl
  first_best i (Some b) h =
      elim (precedes (key_at i) b.1) as (λ t. option_map {T = ℕ × K} (λ x. x.0) (cond t (Some (i, key_at i)) (Some b)) ≡ Some (cond t i b.0)) [ true ↦ refl | false ↦ refl ]
      ∙ ap (λ x. Some (cond (precedes (key_at i) x) i b.0)) h

  first_held : (i : ℕ) (best : Option (ℕ × K)) → IfSome best (λ b. b.1 ≡ key_at b.0) →
      IfSome (first_by_key precedes i (key_at i) best) (λ b. b.1 ≡ key_at b.0)
  first_held i None h = refl
  first_held i (Some b) h =
      elim (precedes (key_at i) b.1) as (λ t. MatchOption {T = ℕ × K} (cond t (Some (i, key_at i)) (Some b)) (Unit {0}) (λ x. x.1 ≡ key_at x.0)) [ true ↦ refl | false ↦ h ]

  by_job : (i : ℕ) (best : Option (ℕ × K)) (o : Option Job) → (xs i).job ≡ o → Best i best → Best (i + 1) (better_by precedes key (record_of ks i) o best)
  unfolding first_such since_of record_of
  by_job i best None e h = rw add-one (record { number = h.number ∙ sym (rw e refl); held = h.held })
  by_job i best (Some b) e h =
      let k : key (open_job ks i b.released) ≡ key_at i = ap (λ o. key (open_job ks i (since_of o))) (sym e) in
      rw add-one (record {
        number =
            ap (λ x. option_map (λ b. b.0) (first_by_key precedes i x best)) k
            ∙ (first_best i best h.held
            ∙ (ap (λ o. Some (first_of (λ j k. precedes (key_at j) (key_at k)) i o)) h.number
            ∙ sym (ap (λ o. cond (is_some o) (Some (first_of (λ j k. precedes (key_at j) (key_at k)) i (best_of i))) (best_of i)) e)));
        held = subst (λ x. IfSome (first_by_key precedes i x best) (λ b. b.1 ≡ key_at b.0)) (sym k) (first_held i best h.held);
      })

  pub one_more : (i : ℕ) (best next : Option (ℕ × K)) → Best i best → next ≡ better_by precedes key (record_of ks i) (xs i).job best → Best (i + 1) next
  one_more i best next h e = subst (Best (i + 1)) (sym e) (by_job i best (xs i).job refl h)

  -- the best of all tasks is the chosen one, where the keys decide
  pub best_chosen : (rule : DispatchRule) (p : ℕ) (t : Timetable) → ((a b : OpenJob) → rule p a b ≡ precedes (key a) (key b)) →
      (i : ℕ) (best : Option (ℕ × K)) → Best i best → i ≡ length ks → option_map (λ b. b.0) best ≡ chosen (executive t rule) p ks xs
  unfolding chosen
  best_chosen rule p t decides i best h n =
      h.number
      ∙ (ap best_of n
      ∙ ap (λ goes. first_such goes (λ j. is_some (xs j).job) (length ks)) (fun_ext (λ j. fun_ext (λ k. sym (decides (open_job ks j (since_of (xs j).job)) (open_job ks k (since_of (xs k).job)))))))
