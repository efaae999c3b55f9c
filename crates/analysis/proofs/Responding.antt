-- What a response tells: whether a task is in time, and its first failing start.
use Rattle.std.proofs.Common.{◌≡◌, ℕ, ◌<◌, ◌≤◌, Bool, true, false, not, Some, None, Ok, Err, Result, is_ok, MatchResult, length, refl, sym, ap, arith}
use Rattle.std.specs.Option.{option_map}
use Rattle.std.specs.Result.{result_err}
use Rattle.model.specs.InTime.{D, Partition, Passes, in_time, passes}
use Rattle.model.specs.Verdicts.{failing_start}
use Rattle.model.proofs.Decisions.{decides_in_time, decides_passes, refuted}
use Rattle.model.proofs.Ranges.{none_least, some_least}
use Rattle.analysis.specs.declared.response.FailingStart.{FailingStart}
use Rattle.analysis.specs.Responses.{FailsAt, Responds}
use Rattle.analysis.proofs.Growing.{absent_never, passes_no, passes_wider}

module _ (p : Partition) (f i : ℕ) where
  abbrev fails : ℕ → Bool
  fails s = not (passes p i s)

  responds_passes : (t : ℕ) → Responds p f i t → (s : ℕ) → s < f → Passes p i s
  responds_passes t h s l = passes_wider p i t (D p i) s h.0 (h.1 s l)

  responds_in_time : (t : ℕ) → Responds p f i t → in_time p f i ≡ true
  responds_in_time t h = (decides_in_time p f i).1 (responds_passes t h)

  fails_in_time : (first : Bool) (s : ℕ) → FailsAt p f i first s → in_time p f i ≡ false
  fails_in_time first s h = refuted (in_time p f i) (λ e. h.1 ((decides_in_time p f i).0 e s h.0))

  responds_start : (t : ℕ) → Responds p f i t → failing_start p f i ≡ None
  unfolding failing_start
  responds_start t h = none_least fails f (λ s l. ap not ((decides_passes p i s).1 (responds_passes t h s l)))

  fails_start : (s : ℕ) → FailsAt p f i true s → failing_start p f i ≡ Some s
  unfolding failing_start
  fails_start s h = some_least fails f s (record {
    below = h.0;
    holds = ap not (passes_no p i s h.1);
    least = λ r l. ap not ((decides_passes p i r).1 (h.2 refl r l));
  })

  -- what the response says of the two questions
  pub answers_in_time : (first : Bool) (r : Result ℕ FailingStart) → MatchResult r (Responds p f i) (λ e. FailsAt p f i first e.start) → is_ok r ≡ in_time p f i
  answers_in_time first (Ok t) h = sym (responds_in_time t h)
  answers_in_time first (Err e) h = sym (fails_in_time first e.start h)

  pub answers_start : (r : Result ℕ FailingStart) → MatchResult r (Responds p f i) (λ e. FailsAt p f i true e.start) → option_map (λ e. e.start) (result_err r) ≡ failing_start p f i
  answers_start (Ok t) h = sym (responds_start t h)
  answers_start (Err e) h = sym (fails_start e.start h)

  -- a task that is not there
  pub absent_start : 1 ≤ f → length p.tasks ≤ i → failing_start p f i ≡ Some 0
  unfolding failing_start
  absent_start l e = some_least fails f 0 (record { below = l; holds = ap not (absent_never p i 0 e); least = λ r m. absurd (omega arith) })
