-- The least q is decided by what is enough.
use Rattle.std.proofs.Common.{◌≡◌, ℕ, ◌+◌, ◌≤◌, Bool, true, false, ◌↔◌, List, Some, None, arith}
use Rattle.std.proofs.lemmas.Bool.{both_ways}
use Rattle.model.specs.declared.task.Task.{Task}
use Rattle.model.specs.Decisions.{LeastQIsDecided}
use Rattle.model.specs.InTime.{all_in_time, size}
use Rattle.model.specs.Modules.{task_of}
use Rattle.model.specs.Orders.{Order}
use Rattle.model.specs.Planning.{Enough, LeastQ, least_q, with_first}
use Rattle.model.proofs.Decisions.{decides_all_in_time, refuted}
use Rattle.model.proofs.Gaps.{no_worse}
use Rattle.model.proofs.Ranges.{Least, least_none, least_some, none_least, some_least}

module _ (order : Order) (p : ℕ) (ks : List Task) (f : ℕ) where
  abbrev suits : ℕ → Bool
  suits q = all_in_time (with_first order p ks f q) f

  pub suits_enough : (q : ℕ) → suits q ≡ true → Enough order p ks f q
  unfolding size
  suits_enough q e = (decides_all_in_time (with_first order p ks f q) f).0 e

  pub enough_suits : (q : ℕ) → Enough order p ks f q → suits q ≡ true
  unfolding size
  enough_suits q h = (decides_all_in_time (with_first order p ks f q) f).1 h

  lacks : (q : ℕ) → suits q ≡ false → Enough order p ks f q → ⊥
  lacks q e h = both_ways (suits q) e (enough_suits q h)

  pub least_is : (q : ℕ) → (least_q order p ks f ≡ Some q) ↔ LeastQ order p ks f q
  unfolding least_q
  least_is q = (
    (λ e. let w : Least suits (f + 1) q = least_some suits (f + 1) q e in record {
      fits = omega (arith, w.below);
      enough = suits_enough q w.holds;
      least = λ r l. lacks r (w.least r l);
    }),
    (λ h. some_least suits (f + 1) q (record {
      below = omega (arith, h.fits);
      holds = enough_suits q h.enough;
      least = λ r l. refuted (suits r) (λ e. h.least r l (suits_enough r e));
    })),
  )

  pub none_is : (least_q order p ks f ≡ None) ↔ ((q : ℕ) → q ≤ f → Enough order p ks f q → ⊥)
  unfolding least_q
  none_is = (
    (λ e q l. lacks q (least_none suits (f + 1) e q (omega arith))),
    (λ h. none_least suits (f + 1) (λ q l. refuted (suits q) (λ e. h q (omega arith) (suits_enough q e)))),
  )

  -- with more places no fewer tasks are in time
  pub enough_more : (q r : ℕ) → q ≤ r → Enough order p ks f q → Enough order p ks f r
  enough_more q r l h i k s m = no_worse order p ks f q r i (task_of ks i).deadline s l (h i k s m)

pub least_q_decided : LeastQIsDecided
least_q_decided = record { found = least_is; missing = none_is; more_is_enough = enough_more }
