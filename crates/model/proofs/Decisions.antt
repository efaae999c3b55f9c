-- The tests decide the relations.
use Rattle.std.proofs.Common.{◌≡◌, ℕ, ◌<◌, ◌≤◌, Bool, true, false, length, Some, None, Decides, Option, refl, ap, ◌∙◌, arith}
use Rattle.std.proofs.lemmas.Bool.{and_from, and_parts, both_ways, le-leb, le-ltb, leb-true, lt-ltb, ltb-false, ltb-true}
use Rattle.model.specs.Decisions.{TestsDecide}
use Rattle.model.specs.InTime.{D, InTime, Partition, Passes, all_in_time, in_time, partition, passes, size}
use Rattle.model.specs.Modules.{Module}
use Rattle.model.specs.Orders.{Order}
use Rattle.model.specs.Ranges.{all_below}
use Rattle.model.specs.Timetables.{Timetable}
use Rattle.model.specs.Verdicts.{Cleared, NamesOwn, cleared, owner_known}
use Rattle.model.proofs.Limits.{has_part}
use Rattle.model.proofs.Ranges.{all_from, some_from, to_all, to_some}

pub decides_passes : (p : Partition) (i s : ℕ) → Decides (passes p i s) (Passes p i s)
unfolding passes
decides_passes p i s = (
  (λ h. let v = some_from _ (D p i) h in (v.0, v.1, v.2, leb-true _ _ v.3)),
  (λ v. to_some _ (D p i) v.0 v.1 v.2 (le-leb _ _ v.3)),
)

pub decides_in_time : (p : Partition) (f i : ℕ) → Decides (in_time p f i) (InTime p f i)
unfolding in_time
decides_in_time p f i =
    ((λ h s l. (decides_passes p i s).0 (all_from _ f h s l)), (λ h. to_all _ f (λ s l. (decides_passes p i s).1 (h s l))))

pub decides_all_in_time : (p : Partition) (f : ℕ) → Decides (all_in_time p f) ((i : ℕ) → i < size p → InTime p f i)
unfolding all_in_time
decides_all_in_time p f = (
  (λ h i l. (decides_in_time p f i).0 (all_from (in_time p f) (size p) h i l)),
  (λ h. to_all (in_time p f) (size p) (λ i l. (decides_in_time p f i).1 (h i l))),
)

pub refuted : (b : Bool) → (b ≡ true → ⊥) → b ≡ false
refuted true h = absurd (h refl)
refuted false h = refl

-- Owners that the module has, and owners that it lacks.
module _ (m : Module) where
  pub known : (o : Option ℕ) → owner_known m o ≡ true → (p : ℕ) → o ≡ Some p → p < length m
  unfolding owner_known
  known None h p e = cc
  known (Some q) h p e = let z : q ≡ p = cc in omega (arith, ltb-true q (length m) h)

  to_known : (o : Option ℕ) → ((p : ℕ) → o ≡ Some p → p < length m) → owner_known m o ≡ true
  unfolding owner_known
  to_known None h = refl
  to_known (Some q) h = lt-ltb q (length m) (h q refl)

  pub unknown : (o : Option ℕ) → owner_known m o ≡ false → (p : ℕ) × (o ≡ Some p) × (length m ≤ p)
  unfolding owner_known
  unknown None h = absurd (both_ways true h refl)
  unknown (Some q) h = (q, refl, ltb-false q (length m) h)

  pub to_unknown : (o : Option ℕ) (p : ℕ) → o ≡ Some p → length m ≤ p → owner_known m o ≡ false
  unfolding owner_known
  to_unknown o p e l = ap (owner_known m) e ∙ le-ltb p (length m) l

  pub names_own : (t : Timetable) → ((x : ℕ) → x < t.frame → owner_known m (t.owner x) ≡ true) → NamesOwn t m
  names_own t h x p l e = known (t.owner x) (h x l) p e

  pub own_named : (t : Timetable) (n : ℕ) → ((x p : ℕ) → x < n → t.owner x ≡ Some p → p < length m) → (x : ℕ) → x < n → owner_known m (t.owner x) ≡ true
  own_named t n h x l = to_known (t.owner x) (λ p e. h x p l e)

module _ (given running : Timetable) (order : Order) (m : Module) where
  abbrev places : ℕ → Bool
  places x = owner_known m (given.owner x)

  abbrev fits : ℕ → Bool
  fits p = all_in_time (partition running order m p) running.frame

  decides_cleared : Decides (cleared given running order m) (Cleared given running order m)
  unfolding cleared size
  decides_cleared = (
    (λ h. let v = and_parts (all_below places given.frame) (all_below fits (length m)) h in record {
      names_own = names_own m given (all_from places given.frame v.0);
      in_time = λ p i l. (decides_all_in_time (partition running order m p) running.frame).0 (all_from fits (length m) v.1 p (has_part m p i l)) i l;
    }),
    (λ c. and_from (all_below places given.frame) (all_below fits (length m))
        (to_all places given.frame (own_named m given given.frame c.names_own))
        (to_all fits (length m) (λ p l. (decides_all_in_time (partition running order m p) running.frame).1 (c.in_time p)))),
  )

pub tests_decide : TestsDecide
tests_decide = record { passing = decides_passes; being_in_time = decides_in_time; clearing = decides_cleared }
