-- A verdict is decided by what it says.
use Rattle.std.proofs.Common.{◌≡◌, ℕ, ◌<◌, Bool, true, false, not, length, Some, None, Option, sym, refl, ap, ◌∙◌, subst, ap₂, inl, inr, arith}
use Rattle.std.proofs.lemmas.Bool.{both_ways, cases_Bool, not-false, not-true}
use Rattle.model.specs.declared.verdict.LateTask.{LateTask}
use Rattle.model.specs.declared.verdict.Verdict.{Verdict}
use Rattle.model.specs.declared.verdict.Verdict.TheVariants.{Cleared as is_cleared, Foreign as is_foreign, Late as is_late}
use Rattle.model.specs.Decisions.{VerdictIsDecided}
use Rattle.model.specs.InTime.{InTime, Partition, Passes, in_time, partition, passes, size}
use Rattle.model.specs.Modules.{HasTask, Module}
use Rattle.model.specs.Orders.{Order}
use Rattle.model.specs.Ranges.{first_found}
use Rattle.model.specs.Timetables.{Timetable}
use Rattle.model.specs.Verdicts.{FirstForeign, FirstLate, Lawful, NamesOwn, Says, failing_start, finding, first_late, foreign_place, late_at, late_task, owner_known, verdict_by, verdict_on}
use Rattle.model.proofs.ClearedNeverLate.{proper}
use Rattle.model.proofs.Decisions.{decides_in_time, decides_passes, known, names_own, own_named, to_unknown, unknown}
use Rattle.model.proofs.Firsts.{First, Found, found}
use Rattle.model.proofs.Limits.{has_part}
use Rattle.model.proofs.OnePartition.{Proper}
use Rattle.model.proofs.Ranges.{Found_at, Least, found_none, found_some, least_none, least_some, none_found, none_least, some_found, some_least}

-- The first foreign place.
module _ (t : Timetable) (m : Module) where
  abbrev odd : ℕ → Bool
  odd x = not (owner_known m (t.owner x))

  pub foreign_none : foreign_place t m ≡ None → NamesOwn t m
  unfolding foreign_place
  foreign_none e = names_own m t (λ x l. not-false (owner_known m (t.owner x)) (least_none odd t.frame e x l))

  pub none_foreign : NamesOwn t m → foreign_place t m ≡ None
  unfolding foreign_place
  none_foreign h = none_least odd t.frame (λ x l. ap not (own_named m t t.frame h x l))

  pub foreign_some : (x : ℕ) → foreign_place t m ≡ Some x → FirstForeign t m x
  unfolding foreign_place
  foreign_some x e =
      let w : Least odd t.frame x = least_some odd t.frame x e in
      let v = unknown m (t.owner x) (not-true (owner_known m (t.owner x)) w.holds) in
      record {
        in_frame = w.below;
        owner = v.0;
        owned = v.1;
        lacking = v.2;
        first = λ y p l q. known m (t.owner y) (not-false (owner_known m (t.owner y)) (w.least y l)) p q;
      }

  pub some_foreign : (x : ℕ) → FirstForeign t m x → foreign_place t m ≡ Some x
  unfolding foreign_place
  some_foreign x h = some_least odd t.frame x (record {
    below = h.in_frame;
    holds = ap not (to_unknown m (t.owner x) h.owner h.owned h.lacking);
    least = λ y l. ap not (own_named m t x h.first y l);
  })

-- The first late task of a partition, with its first failing start.
pub record LateIn (p : Partition) (f i s : ℕ) : Type 0 where
  pub exists : i < size p
  pub in_frame : s < f
  pub stuck : Passes p i s → ⊥
  pub first_start : (r : ℕ) → r < s → Passes p i r
  pub first_task : (j : ℕ) → j < size p → p.before j i ≡ true → InTime p f j

module _ (p : Partition) (f : ℕ) (ok : Proper p) where
  abbrev late : ℕ → Bool
  late i = not (in_time p f i)

  abbrev fails : ℕ → ℕ → Bool
  fails i s = not (passes p i s)

  not_late : (i : ℕ) → late i ≡ false → InTime p f i
  not_late i e = (decides_in_time p f i).0 (not-false (in_time p f i) e)

  late_not : (i : ℕ) → InTime p f i → late i ≡ false
  late_not i h = ap not ((decides_in_time p f i).1 h)

  start_none : (i : ℕ) → failing_start p f i ≡ None → InTime p f i
  unfolding failing_start
  start_none i e s l = (decides_passes p i s).0 (not-false (passes p i s) (least_none (fails i) f e s l))

  stuck_at : (i s : ℕ) → fails i s ≡ true → Passes p i s → ⊥
  stuck_at i s e h = both_ways (passes p i s) (not-true (passes p i s) e) ((decides_passes p i s).1 h)

  found_late : Found p.before late (size p) (first_late p f)
  unfolding first_late
  found_late = found p.before late (size p) ok.transitive ok.total (size p) (omega arith)

  goes_on : (i : ℕ) → First p.before late (size p) i → (j : ℕ) → j < size p → p.before j i ≡ true → InTime p f j
  goes_on i w j l b = elim (cases_Bool (late j)) [
    | inr e ↦ not_late j e
    | inl e ↦ elim (w.least j l e) [
      | inl z ↦ absurd (both_ways _ (ok.irreflexive i) (ap (λ x. p.before x i) (sym z) ∙ b))
      | inr z ↦ absurd (both_ways _ (ok.irreflexive i) (ok.transitive i j i z b))
    ]
  ]

  module _ (n : ℕ) where
    abbrev at_start : ℕ → ℕ → LateTask
    at_start i s = record { partition = n; task = i; start = s }

    start_gone : (i : ℕ) (o : Option ℕ) → late_at n i o ≡ None → o ≡ None
    unfolding late_at
    start_gone i None e = refl
    start_gone i (Some s) e = cc

    none_of : (o : Option ℕ) → Found p.before late (size p) o → late_task p f n o ≡ None → (i : ℕ) → i < size p → InTime p f i
    unfolding late_task
    none_of None h e i l = not_late i (h i l)
    none_of (Some k) h e i l = absurd (both_ways _ (late_not k (start_none k (start_gone k (failing_start p f k) e))) h.holds)

    pub late_none : late_task p f n (first_late p f) ≡ None → (i : ℕ) → i < size p → InTime p f i
    late_none e = none_of (first_late p f) found_late e

    of_none : ((i : ℕ) → i < size p → InTime p f i) → (o : Option ℕ) → Found p.before late (size p) o → late_task p f n o ≡ None
    unfolding late_task
    of_none h None w = refl
    of_none h (Some k) w = absurd (both_ways _ (late_not k (h k w.below)) w.holds)

    pub none_late : ((i : ℕ) → i < size p → InTime p f i) → late_task p f n (first_late p f) ≡ None
    none_late h = of_none h (first_late p f) found_late

    -- what a finding is made of
    pub record MadeOf (l : LateTask) : Type 0 where
      pub task : ℕ
      pub start : ℕ
      pub is : l ≡ at_start task start
      pub late_in : LateIn p f task start

    start_some : (i : ℕ) (o : Option ℕ) (l : LateTask) → failing_start p f i ≡ o → First p.before late (size p) i → late_at n i o ≡ Some l → MadeOf l
    unfolding late_at failing_start
    start_some i None l q w e = cc
    start_some i (Some s) l q w e =
        let v : Least (fails i) f s = least_some (fails i) f s q in
        let z : at_start i s ≡ l = cc in
        record {
          task = i;
          start = s;
          is = sym z;
          late_in = record {
            exists = w.below;
            in_frame = v.below;
            stuck = stuck_at i s v.holds;
            first_start = λ r m. (decides_passes p i r).0 (not-false (passes p i r) (v.least r m));
            first_task = goes_on i w;
          };
        }

    some_of : (o : Option ℕ) (l : LateTask) → Found p.before late (size p) o → late_task p f n o ≡ Some l → MadeOf l
    unfolding late_task
    some_of None l w e = cc
    some_of (Some i) l w e = start_some i (failing_start p f i) l refl w e

    pub late_some : (l : LateTask) → late_task p f n (first_late p f) ≡ Some l → MadeOf l
    late_some l e = some_of (first_late p f) l found_late e

    module _ (i s : ℕ) (h : LateIn p f i s) where
      is_late_task : late i ≡ true
      is_late_task = elim (cases_Bool (late i)) [
        | inl e ↦ e
        | inr e ↦ absurd (h.stuck (not_late i e s h.in_frame))
      ]

      the_task : (o : Option ℕ) → Found p.before late (size p) o → o ≡ Some i
      the_task None w = absurd (both_ways _ (w i h.exists) is_late_task)
      the_task (Some k) w = elim (w.least i h.exists is_late_task) [
        | inl z ↦ ap Some (sym z)
        | inr b ↦ absurd (both_ways _ (late_not k (h.first_task k w.below b)) w.holds)
      ]

      the_start : failing_start p f i ≡ Some s
      unfolding failing_start
      the_start = some_least (fails i) f s (record {
        below = h.in_frame;
        holds = elim (cases_Bool (passes p i s)) [
          | inl e ↦ absurd (h.stuck ((decides_passes p i s).0 e))
          | inr e ↦ ap not e
        ];
        least = λ r l. ap not ((decides_passes p i r).1 (h.first_start r l));
      })

      pub some_late : late_task p f n (first_late p f) ≡ Some (at_start i s)
      unfolding late_task late_at
      some_late = ap (late_task p f n) (the_task (first_late p f) found_late) ∙ ap (late_at n i) the_start

module _ (given running : Timetable) (order : Order) (m : Module) (ok : Lawful running order m) where
  abbrev P : ℕ → Partition
  P n = partition running order m n

  abbrev F : ℕ
  F = running.frame

  finding_none : (n : ℕ) → finding running order m n ≡ None → (i : ℕ) → HasTask m n i → InTime (P n) F i
  unfolding finding size
  finding_none n e i l = late_none (P n) F (proper running order m ok n) n e i l

  none_finding : (n : ℕ) → ((i : ℕ) → HasTask m n i → InTime (P n) F i) → finding running order m n ≡ None
  unfolding finding size
  none_finding n h = none_late (P n) F (proper running order m ok n) n h

  finding_some : (n : ℕ) (l : LateTask) → finding running order m n ≡ Some l → MadeOf (P n) F (proper running order m ok n) n l
  unfolding finding
  finding_some n l e = late_some (P n) F (proper running order m ok n) n l e

  -- a finding, when the partitions below have none
  first_late_of : (n : ℕ) (l : LateTask) → MadeOf (P n) F (proper running order m ok n) n l → ((q : ℕ) → q < n → finding running order m q ≡ None) → FirstLate running order m l
  unfolding size
  first_late_of n l w h = subst (FirstLate running order m) (sym w.is) (record {
    exists = w.late_in.exists;
    in_frame = w.late_in.in_frame;
    stuck = w.late_in.stuck;
    first_start = w.late_in.first_start;
    first_task = w.late_in.first_task;
    first_partition = λ p i k j. finding_none p (h p k) i j;
  })

  abbrev Finds : Option LateTask → Type 0
  Finds o = first_found (finding running order m) (length m) ≡ o

  says_by : (o : Option ℕ) (r : Option LateTask) → foreign_place given m ≡ o → Finds r → Says given running order m (verdict_by o r)
  unfolding verdict_by
  says_by (Some x) r e q = foreign_some given m x e
  says_by None (Some l) e q =
      let w : Found_at (finding running order m) (length m) l = found_some (finding running order m) (length m) l q in
      (foreign_none given m e, first_late_of w.place l (finding_some w.place l w.here) w.first)
  says_by None None e q = record {
    names_own = foreign_none given m e;
    in_time = λ p i l. finding_none p (found_none (finding running order m) (length m) q p (has_part m p i l)) i l;
  }

  says : Says given running order m (verdict_on given running order m)
  unfolding verdict_on
  says = says_by (foreign_place given m) (first_found (finding running order m) (length m)) refl refl

  by : (o : Option ℕ) (r : Option LateTask) → foreign_place given m ≡ o → Finds r → verdict_on given running order m ≡ verdict_by o r
  unfolding verdict_on
  by o r e q = ap₂ verdict_by e q

  late_found : (l : LateTask) → FirstLate running order m l → Finds (Some l)
  unfolding finding size
  late_found l h = some_found (finding running order m) (length m) l.partition l (has_part m l.partition l.task h.exists)
      (λ q k. none_finding q (λ i j. h.first_partition q i k j))
      (some_late (P l.partition) F (proper running order m ok l.partition) l.partition l.task l.start (record {
        exists = h.exists;
        in_frame = h.in_frame;
        stuck = h.stuck;
        first_start = h.first_start;
        first_task = h.first_task;
      }))

  only : (v : Verdict) → Says given running order m v → verdict_on given running order m ≡ v
  unfolding verdict_by
  only is_cleared c =
      by None None (none_foreign given m c.names_own) (none_found (finding running order m) (length m) (λ n l. none_finding n (c.in_time n)))
  only (is_foreign x) h = by (Some x) _ (some_foreign given m x h) refl
  only (is_late l) h = by None (Some l) (none_foreign given m h.0) (late_found l h.1)

pub decided : VerdictIsDecided
decided given running order m ok v = (
  (λ e. subst (Says given running order m) e (says given running order m ok)),
  only given running order m ok v,
)
