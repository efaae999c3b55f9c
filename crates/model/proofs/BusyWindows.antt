-- The window of a busy stretch: from the tick s on, every owned tick went to task i or to one before it.
use Rattle.std.proofs.Common.{◌≡◌, ℕ, ◌+◌, ◌*◌, ◌<◌, ◌≤◌, true, false, cond, ◌⊎◌, is_some, refl, ap, subst, inl, inr, mul-le-mul_left, arith}
use Rattle.std.proofs.lemmas.Bool.{cases_eq}
use Rattle.model.specs.declared.job.TaskState.{TaskState}
use Rattle.model.specs.InTime.{C, Partition, T, ceil, demand, size, sum_before, supply}
use Rattle.model.specs.Machine.{ready}
use Rattle.model.proofs.OnePartition.{Proper}
use Rattle.model.proofs.Sums.{at, at_other, at_same, before_le, before_zero, ceil_least}
use Rattle.model.proofs.Supplies.{demand_is, demand_pos, supply_more, supply_none}
use Rattle.model.proofs.Turns.{owed, owed_closed}

-- Task j has run e j ticks since s, in at most k j jobs. Task i has run own ticks.
pub record BusyWindow (p : Partition) (i s now : ℕ) (xs : ℕ → TaskState) (own : ℕ) : Type 0 where
  pub w : ℕ
  pub e : ℕ → ℕ
  pub k : ℕ → ℕ
  pub here : now ≡ s + w
  pub used : sum_before p i e + own ≡ supply p s w
  pub bound : (j : ℕ) → j < size p → p.before j i ≡ true → e j + owed (C p j) (xs j).job ≤ C p j * k j
  pub apart : (j : ℕ) → j < size p → p.before j i ≡ true → (k j ≡ 0) ⊎ (s + k j * T p j ≤ ready (T p j) (xs j).last)
  pub short : (t : ℕ) → demand p i t ≤ supply p s t → w < t

module _ (p : Partition) (ok : Proper p) (i : ℕ) (il : i < size p) where
  -- less is owed, and the next releases are no sooner
  pub weaker : (s now : ℕ) (xs ys : ℕ → TaskState) (own : ℕ) → BusyWindow p i s now xs own →
      ((j : ℕ) → j < size p → owed (C p j) (ys j).job ≤ owed (C p j) (xs j).job) →
      ((j : ℕ) → j < size p → ready (T p j) (xs j).last ≤ ready (T p j) (ys j).last) →
      BusyWindow p i s now ys own
  weaker s now xs ys own v less later = record {
    w = v.w;
    e = v.e;
    k = v.k;
    here = v.here;
    used = v.used;
    bound = λ j l b. omega (arith, v.bound j l b, less j l);
    apart = λ j l b. elim (v.apart j l b) [ inl z ↦ inl z | inr z ↦ inr (omega (arith, later j l)) ];
    short = v.short;
  }

  -- a new window
  pub starts : (now : ℕ) (xs : ℕ → TaskState) →
      ((j : ℕ) → j < size p → p.before j i ≡ true → is_some (xs j).job ≡ false) → BusyWindow p i now now xs 0
  starts now xs none = record {
    w = 0;
    e = λ _. 0;
    k = λ _. 0;
    here = omega arith;
    used = omega (arith, before_zero p i, supply_none p now);
    bound = λ j l b. omega (arith, owed_closed (C p j) (xs j).job (none j l b));
    apart = λ j l b. inl refl;
    short = λ t h. elim (cases_eq t 0) [
      | inl z ↦ absurd (omega (arith, demand_pos p i t, (ok.costs i il).0, ap (supply p now) z, supply_none p now))
      | inr z ↦ omega arith
    ];
  }

  -- one tick on: e gives way to d, own to own'
  pub goes_on : (s now : ℕ) (xs ys : ℕ → TaskState) (own own' : ℕ) (v : BusyWindow p i s now xs own) (d : ℕ → ℕ) →
      sum_before p i d + own' ≡ sum_before p i v.e + own + cond (p.owns now) 1 0 →
      ((j : ℕ) → j < size p → p.before j i ≡ true → d j + owed (C p j) (ys j).job ≤ v.e j + owed (C p j) (xs j).job) →
      ((j : ℕ) → j < size p → (ys j).last ≡ (xs j).last) →
      ((j : ℕ) → j < size p → ready (T p j) (xs j).last ≤ now + T p j) →
      own' < C p i →
      BusyWindow p i s (now + 1) ys own'
  goes_on s now xs ys own own' v d sum each same past open-still = record {
    w = v.w + 1;
    e = d;
    k = v.k;
    here = omega (arith, v.here);
    used = used;
    bound = bound;
    apart = λ j l b. elim (v.apart j l b) [ inl z ↦ inl z | inr z ↦ inr (rw (same j l) z) ];
    short = λ t h. elim (cases_eq t (v.w + 1)) [
      | inl z ↦ absurd (full (subst (λ x. demand p i x ≤ supply p s x) z h))
      | inr z ↦ omega (arith, v.short t h)
    ];
  }
    where
      used : sum_before p i d + own' ≡ supply p s (v.w + 1)
      used = omega (arith, sum, v.used, supply_more p s v.w, ap {B = ℕ} (λ u. cond (p.owns u) 1 0) v.here)

      bound : (j : ℕ) → j < size p → p.before j i ≡ true → d j + owed (C p j) (ys j).job ≤ C p j * v.k j
      bound j l b = omega (arith, v.bound j l b, each j l b)

      jobs : (j : ℕ) → j < size p → p.before j i ≡ true → v.k j ≤ ceil (v.w + 1) (T p j)
      jobs j l b =
          let c = ok.costs j l in
          ceil_least (v.k j) v.w (T p j) (omega arith) (elim (v.apart j l b) [ inl z ↦ omega (arith, ap (λ x. x * T p j) z) | inr z ↦ omega (arith, past j l, v.here) ])

      most : sum_before p i d ≤ sum_before p i (λ j. C p j * ceil (v.w + 1) (T p j))
      most = before_le p i d _ (λ j l b. omega (arith, bound j l b, mul-le-mul_left (C p j) (jobs j l b)))

      full : demand p i (v.w + 1) ≤ supply p s (v.w + 1) → ⊥
      full h = omega (arith, most, used, demand_is p i (v.w + 1))

  -- task n is released: its next job is owed whole
  pub admits : (s now : ℕ) (xs ys : ℕ → TaskState) (own n : ℕ) → BusyWindow p i s now xs own → n < size p →
      ready (T p n) (xs n).last ≤ now →
      owed (C p n) (ys n).job ≤ C p n →
      ready (T p n) (ys n).last ≡ now + T p n →
      ((j : ℕ) → (j ≡ n → ⊥) → ys j ≡ xs j) →
      BusyWindow p i s now ys own
  admits s now xs ys own n v nl free whole next other = record {
    w = v.w;
    e = v.e;
    k = λ j. v.k j + at n j;
    here = v.here;
    used = v.used;
    bound = λ j l b. elim (cases_eq j n) [
      | inl z ↦ omega (arith, v.bound j l b, owed_at j z, ap (λ x. C p j * (v.k j + at n x)) z, ap (λ x. C p j * (v.k j + x)) (at_same n))
      | inr z ↦ rw (other j z, at_other n j z) (omega (arith, v.bound j l b))
    ];
    apart = λ j l b. elim (cases_eq j n) [
      | inl z ↦ inr (next_at j z (v.apart j l b))
      | inr z ↦ rw (other j z, at_other n j z) (elim (v.apart j l b) [ inl y ↦ inl (omega arith) | inr y ↦ inr (omega arith) ])
    ];
    short = v.short;
  }
    where
      owed_at : (j : ℕ) → j ≡ n → owed (C p j) (ys j).job ≤ C p j
      owed_at j z = rw z whole

      next_at : (j : ℕ) → j ≡ n → ((v.k j ≡ 0) ⊎ (s + v.k j * T p j ≤ ready (T p j) (xs j).last)) → s + (v.k j + at n j) * T p j ≤ ready (T p j) (ys j).last
      next_at j z a = rw (z, at_same n, next) (elim (rw z at a) [ inl y ↦ omega (arith, v.here, ap (λ x. x * T p n) y) | inr y ↦ omega (arith, v.here) ])
