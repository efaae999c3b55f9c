-- Sums over a range and over the tasks that go first, and quotients rounded up.
use Rattle.std.proofs.Common.{◌≡◌, ℕ, zero, suc, ◌+◌, ◌*◌, ◌<◌, ◌≤◌, Bool, true, false, cond, eqb, refl, ap, ◌∙◌, inl, inr, le-div_iff_mul-le, arith}
use native.Mathlib.Nat.{div-eq_of_lt-le}
use Rattle.std.proofs.lemmas.Bool.{cases_eq, cond-false, cond-true, eq-eqb, ne_eqb}
use Rattle.model.specs.InTime.{Partition, ceil, size, sum_before}
use Rattle.model.specs.Ranges.{sum_below}

pub sum_le : (n : ℕ) (f g : ℕ → ℕ) → ((j : ℕ) → j < n → f j ≤ g j) → sum_below n f ≤ sum_below n g
unfolding sum_below
sum_le zero f g h = omega arith
sum_le (suc n) f g h = omega (arith, sum_le n f g (λ j l. h j (omega arith)), h n (omega arith))

pub sum_add : (n : ℕ) (f g : ℕ → ℕ) → sum_below n (λ j. f j + g j) ≡ sum_below n f + sum_below n g
unfolding sum_below
sum_add zero f g = refl
sum_add (suc n) f g = omega (arith, sum_add n f g)

pub sum_same : (n : ℕ) (f g : ℕ → ℕ) → ((j : ℕ) → j < n → f j ≡ g j) → sum_below n f ≡ sum_below n g
sum_same n f g h =
    let a : sum_below n f ≤ sum_below n g = sum_le n f g (λ j l. omega (arith, h j l)) in
    let b : sum_below n g ≤ sum_below n f = sum_le n g f (λ j l. omega (arith, h j l)) in
    omega arith

pub sum_zero : (n : ℕ) (f : ℕ → ℕ) → ((j : ℕ) → j < n → f j ≡ 0) → sum_below n f ≡ 0
unfolding sum_below
sum_zero zero f h = refl
sum_zero (suc n) f h = omega (arith, sum_zero n f (λ j l. h j (omega arith)), h n (omega arith))

-- one summand
pub at : ℕ → ℕ → ℕ
at k j = cond (eqb j k) 1 0

pub at_same : (k : ℕ) → at k k ≡ 1
unfolding at
at_same k = cond-true (eqb k k) 1 0 (eq-eqb k k refl)

pub at_other : (k j : ℕ) → (j ≡ k → ⊥) → at k j ≡ 0
unfolding at
at_other k j h = cond-false (eqb j k) 1 0 (ne_eqb j k h)

module _ (k : ℕ) (f : ℕ → ℕ) (one : f k ≡ 1) (other : (j : ℕ) → (j ≡ k → ⊥) → f j ≡ 0) where
  pub sum_one : (n : ℕ) → k < n → sum_below n f ≡ 1
  unfolding sum_below
  sum_one zero l = omega arith
  sum_one (suc n) l =
      elim (cases_eq n k) [
        | inl e ↦ omega (arith, sum_zero n f (λ j m. other j (omega arith)), ap f e, one)
        | inr d ↦ omega (arith, sum_one n (omega arith), other n d)
      ]

pick_le : (b : Bool) (x y : ℕ) → (b ≡ true → x ≤ y) → cond b x 0 ≤ cond b y 0
pick_le true x y h = h refl
pick_le false x y h = omega arith

pick_add : (b : Bool) (x y : ℕ) → cond b (x + y) 0 ≡ cond b x 0 + cond b y 0
pick_add true x y = refl
pick_add false x y = refl

pick_zero : (b : Bool) → ◌≡◌ {A = ℕ} (cond b 0 0) 0
pick_zero true = refl
pick_zero false = refl

module _ (p : Partition) (i : ℕ) where
  pub before_le : (f g : ℕ → ℕ) → ((j : ℕ) → j < size p → p.before j i ≡ true → f j ≤ g j) → sum_before p i f ≤ sum_before p i g
  unfolding sum_before
  before_le f g h = sum_le (size p) _ _ (λ j l. pick_le (p.before j i) (f j) (g j) (h j l))

  pub before_add : (f g : ℕ → ℕ) → sum_before p i (λ j. f j + g j) ≡ sum_before p i f + sum_before p i g
  unfolding sum_before
  before_add f g = sum_same (size p) _ _ (λ j l. pick_add (p.before j i) (f j) (g j)) ∙ sum_add (size p) _ _

  pub before_zero : sum_before p i (λ _. 0) ≡ 0
  unfolding sum_before
  before_zero = sum_zero (size p) _ (λ j l. pick_zero (p.before j i))

  pub before_one : (k : ℕ) → k < size p → p.before k i ≡ true → sum_before p i (at k) ≡ 1
  unfolding sum_before
  before_one k l h =
      sum_one k (λ j. cond (p.before j i) (at k j) 0) (cond-true _ _ _ h ∙ at_same k) (λ j d. ap (λ x. cond (p.before j i) x 0) (at_other k j d) ∙ pick_zero (p.before j i)) (size p) l

  pub before_more : (e : ℕ → ℕ) (k : ℕ) → k < size p → p.before k i ≡ true → sum_before p i (λ j. e j + at k j) ≡ sum_before p i e + 1
  before_more e k l h = before_add e (at k) ∙ ap (λ x. sum_before p i e + x) (before_one k l h)

pub ceil_least : (k t d : ℕ) → 1 ≤ d → k * d ≤ t + d → k ≤ ceil (t + 1) d
unfolding ceil
ceil_least k t d h l = (le-div_iff_mul-le h).1 (omega arith)

pub ceil_is : (k t d : ℕ) → 1 ≤ d → k * d ≤ t + d → t < k * d → ceil (t + 1) d ≡ k
unfolding ceil
ceil_is k t d h l m = div-eq_of_lt-le d (omega arith) (omega arith)
