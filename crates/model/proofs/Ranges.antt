-- Tests of the numbers below a bound, and searches for the least that passes.
use Rattle.std.proofs.Common.{◌≡◌, ℕ, zero, suc, ◌<◌, ◌≤◌, Bool, true, false, cond, ◌⊎◌, Some, None, Option, sym, refl, ap, ◌∙◌, subst, inl, inr, arith}
use Rattle.std.proofs.lemmas.Bool.{and_from, and_parts, both_ways, cases_Bool, cases_eq, or_cases, or_left, or_right}
use Rattle.model.specs.Ranges.{all_below, first_found, least_below, or_else, some_upto}

pub some_from : (f : ℕ → Bool) (n : ℕ) → some_upto f n ≡ true → (t : ℕ) × (1 ≤ t) × (t ≤ n) × (f t ≡ true)
unfolding some_upto
some_from f zero h = absurd (both_ways false refl h)
some_from f (suc n) h = elim (or_cases _ _ h) [
  | inl y ↦ (suc n, omega arith, omega arith, y)
  | inr y ↦ let v = some_from f n y in (v.0, v.1, omega (arith, v.2), v.3)
]

pub to_some : (f : ℕ → Bool) (n t : ℕ) → 1 ≤ t → t ≤ n → f t ≡ true → some_upto f n ≡ true
unfolding some_upto
to_some f zero t a b h = absurd (omega arith)
to_some f (suc n) t a b h = elim (cases_eq t (suc n)) [
  | inl z ↦ or_left _ _ (ap f (sym z) ∙ h)
  | inr z ↦ or_right _ _ (to_some f n t a (omega arith) h)
]

pub all_from : (f : ℕ → Bool) (n : ℕ) → all_below f n ≡ true → (j : ℕ) → j < n → f j ≡ true
unfolding all_below
all_from f zero h j l = absurd (omega arith)
all_from f (suc n) h j l =
    let v = and_parts _ _ h in
    elim (cases_eq j n) [ inl z ↦ ap f z ∙ v.0 | inr z ↦ all_from f n v.1 j (omega arith) ]

pub to_all : (f : ℕ → Bool) (n : ℕ) → ((j : ℕ) → j < n → f j ≡ true) → all_below f n ≡ true
unfolding all_below
to_all f zero h = refl
to_all f (suc n) h = and_from _ _ (h n (omega arith)) (to_all f n (λ j l. h j (omega arith)))

-- some number below n of the one kind, or all of the other
pub find_below : (n : ℕ) (A B : ℕ → Type 0) → ((j : ℕ) → A j ⊎ B j) → ((j : ℕ) × (j < n) × A j) ⊎ ((j : ℕ) → j < n → B j)
find_below zero A B d = inr (λ j l. absurd (omega arith))
find_below (suc n) A B d = elim (d n) [
  | inl a ↦ inl (n, omega arith, a)
  | inr b ↦ elim (find_below n A B d) [
    | inl v ↦ inl (v.0, omega (arith, v.1), v.2)
    | inr h ↦ inr (λ j l. elim (cases_eq j n) [ inl z ↦ subst B (sym z) b | inr z ↦ h j (omega arith) ])
  ]
]

-- The least number at which something is found.

or_none : {A : Type 0} (o q : Option A) → or_else o q ≡ None → (o ≡ None) × (q ≡ None)
unfolding or_else
or_none (Some a) q e = cc
or_none None q e = (refl, e)

module _ {A : Type 0} (f : ℕ → Option A) where
  pub found_none : (n : ℕ) → first_found f n ≡ None → (k : ℕ) → k < n → f k ≡ None
  unfolding first_found
  found_none zero e k l = absurd (omega arith)
  found_none (suc n) e k l =
      let w = or_none (first_found f n) (f n) e in
      elim (cases_eq k n) [ inl z ↦ ap f z ∙ w.1 | inr z ↦ found_none n w.0 k (omega arith) ]

  pub none_found : (n : ℕ) → ((k : ℕ) → k < n → f k ≡ None) → first_found f n ≡ None
  unfolding first_found or_else
  none_found zero h = refl
  none_found (suc n) h = ap (λ o. or_else o (f n)) (none_found n (λ k l. h k (omega arith))) ∙ h n (omega arith)

  pub some_found : (n k : ℕ) (a : A) → k < n → ((j : ℕ) → j < k → f j ≡ None) → f k ≡ Some a → first_found f n ≡ Some a
  unfolding first_found or_else
  some_found zero k a l h e = absurd (omega arith)
  some_found (suc n) k a l h e = elim (cases_eq n k) [
    | inl z ↦ ap (λ o. or_else o (f n)) (none_found n (λ j m. h j (omega arith))) ∙ ap f z ∙ e
    | inr z ↦ ap (λ o. or_else o (f n)) (some_found n k a (omega arith) h e)
  ]

  -- where something is found, there is a least place of it
  pub record Found_at (n : ℕ) (a : A) : Type 0 where
    pub place : ℕ
    pub below : place < n
    pub here : f place ≡ Some a
    pub first : (j : ℕ) → j < place → f j ≡ None

  pub found_some : (n : ℕ) (a : A) → first_found f n ≡ Some a → Found_at n a
  unfolding first_found or_else
  found_some zero a e = cc
  found_some (suc n) a e = go (first_found f n) refl (found_some n) e
    where
      go : (o : Option A) → first_found f n ≡ o → ((b : A) → first_found f n ≡ Some b → Found_at n b) → or_else o (f n) ≡ Some a → Found_at (suc n) a
      go (Some b) q ih r =
          let w : Found_at n a = ih a (q ∙ r) in
          record { place = w.place; below = omega (arith, w.below); here = w.here; first = w.first }
      go None q ih r = record { place = n; below = omega arith; here = r; first = found_none n q }

module _ (test : ℕ → Bool) where
  abbrev at_test : ℕ → Option ℕ
  at_test k = cond (test k) (Some k) None

  test_none : (k : ℕ) → test k ≡ false → at_test k ≡ None
  test_none k e = ap {B = Option ℕ} (λ b. cond b (Some k) None) e

  none_test : (k : ℕ) → at_test k ≡ None → test k ≡ false
  none_test k e = elim (cases_Bool (test k)) [
    | inl y ↦ cc (sym e ∙ ap {B = Option ℕ} (λ b. cond b (Some k) None) y)
    | inr y ↦ y
  ]

  some_test : (k j : ℕ) → at_test k ≡ Some j → (k ≡ j) × (test k ≡ true)
  some_test k j e = elim (cases_Bool (test k)) [
    | inl y ↦ let q : Some k ≡ Some j = sym (ap {B = Option ℕ} (λ b. cond b (Some k) None) y) ∙ e in let z : k ≡ j = cc in (z, y)
    | inr y ↦ cc (sym (test_none k y) ∙ e)
  ]

  -- k is the least number below n that passes
  pub record Least (n k : ℕ) : Type 0 where
    pub below : k < n
    pub holds : test k ≡ true
    pub least : (j : ℕ) → j < k → test j ≡ false

  pub least_none : (n : ℕ) → least_below test n ≡ None → (k : ℕ) → k < n → test k ≡ false
  unfolding least_below
  least_none n e k l = none_test k (found_none at_test n e k l)

  pub none_least : (n : ℕ) → ((k : ℕ) → k < n → test k ≡ false) → least_below test n ≡ None
  unfolding least_below
  none_least n h = none_found at_test n (λ k l. test_none k (h k l))

  pub least_some : (n k : ℕ) → least_below test n ≡ Some k → Least n k
  unfolding least_below
  least_some n k e =
      let w : Found_at at_test n k = found_some at_test n k e in
      let v = some_test w.place k w.here in
      record { below = omega (arith, w.below, v.0); holds = ap test (sym v.0) ∙ v.1; least = λ j l. none_test j (w.first j (omega (arith, v.0))) }

  pub some_least : (n k : ℕ) → Least n k → least_below test n ≡ Some k
  unfolding least_below
  some_least n k h =
      some_found at_test n k k h.below (λ j l. test_none j (h.least j l)) (ap {B = Option ℕ} (λ b. cond b (Some k) None) h.holds)
