-- Of the numbers that pass a test, the one that goes first.
use Rattle.std.proofs.Common.{◌≡◌, ℕ, zero, suc, ◌<◌, ◌≤◌, Bool, true, false, cond, ◌⊎◌, Some, None, Option, sym, refl, ap, ◌∙◌, ap₂, inl, inr, arith}
use Rattle.std.proofs.lemmas.Bool.{cases_eq, both_ways, cond_both}
use Rattle.model.specs.Ranges.{first_of, first_such}

-- k passes, and goes before every other number below m that passes
pub record First (goes : ℕ → ℕ → Bool) (test : ℕ → Bool) (m k : ℕ) : Type 0 where
  pub below : k < m
  pub holds : test k ≡ true
  pub least : (j : ℕ) → j < m → test j ≡ true → (j ≡ k) ⊎ (goes k j ≡ true)

-- no number below m passes
abbrev pub NonePasses : (ℕ → Bool) → ℕ → Type 0
NonePasses test m = (j : ℕ) → j < m → test j ≡ false

abbrev pub Found : (ℕ → ℕ → Bool) → (ℕ → Bool) → ℕ → Option ℕ → Type 0
Found goes test m None = NonePasses test m
Found goes test m (Some k) = First goes test m k

module _ (goes : ℕ → ℕ → Bool) (test : ℕ → Bool) (n : ℕ)
    (transitive : (i j k : ℕ) → goes i j ≡ true → goes j k ≡ true → goes i k ≡ true)
    (total : (i j : ℕ) → i < n → j < n → (i ≡ j) ⊎ ((goes i j ≡ true) ⊎ (goes j i ≡ true))) where
  none_more : (m : ℕ) → test m ≡ false → NonePasses test m → NonePasses test (suc m)
  none_more m c h j l = elim (cases_eq j m) [ inl e ↦ ap test e ∙ c | inr d ↦ h j (omega arith) ]

  old_stays : (m k : ℕ) → test m ≡ false → First goes test m k → First goes test (suc m) k
  old_stays m k c h = record {
    below = omega (arith, h.below);
    holds = h.holds;
    least = λ j l o. elim (cases_eq j m) [
      | inl e ↦ absurd (both_ways _ c (ap test (sym e) ∙ o))
      | inr d ↦ h.least j (omega arith) o
    ];
  }

  new_alone : (m : ℕ) → test m ≡ true → NonePasses test m → First goes test (suc m) m
  new_alone m c h = record {
    below = omega arith;
    holds = c;
    least = λ j l o. elim (cases_eq j m) [ inl e ↦ inl e | inr d ↦ absurd (both_ways _ (h j (omega arith)) o) ];
  }

  new_first : (m k : ℕ) → test m ≡ true → goes m k ≡ true → First goes test m k → First goes test (suc m) m
  new_first m k c b h = record {
    below = omega arith;
    holds = c;
    least = λ j l o. elim (cases_eq j m) [
      | inl e ↦ inl e
      | inr d ↦ elim (h.least j (omega arith) o) [
        | inl e ↦ inr (ap (goes m) e ∙ b)
        | inr f ↦ inr (transitive m k j b f)
      ]
    ];
  }

  old_first : (m k : ℕ) → m < n → goes m k ≡ false → First goes test m k → First goes test (suc m) k
  old_first m k s b h = record {
    below = omega (arith, h.below);
    holds = h.holds;
    least = λ j l o. elim (cases_eq j m) [
      | inl e ↦ elim (total m k s (omega (arith, h.below))) [
        | inl f ↦ absurd (omega (arith, h.below))
        | inr f ↦ elim f [
          | inl g ↦ absurd (both_ways _ b g)
          | inr g ↦ inr (ap (goes k) e ∙ g)
        ]
      ]
      | inr d ↦ h.least j (omega arith) o
    ];
  }

  which_first : (m k : ℕ) → m < n → test m ≡ true → First goes test m k → (b : Bool) → goes m k ≡ b → First goes test (suc m) (cond b m k)
  which_first m k s c h true e = new_first m k c e h
  which_first m k s c h false e = old_first m k s e h

  grow : (m : ℕ) → m < n → (r : Option ℕ) (c : Bool) → test m ≡ c → Found goes test m r → Found goes test (suc m) (cond c (Some (first_of goes m r)) r)
  unfolding first_of
  grow m s None true e h = new_alone m e h
  grow m s None false e h = none_more m e h
  grow m s (Some k) true e h = which_first m k s e h (goes m k) refl
  grow m s (Some k) false e h = old_stays m k e h

  pub found : (m : ℕ) → m ≤ n → Found goes test m (first_such goes test m)
  unfolding first_such
  found zero l = λ j m. absurd (omega arith)
  found (suc m) l = grow m l (first_such goes test m) (test m) refl (found m (omega arith))

picked : (goes : ℕ → ℕ → Bool) (n : ℕ) (o : Option ℕ) → ((j : ℕ) → o ≡ Some j → j < n) → first_of goes n o < suc n
unfolding first_of
picked goes n None ih = omega arith
picked goes n (Some j) ih = cond_both (goes n j) n j (λ x. x < suc n) (λ _. omega arith) (λ _. omega (arith, ih j refl))

pub first_below : (goes : ℕ → ℕ → Bool) (test : ℕ → Bool) (n k : ℕ) → first_such goes test n ≡ Some k → k < n
unfolding first_such
first_below goes test zero k e = cc
first_below goes test (suc n) k e = go (test n) (first_such goes test n) (first_below goes test n) e
  where
    go : (b : Bool) (o : Option ℕ) → ((j : ℕ) → o ≡ Some j → j < n) → cond b (Some (first_of goes n o)) o ≡ Some k → k < suc n
    go true o ih q = let z : first_of goes n o ≡ k = cc in omega (arith, picked goes n o ih)
    go false o ih q = omega (arith, ih k q)

same_of : (goes also : ℕ → ℕ → Bool) (n : ℕ) (o : Option ℕ) → ((j : ℕ) → o ≡ Some j → goes n j ≡ also n j) → first_of goes n o ≡ first_of also n o
unfolding first_of
same_of goes also n None h = refl
same_of goes also n (Some j) h = ap (λ b. cond b n j) (h j refl)

-- two ways of going first that agree below n
pub first_same : (goes also : ℕ → ℕ → Bool) (test : ℕ → Bool) (n : ℕ) → ((j k : ℕ) → j < n → k < n → goes j k ≡ also j k) →
    first_such goes test n ≡ first_such also test n
unfolding first_such
first_same goes also test zero h = refl
first_same goes also test (suc n) h =
    let e : first_such goes test n ≡ first_such also test n = first_same goes also test n (λ j k a b. h j k (omega arith) (omega arith)) in
    ap₂ (λ a o. cond (test n) (Some a) o)
    (same_of goes also n (first_such goes test n) (λ j q. h n j (omega arith) (omega (arith, first_below goes test n j q))) ∙ ap (first_of also n) e) e
