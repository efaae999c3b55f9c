-- Which starts decide.
use Rattle.std.proofs.Common.{◌≡◌, ℕ, zero, suc, ◌+◌, ◌-◌, ◌%◌, ◌<◌, ◌≤◌, true, false, cond, ltb, List, refl, ap, ◌∙◌, subst, inl, inr, mod-eq_of_lt, add-one, arith}
use native.Mathlib.Nat.{add-mod_right, mod_self}
use Rattle.std.proofs.lemmas.Bool.{cases_Bool, cases_eq, lt-ltb, ltb-false, ltb-true}
use Rattle.model.specs.declared.task.Task.{Task}
use Rattle.model.specs.InTime.{Partition, PassesIn, demand, size, sum_before, supply}
use Rattle.model.specs.Orders.{Order}
use Rattle.model.specs.Planning.{with_first}
use Rattle.model.specs.SupplyFacts.{Repeats, StartsThatDecide}
use Rattle.model.proofs.Sums.{sum_le}
use Rattle.model.proofs.Supplies.{supply_front, supply_grows, supply_more, supply_round}

module _ (p : Partition) where
  later_supply : (s t : ℕ) → p.owns s ≡ false → supply p s t ≤ supply p (s + 1) t
  later_supply s t e = omega (arith, supply_front p s t, supply_more p s t, ap {B = ℕ} (λ b. cond b 1 0) e)

  earlier_supply : (s t : ℕ) → p.owns s ≡ true → supply p (s + 1) t ≤ supply p s t
  earlier_supply s t e = omega (arith, supply_front p s t, supply_grows p s t 1, ap {B = ℕ} (λ b. cond b 1 0) e)

pub later : (p : Partition) (i r s : ℕ) → p.owns s ≡ false → PassesIn p i r s → PassesIn p i r (s + 1)
later p i r s e v = (v.0, v.1, v.2, omega (arith, v.3, later_supply p s v.0 e))

pub earlier : (p : Partition) (i r s : ℕ) → p.owns s ≡ true → PassesIn p i r (s + 1) → PassesIn p i r s
earlier p i r s e v = (v.0, v.1, v.2, omega (arith, v.3, earlier_supply p s v.0 e))

pub passes_at : (p : Partition) (i r : ℕ) {a b : ℕ} → a ≡ b → PassesIn p i r a → PassesIn p i r b
passes_at p i r e v = let P : ℕ → Type 0 = λ s. PassesIn p i r s in subst P e v

module _ (p : Partition) (f i r : ℕ) (again : Repeats p f) (none : PassesIn p i r 0)
    (gaps : (s : ℕ) → s + 1 < f → p.owns s ≡ true → p.owns (s + 1) ≡ false → PassesIn p i r (s + 1)) where
  at_end : PassesIn p i r f
  at_end = (none.0, none.1, none.2, omega (arith, none.3, supply_round p f 0 none.0 again, ap (λ x. supply p x none.0) zero_plus))
    where
      zero_plus : 0 + f ≡ f
      zero_plus = omega arith

  owned : (k s : ℕ) → s + k ≡ f → p.owns s ≡ true → PassesIn p i r s
  owned zero s e o = passes_at p i r (omega arith) at_end
  owned (suc k) s e o =
      earlier p i r s o (elim (cases_Bool (p.owns (s + 1))) [
        | inl y ↦ owned k (s + 1) (omega arith) y
        | inr n ↦ elim (cases_eq f (s + 1)) [ inl z ↦ passes_at p i r z at_end | inr d ↦ gaps s (omega arith) o n ]
      ])

  free : (s : ℕ) → s < f → p.owns s ≡ false → PassesIn p i r s
  free zero l o = none
  free (suc s) l o = elim (cases_Bool (p.owns s)) [
    | inl y ↦ passes_at p i r (omega arith) (gaps s (omega arith) y (rw add-one o))
    | inr n ↦ passes_at p i r (omega arith) (later p i r s n (free s (omega arith) n))
  ]

  pub gaps_suffice : (s : ℕ) → s < f → PassesIn p i r s
  gaps_suffice s l = elim (cases_Bool (p.owns s)) [ inl y ↦ owned (f - s) s (omega arith) y | inr n ↦ free s l n ]

-- With the first q places of each frame.
module _ (order : Order) (n : ℕ) (ks : List Task) (f : ℕ) where
  abbrev P : ℕ → Partition
  P q = with_first order n ks f q

  pub first_again : (q : ℕ) → 1 ≤ f → Repeats (P q) f
  first_again q h = (h, λ u. ap (λ x. ltb x q) (add-mod_right u f))

  module _ (q i r : ℕ) where
    first_has : (s : ℕ) → s < f → s < q → (P q).owns s ≡ true
    first_has s l h = rw (mod-eq_of_lt l) (lt-ltb s q h)

    first_lacks : (s : ℕ) → s < f → (P q).owns s ≡ false → q ≤ s
    first_lacks s l h = ltb-false s q (rw (mod-eq_of_lt l) at h)

    first_owns : (s : ℕ) → s < f → (P q).owns s ≡ true → s < q
    first_owns s l h = ltb-true s q (rw (mod-eq_of_lt l) at h)

    back : (k s : ℕ) → s + k ≡ q → q < f → PassesIn (P q) i r q → PassesIn (P q) i r s
    back zero s e l v = passes_at (P q) i r (omega arith) v
    back (suc k) s e l v = earlier (P q) i r s (first_has s (omega arith) (omega arith)) (back k (s + 1) (omega arith) l v)

    pub one_suffices : 1 ≤ f → q ≤ f → PassesIn (P q) i r (q % f) → (s : ℕ) → s < f → PassesIn (P q) i r s
    one_suffices h l v = elim (cases_eq q f) [
      | inl z ↦
          let y : q % f ≡ 0 = ap (λ x. x % f) z ∙ mod_self f in
          gaps_suffice (P q) f i r (first_again q h) (passes_at (P q) i r y v) (λ s m a b. absurd (omega (arith, first_lacks (s + 1) m b)))
      | inr d ↦
          let m : q < f = omega arith in
          let w : PassesIn (P q) i r q = passes_at (P q) i r (mod-eq_of_lt m) v in
          gaps_suffice (P q) f i r (first_again q h) (back q 0 (omega arith) m w)
          (λ s k a b. let e : q ≡ s + 1 = omega (arith, first_lacks (s + 1) k b, first_owns s (omega arith) a) in passes_at (P q) i r e w)
    ]

  more_owned : (x q r : ℕ) → q ≤ r → cond (ltb x q) 1 0 ≤ cond (ltb x r) 1 0
  more_owned x q r h = elim (cases_Bool (ltb x q)) [
    | inl y ↦ rw (y, lt-ltb x r (omega (arith, ltb-true x q y))) (omega arith)
    | inr z ↦ rw z (omega arith)
  ]

  first_demand : (q r i t : ℕ) → demand (P q) i t ≡ demand (P r) i t
  unfolding demand sum_before size
  first_demand q r i t = refl

  supply_wider : (q r s t : ℕ) → q ≤ r → supply (P q) s t ≤ supply (P r) s t
  unfolding supply
  supply_wider q r s t h = sum_le t _ _ (λ u l. more_owned ((s + u) % f) q r h)

  pub no_worse : (q more i r s : ℕ) → q ≤ more → PassesIn (P q) i r s → PassesIn (P more) i r s
  no_worse q more i r s h v = (v.0, v.1, v.2, omega (arith, v.3, first_demand q more i v.0, supply_wider q more s v.0 h))

pub starts : StartsThatDecide
starts = record { later_supply = later_supply; earlier_supply = earlier_supply; more_supply = supply_wider; later = later; earlier = earlier; gaps_suffice = gaps_suffice; one_suffices = one_suffices; more_is_no_worse = no_worse }
