-- Supply: how it splits, comes round and grows.
use Rattle.std.proofs.Common.{◌≡◌, ℕ, zero, suc, ◌+◌, ◌*◌, ◌/◌, ◌%◌, ◌<◌, ◌≤◌, Bool, true, false, cond, sym, refl, ap, ◌∙◌, mod-lt, add-one, arith}
use native.Mathlib.Nat.{mod-add-div'}
use Rattle.model.specs.InTime.{C, Partition, PassesIn, T, ceil, demand, sum_before, supply}
use Rattle.model.specs.Ranges.{sum_below}
use Rattle.model.specs.SupplyFacts.{Repeats, SupplyFacts}
use Rattle.model.proofs.Sums.{sum_same}

abbrev one : Bool → ℕ
one b = cond b 1 0

one_at_most : (b : Bool) → one b ≤ 1
one_at_most true = omega arith
one_at_most false = omega arith

module _ (p : Partition) where
  abbrev owns_one : ℕ → ℕ
  owns_one x = one (p.owns x)

  pub supply_none : (s : ℕ) → supply p s 0 ≡ 0
  unfolding supply sum_below
  supply_none s = refl

  pub supply_more : (s t : ℕ) → supply p s (t + 1) ≡ supply p s t + cond (p.owns (s + t)) 1 0
  unfolding supply sum_below
  supply_more s t = rw add-one refl

  pub supply_splits : (s a b : ℕ) → supply p s (a + b) ≡ supply p s a + supply p (s + a) b
  supply_splits s a zero = let e : supply p s (a + 0) ≡ supply p s a = ap (supply p s) (omega arith) in omega (arith, e, supply_none (s + a))
  supply_splits s a (suc b) =
      let e : supply p s (a + suc b) ≡ supply p s (a + b + 1) = ap (supply p s) (omega arith) in
      let f : supply p (s + a) (suc b) ≡ supply p (s + a) (b + 1) = ap (supply p (s + a)) (omega arith) in
      let o : owns_one (s + (a + b)) ≡ owns_one (s + a + b) = ap owns_one (omega arith) in
      omega (arith, e, f, o, supply_more s (a + b), supply_more (s + a) b, supply_splits s a b)

  supply_one : (s : ℕ) → supply p s 1 ≡ owns_one s
  supply_one s =
      let z : owns_one (s + 0) ≡ owns_one s = ap owns_one (omega arith) in
      let e : supply p s 1 ≡ supply p s (0 + 1) = ap (supply p s) (omega arith) in
      omega (arith, e, z, supply_more s 0, supply_none s)

  pub supply_front : (s t : ℕ) → supply p s (t + 1) ≡ owns_one s + supply p (s + 1) t
  supply_front s t = let e : supply p s (t + 1) ≡ supply p s (1 + t) = ap (supply p s) (omega arith) in omega (arith, e, supply_splits s 1 t, supply_one s)

  supply_at_most : (s t : ℕ) → supply p s t ≤ t
  supply_at_most s zero = omega (arith, supply_none s)
  supply_at_most s (suc t) =
      let e : supply p s (suc t) ≡ supply p s (t + 1) = ap (supply p s) (omega arith) in
      omega (arith, e, supply_more s t, supply_at_most s t, one_at_most (p.owns (s + t)))

  pub supply_grows : (s a b : ℕ) → (supply p s a ≤ supply p s (a + b)) × (supply p s (a + b) ≤ supply p s a + b)
  supply_grows s a b = let e = supply_splits s a b in let m = supply_at_most (s + a) b in (omega arith, omega arith)

  owns_again : (f : ℕ) → Repeats p f → (k u : ℕ) → p.owns (u + k * f) ≡ p.owns u
  owns_again f r zero u = ap p.owns (omega arith)
  owns_again f r (suc k) u = let e : u + suc k * f ≡ u + k * f + f = omega arith in ap p.owns e ∙ r.1 (u + k * f) ∙ owns_again f r k u

  -- any number of frames later the supply is the same
  supply_frames : (f : ℕ) → Repeats p f → (k s t : ℕ) → supply p (s + k * f) t ≡ supply p s t
  unfolding supply
  supply_frames f r k s t = sum_same t _ _ (λ u l. ap one (ap p.owns (omega arith) ∙ owns_again f r k (s + u)))

  pub supply_round : (f s t : ℕ) → Repeats p f → supply p (s + f) t ≡ supply p s t
  supply_round f s t r = ap (λ x. supply p x t) (omega arith) ∙ supply_frames f r 1 s t

  supply_again : (f : ℕ) → Repeats p f → (s t : ℕ) → supply p (s % f) t ≡ supply p s t
  supply_again f r s t = sym (supply_frames f r (s / f) (s % f) t) ∙ ap (λ x. supply p x t) (omega (arith, mod-add-div' s f))

  -- what passes at each start below f passes at every start
  pub passes_everywhere : (f i r : ℕ) → Repeats p f → ((s : ℕ) → s < f → PassesIn p i r s) → (s : ℕ) → PassesIn p i r s
  passes_everywhere f i r again h s =
      let v : PassesIn p i r (s % f) = h (s % f) (mod-lt s again.0) in
      (v.0, v.1, v.2, rw (supply_again f again s v.0) at v.3)

  pub demand_pos : (i t : ℕ) → C p i ≤ demand p i t
  unfolding demand
  demand_pos i t = omega arith

  pub demand_is : (i t : ℕ) → demand p i t ≡ C p i + sum_before p i (λ j. C p j * ceil t (T p j))
  unfolding demand
  demand_is i t = refl

pub supply_facts : SupplyFacts
supply_facts = record { splits = supply_splits; comes_round = supply_round; grows = supply_grows }
