-- The starts that are tried decide the others.
use Rattle.std.proofs.Common.{◌≡◌, ℕ, zero, suc, ◌+◌, ◌-◌, ◌<◌, ◌≤◌, Bool, true, false, not, eqb, sym, refl, ap, ◌∙◌, inl, inr, arith}
use Rattle.std.proofs.lemmas.Bool.{and_from, cases_Bool, cases_eq, or_right}
use Rattle.model.specs.InTime.{Partition, PassesIn}
use Rattle.model.specs.SupplyFacts.{Repeats}
use Rattle.model.proofs.Gaps.{gaps_suffice, later, passes_at}
use Rattle.analysis.specs.Responses.{tried}
use Rattle.analysis.proofs.Growing.{passes_wider}

after_owned : (owns : ℕ → Bool) (s : ℕ) → owns s ≡ true → tried owns true (s + 1) ≡ true
after_owned owns s o = or_right (eqb (s + 1) 0) _ (and_from (owns (s + 1 - 1)) _ (ap owns (omega arith) ∙ o) refl)

gap_begins : (owns : ℕ → Bool) (first : Bool) (s : ℕ) → owns s ≡ true → owns (s + 1) ≡ false → tried owns first (s + 1) ≡ true
gap_begins owns first s o n =
    or_right (eqb (s + 1) 0) _ (and_from (owns (s + 1 - 1)) _ (ap owns (omega arith) ∙ o) (or_right first (not (owns (s + 1))) (ap not n)))

-- every start below n that is tried passes within r ticks
abbrev pub TriedPass : Partition → Bool → ℕ → ℕ → ℕ → Type 0
TriedPass p first i r n = (s : ℕ) → s < n → tried p.owns first s ≡ true → PassesIn p i r s

module _ (p : Partition) (first : Bool) (i r : ℕ) where
  pub tried_more : (n q : ℕ) → TriedPass p first i r n → r ≤ q → PassesIn p i q n → TriedPass p first i q (n + 1)
  tried_more n q h l v s m t = elim (cases_eq s n) [
    | inl z ↦ passes_at p i q (sym z) v
    | inr z ↦ passes_wider p i r q s l (h s (omega arith) t)
  ]

  pub tried_all : (f : ℕ) → Repeats p f → TriedPass p first i r f → (s : ℕ) → s < f → PassesIn p i r s
  tried_all f again h = gaps_suffice p f i r again (h 0 again.0 refl) (λ s l o n. h (s + 1) l (gap_begins p.owns first s o n))

-- when the first start that fails is wanted
pub tried_below : (p : Partition) (i r n : ℕ) → TriedPass p true i r n → (s : ℕ) → s < n → PassesIn p i r s
tried_below p i r n h zero l = h 0 l refl
tried_below p i r n h (suc s) l = elim (cases_Bool (p.owns s)) [
  | inl o ↦ passes_at p i r (omega arith) (h (s + 1) (omega arith) (after_owned p.owns s o))
  | inr o ↦ passes_at p i r (omega arith) (later p i r s o (tried_below p i r n h s (omega arith)))
]
