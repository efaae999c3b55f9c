-- The first multiple of a period from a tick on.
use Rattle.std.proofs.Common.{◌≡◌, ℕ, suc, ◌+◌, ◌-◌, ◌%◌, ◌<◌, ◌≤◌, sym, ap, ◌∙◌, inl, inr, mod-eq_of_lt, arith}
use native.Mathlib.Nat.{add-mod_right, mod-add-mod}
use Rattle.std.proofs.lemmas.Bool.{cases_lt}

-- x is the first multiple of t from the tick `from` on
pub record FirstMultiple (t from x : ℕ) : Type 0 where
  pub whole : x % t ≡ 0
  pub low : from ≤ x
  pub high : x < from + t

module _ (t u : ℕ) where
  -- at a multiple it is that tick itself
  pub multiple_here : (x : ℕ) → FirstMultiple t u x → u % t ≡ 0 → x ≡ u
  multiple_here x h z =
      let low : u ≤ x = h.low in
      let high : x < u + t = h.high in
      let small : x - u < t = omega arith in
      let from_u : x ≡ u + (x - u) = omega arith in
      let rest : u % t + (x - u) ≡ x - u = omega arith in
      let none : x - u ≡ 0 = sym (mod-eq_of_lt small) ∙ ap (λ y. y % t) (sym rest) ∙ mod-add-mod u t (x - u) ∙ ap (λ y. y % t) (sym from_u) ∙ h.whole in
      omega arith

  -- elsewhere it lies ahead
  pub multiple_ahead : (x : ℕ) → FirstMultiple t u x → (u % t ≡ 0 → ⊥) → FirstMultiple t (suc u) x
  multiple_ahead x h z =
      let low : u ≤ x = h.low in
      let high : x < u + t = h.high in
      let ahead : u < x = elim (cases_lt u x) [ inl l ↦ l | inr l ↦ let same : u ≡ x = omega arith in absurd (z (ap (λ y. y % t) same ∙ h.whole)) ] in
      record { whole = h.whole; low = omega arith; high = omega arith }

  -- and after a multiple it is a period on
  pub multiple_on : 1 ≤ t → u % t ≡ 0 → FirstMultiple t (suc u) (u + t)
  multiple_on pos z = record { whole = add-mod_right u t ∙ z; low = omega arith; high = omega arith }
