-- A result whose error was mapped, from the one that it was mapped to.
use Rattle.std.proofs.Common.{◌≡◌, Ok, Err, Result, refl, subst, MatchResult, IsErrAnd}

module _ {A E F : Type 0} (P : E → F → Type 0) where
  pub mapped_ok : (r : Result A E) (m : Result A F) (x : A) → MatchResult r (λ y. m ≡ Ok y) (λ e. IsErrAnd m (P e)) → m ≡ Ok x → r ≡ Ok x
  mapped_ok (Ok y) m x same is = cc
  mapped_ok (Err e) m x bad is = absurd (subst (λ m. IsErrAnd m (P e)) is bad)

  pub mapped_err : (r : Result A E) (m : Result A F) (z : F) → MatchResult r (λ y. m ≡ Ok y) (λ e. IsErrAnd m (P e)) → m ≡ Err z → (e : E) × (r ≡ Err e) × P e z
  mapped_err (Ok y) m z same is = absurd cc
  mapped_err (Err e) m z bad is = (e, refl, subst (λ m. IsErrAnd m (P e)) is bad)
