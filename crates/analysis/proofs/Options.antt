-- The value of an option, or the other one where it has none.
use Rattle.std.proofs.Common.{◌≡◌, Some, None, Option, ◌∙◌}
use Rattle.std.specs.Option.{MatchOption}

pub mapped_or : {A B : Type 0} (r d v : B) (o : Option A) (N : Type 0) (K P : A → Type 0) → MatchOption o N K → MatchOption o (r ≡ d) P → (N → d ≡ v) → ((x : A) → K x → P x → r ≡ v) → r ≡ v
mapped_or r d v None N K P a e f h = e ∙ f a
mapped_or r d v (Some x) N K P a e f h = h x a e
